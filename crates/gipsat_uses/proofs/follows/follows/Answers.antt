-- The negations of the clause's literals were assumed.
use Rattle.std.proofs.Common.{refl}
use Rattle.std.proofs.lemmas.Bool.{false≢true}
use Rattle.gipsat_cnf.proofs.Follows.{Implies-core, Implies-unless}
use Rattle.gipsat_uses.proofs.follows.follows.Goals as goal

pub returns-in-Sat-clause-follows : goal.returns-in-Sat-clause-follows
returns-in-Sat-clause-follows g c =
    let model = rw (c.in-Sat.is, c.deref.ensures.value, c.in_ok-literals.ensures) at c.in_ok-solve_limited.ensures.right in
    (λ no. absurd (false≢true no), λ implied. absurd (Implies-unless _ _ _ model implied))

pub returns-in-Unsat-clause-follows : goal.returns-in-Unsat-clause-follows
returns-in-Unsat-clause-follows g c =
    let core = rw (c.in-Unsat.is, c.deref.ensures.value, c.in_ok-literals.ensures) at c.in_ok-solve_limited.ensures.right in
    (λ yes_it_does. Implies-core _ _ _ core, λ implied. refl)
