use Rattle.std.proofs.Common.{◌≡◌, ap, subst, ◌∙◌}
use Rattle.gipsat_cnf.specs.Formulas.{Implies}
use Rattle.gipsat_kernel.specs.Kernel.{original_among}
use Rattle.gipsat_kernel.specs.Rat.{KeepsSatisfiable}
use Rattle.gipsat_kernel.proofs.RatLemmas.{Implies-taken-part, KeepsSatisfiable-added, truncated}
use Rattle.gipsat_kernel.proofs.rat.RatKernel.conclude.Goals as goal

pub returns : goal.returns
returns c =
    let fs = c.self.inside.held.items in
    let cs = c.self.inside.clauses in
    let formula = original_among fs cs in
    let clause = c.args.clause.now in
    let taken = c.in_ok-take_into.ensures.taken in
    let left : c.truncate.new.self ≡ c.self.inside.clauses =
    c.truncate.ensures ∙ truncated cs c.take_into.new.clauses c.self.inside.marks c.len-len.result taken c.len-len.ensures
    in
    let implied : Implies (original_among c.self.inside.held.items c.self.inside.clauses) c.args.clause.now =
    Implies-taken-part fs cs c.take_into.new.clauses c.self.inside.noted c.self.inside.marks c.self.inside.is_open c.len-len.result c.clause.result.now clause
    c.if-not-self.false taken c.len-len.ensures c.clause.ensures c.if-not-follows.ensures c.self.invariant
    in
    subst (λ old. KeepsSatisfiable old c.add_clause.new.self) c.self.view_is
    (KeepsSatisfiable-added formula (original_among fs c.truncate.new.self) c.add_clause.new.self clause (ap (original_among fs) left)
    c.in_ok-add_clause.ensures.added implied)
