-- The formula is that of all pairs.
use Rattle.std.proofs.Common.{◌≡◌, map, arith, IsTrue, subst, sym}
use Rattle.std.proofs.lemmas.Grind.{common_steps}
use Rattle.gipsat_cnf.specs.Prelude.{assignment_in, satisfies}
use Rattle.gipsat_uses.specs.Incremental.{either}
use Rattle.gipsat_uses.proofs.Incrementals.{covers, covered}
use Rattle.gipsat_uses.proofs.Outcomes.{found-weaker, missing-weaker}
use Rattle.gipsat_uses.proofs.incremental.cover_by.Goals as goal

pub returns-clause-covers : goal.returns-clause-covers
returns-clause-covers g c =
    let all : g.S.ClauseSink.formula c.loop-first.solver ≡ map either c.args.pairs.now = grind (arith, common_steps) in
    found-weaker c.find_model.result _ _
    (λ model sat. covers (assignment_in model.items) c.args.pairs.now (subst (λ f. IsTrue (satisfies (assignment_in model.items) f)) all sat))
    c.find_model.ensures.model

pub returns-clause-none : goal.returns-clause-none
returns-clause-none g c =
    let all : g.S.ClauseSink.formula c.loop-first.solver ≡ map either c.args.pairs.now = grind (arith, common_steps) in
    missing-weaker c.find_model.result
    (λ none a is. none (a, subst (λ f. IsTrue (satisfies a f)) (sym all) (covered a c.args.pairs.now is))) c.find_model.ensures.none
