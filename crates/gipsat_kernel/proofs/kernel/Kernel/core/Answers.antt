use Rattle.std.proofs.Common.{◌≡◌, map, subst, ◌∙◌}
use Rattle.gipsat_cnf.specs.Prelude.{AreHadBy, Implies, negated}
use Rattle.gipsat_kernel.proofs.Verdicts.{IsCore-negations}
use Rattle.gipsat_kernel.proofs.kernel.Kernel.core.Goals as goal

pub returns-clause-core : goal.returns-clause-core
returns-clause-core c =
    let implied : Implies c.args.self.now c.clause.result.now =
    subst (λ f. Implies f c.clause.result.now) c.self.view_is (c.self.invariant.implied c.args.id c.clause.result.now c.clause.ensures)
    in
    let is : c.deref.result.now ≡ map negated c.clause.result.now = c.deref.ensures.value ∙ c.in_ok-core.ensures in
    rw c.in_ok-core.ensures
    (IsCore-negations c.args.self.now c.clause.result.now c.args.assumptions.now implied
    (subst (AreHadBy c.args.assumptions.now) is c.if-not-is_part.ensures))
