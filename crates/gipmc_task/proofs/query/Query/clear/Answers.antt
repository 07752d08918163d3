-- If a depth is known, nothing fails up to it.
use Rattle.std.proofs.Common.{◌≡◌, Some, subst, sym}
use Rattle.std.specs.Prelude.{slice_get}
use Rattle.gipmc_task.specs.Answers.{IsKnown}
use Rattle.gipmc_task.proofs.Told.{some_clear}
use Rattle.gipmc_task.proofs.query.Query.clear.Goals as goal

pub returns-clause-clear : goal.returns-clause-clear
returns-clause-clear g c =
    let now = c.args.self.now in
    let known = c.told-known.result in
    some_clear c.depth_of.result known now.whole.now.circuit now.bads.now c.args.at c.depth_of.ensures
    (λ bad here. subst (λ w. IsKnown w.now.circuit bad known) c.go_on.ensures.whole
    (c.told-known.ensures bad (subst (λ b. slice_get b.now c.args.at ≡ Some bad) (sym c.go_on.ensures.bads) here)))
