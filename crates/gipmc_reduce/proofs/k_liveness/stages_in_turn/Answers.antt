-- One stage more waits for the next literal.
use Rattle.std.proofs.Common.{◌≡◌, suc, ◌+◌, arith, ap}
use Rattle.gipmc_reduce.specs.Turns.{turns}
use Rattle.gipmc_reduce.proofs.k_liveness.stages_in_turn.Goals as goal

pub loop-place-preserved : goal.loop-place-preserved
loop-place-preserved c =
    let next : suc c.loop-place.place ≡ c.loop-place.place + 1 = omega arith in
    rw (c.in_ok-push.ensures.items, c.loop-place.invariant, c.in_turn.ensures) (ap (turns c.args.literals.now) next)
