-- One place more is left behind, and none at the end.
use Rattle.std.proofs.Common.{◌<◌, ◌≤◌, length, arith}
use Rattle.std.proofs.lemmas.Grind.{common_steps}
use Rattle.gipmc_task.specs.Witnesses.{FailsAt}
use Rattle.gipmc_task.proofs.Each.{every_last, every_next}
use Rattle.gipmc_task.proofs.witnesses.doubt_at_each.Goals as goal

pub loop-k-preserved : goal.loop-k-preserved
loop-k-preserved c =
    let less : c.loop-k.k < length c.args.places.now = grind (arith, common_steps) in
    let here = rw (c.in_default.is) at c.in_ok-doubt.ensures in
    λ rest. c.loop-k.invariant
    (every_next (FailsAt c.args.problem.now c.args.kind c.args.trace.now) c.args.places.now c.loop-k.k 0 less here.0 rest)

pub returns : goal.returns
returns c =
    let past : length c.args.places.now ≤ c.loop-k.k = grind (arith, common_steps) in
    c.loop-k.invariant (every_last (FailsAt c.args.problem.now c.args.kind c.args.trace.now) c.args.places.now c.loop-k.k past)
