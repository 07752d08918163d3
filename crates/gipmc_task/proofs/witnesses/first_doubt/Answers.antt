-- One witness more is left behind, and none at the end.
use Rattle.std.proofs.Common.{◌<◌, ◌≤◌, length, arith, subst}
use Rattle.std.proofs.lemmas.Grind.{common_steps}
use Rattle.gipmc_task.specs.Witnesses.{IsRight}
use Rattle.gipmc_task.proofs.Each.{every_last, every_next}
use Rattle.gipmc_task.proofs.witnesses.first_doubt.Goals as goal

pub loop-place-preserved : goal.loop-place-preserved
loop-place-preserved c =
    let less : c.loop-place.place < length c.args.claims.now = grind (arith, common_steps) in
    let here = rw (c.in_default.is) at c.in_ok-doubt.ensures in
    λ rest. c.loop-place.invariant
    (every_next (λ x. IsRight c.args.problem.now c.args.kind c.args.asked (x.properties.items, x.trace)) c.args.claims.now
    c.loop-place.place c.index-claims-place.result less
    (subst (λ x. IsRight c.args.problem.now c.args.kind c.args.asked (x.properties.items, x.trace)) c.index-claims-place.is here)
    rest)

pub returns : goal.returns
returns c =
    let past : length c.args.claims.now ≤ c.loop-place.place = grind (arith, common_steps) in
    c.loop-place.invariant
    (every_last (λ x. IsRight c.args.problem.now c.args.kind c.args.asked (x.properties.items, x.trace)) c.args.claims.now
    c.loop-place.place past)
