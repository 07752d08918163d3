use Rattle.std.proofs.Common.{◌<◌, ◌≤◌, length, take, sym, ◌∙◌, arith, refl}
use Rattle.std.proofs.lemmas.Grind.{common_steps}
use Rattle.std.proofs.lemmas.Option.{slice_get_read}
use Rattle.gipsat_kernel.proofs.Marking.{IsGathering-left, IsGathering-start, IsGathering-took, IsTaken-end}
use Rattle.gipsat_kernel.proofs.marks.gather.Goals as goal

pub loop-place-init : goal.loop-place-init
loop-place-init c = IsGathering-start c.args.listed.now.items c.args.flags.now.items

pub loop-place-preserved-then-not-has : goal.loop-place-preserved-then-not-has
loop-place-preserved-then-not-has c =
    let listed = c.loop-place.listed.items in
    let within : c.loop-place.place < length c.loop-place.listed.items = omega (arith, c.loop-place.invariant.len, c.loop-place-test.true) in
    IsGathering-left c.args.listed.now.items c.args.flags.now.items c.loop-place.flags.items c.loop-place.listed.items c.loop-place.count c.loop-place.place c.index-l.result.now
    (slice_get_read listed (length c.loop-place.listed.items) c.loop-place.place c.index-l.result.now refl within c.index-l.ensures) (sym c.has.ensures ∙ c.if-not-has.true) c.loop-place.invariant

pub loop-place-preserved : goal.loop-place-preserved
loop-place-preserved c =
    let listed = c.loop-place.listed.items in
    let within : c.loop-place.place < length c.loop-place.listed.items = omega (arith, c.loop-place.invariant.len, c.loop-place-test.true) in
    rw c.put.ensures
    (IsGathering-took c.args.listed.now.items c.args.flags.now.items c.loop-place.flags.items c.loop-place.listed.items c.loop-place.count c.loop-place.place c.index-l.result.now within
    (slice_get_read listed (length c.loop-place.listed.items) c.loop-place.place c.index-l.result.now refl within c.index-l.ensures) c.loop-place.invariant)

pub returns-clause-taken : goal.returns-clause-taken
returns-clause-taken c =
    let all : length c.args.listed.now.items ≤ c.loop-place.place = grind (arith, common_steps) in
    IsTaken-end c.args.listed.now.items c.args.flags.now.items c.loop-place.flags.items (take c.loop-place.count c.loop-place.listed.items) c.loop-place.place all c.requires
    c.loop-place.invariant.taking
