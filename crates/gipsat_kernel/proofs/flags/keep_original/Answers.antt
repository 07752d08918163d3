use Rattle.std.proofs.Common.{◌≤◌, length, sym, ◌∙◌, arith}
use Rattle.std.proofs.lemmas.Grind.{common_steps}
use Rattle.gipsat_kernel.proofs.Staying.{FirstStay-derived, FirstStay-none, FirstStay-set, OriginalStay-all}
use Rattle.gipsat_kernel.proofs.flags.keep_original.Goals as goal

pub loop-place-init : goal.loop-place-init
loop-place-init c = FirstStay-none c.args.original.now c.args.stays.now

pub loop-place-preserved-then-not-flag_at : goal.loop-place-preserved-then-not-flag_at
loop-place-preserved-then-not-flag_at c =
    FirstStay-derived c.args.original.now c.loop-place.stays c.loop-place.place (sym c.flag_at.ensures ∙ c.if-not-flag_at.true) c.loop-place.invariant

pub loop-place-preserved : goal.loop-place-preserved
loop-place-preserved c =
    FirstStay-set c.args.original.now c.loop-place.stays c.loop-place.place (grind (arith, common_steps)) c.loop-place.invariant

pub returns : goal.returns
returns c =
    let all : length c.loop-place.stays ≤ c.loop-place.place = grind (arith, common_steps) in
    OriginalStay-all c.args.original.now c.loop-place.stays c.loop-place.place all c.loop-place.invariant
