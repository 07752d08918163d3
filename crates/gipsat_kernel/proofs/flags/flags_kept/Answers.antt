use Rattle.std.proofs.Common.{◌≡◌, sym, ap, ◌∙◌, ◌++◌, ◌∷◌, [], ◌<◌, ◌+◌, length, take, Some, false, arith}
use Rattle.std.specs.Prelude.{slice_get}
use Rattle.std.proofs.lemmas.Grind.{common_steps}
use Rattle.std.proofs.lemmas.Option.{slice_get-get_or}
use Rattle.gipsat_cnf.specs.Lists.{retained}
use Rattle.gipsat_cnf.proofs.Retaining.{retained-goes, retained-nil, retained-stays}
use Rattle.gipsat_kernel.proofs.flags.flags_kept.Goals as goal

pub loop-place-init : goal.loop-place-init
loop-place-init c = c.new-kept.ensures.items ∙ sym (retained-nil c.args.stays.now)

pub loop-place-preserved-then-not-flag_at : goal.loop-place-preserved-then-not-flag_at
loop-place-preserved-then-not-flag_at c =
    c.loop-place.invariant
    ∙ sym (retained-goes c.args.stays.now c.args.flags.now c.loop-place.place (sym c.flag_at.ensures ∙ c.if-not-flag_at.true))

pub loop-place-preserved : goal.loop-place-preserved
loop-place-preserved c =
    let flags = c.args.flags.now in
    let place = c.loop-place.place in
    let flag = c.flag_at-flag.result in
    let within : place < length flags = grind (arith, common_steps) in
    let at : slice_get flags place ≡ Some flag = slice_get-get_or flags place false within ∙ ap Some (sym c.flag_at-flag.ensures) in
    let next : retained c.args.stays.now (take (place + 1) flags) ≡ retained c.args.stays.now (take place flags) ++ flag ∷ [] =
    retained-stays c.args.stays.now flags place flag at (sym c.flag_at.ensures ∙ c.if-not-flag_at.false)
    in
    rw (c.in_ok-push.ensures.items, c.loop-place.invariant) (sym next)
