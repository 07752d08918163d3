-- One place more, and all of them.
use Rattle.std.proofs.Common.{◌≡◌, ◌<◌, ◌∙◌, length, min, get_or, arith, refl}
use Rattle.std.proofs.lemmas.Grind.{common_steps}
use Rattle.gipmc_aiger.proofs.Shared.{links_by_place-all, links_by_place-more}
use Rattle.gipmc_aiger.proofs.sharing.push_by_place.Goals as goal

pub loop-place-preserved : goal.loop-place-preserved
loop-place-preserved c =
    let own = c.args.own.now in
    let others = c.args.others.now in
    let here = c.loop-place.place in
    let first : here < length own = grind (arith, common_steps) in
    let second : here < length others = grind (arith, common_steps) in
    c.in_ok-push_link.ensures
    ∙ links_by_place-more own others c.args.links.now.items c.loop-place.links.items here (get_or own here 0) (get_or others here 0)
    first second refl refl c.loop-place.invariant

pub returns : goal.returns
returns c =
    let end : c.loop-place.place ≡ min (length c.args.own.now) (length c.args.others.now) = grind (arith, common_steps) in
    links_by_place-all c.args.own.now c.args.others.now c.args.links.now.items c.loop-place.links.items c.loop-place.place
    end c.loop-place.invariant
