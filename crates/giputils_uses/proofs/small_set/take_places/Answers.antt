-- Each place that is taken is the next true one.
use Rattle.std.proofs.Common.{arith}
use Rattle.std.proofs.lemmas.Grind.{common_steps}
use Rattle.giputils.proofs.Ones.{true_within}
use Rattle.giputils_uses.proofs.TakenPlaces.{TakenBelow-none, TakenBelow-next, TakenBelow-fewer, TakenBelow-all, HasNone-taken}
use Rattle.giputils_uses.proofs.small_set.take_places.Goals as goal

pub loop-place-init : goal.loop-place-init
loop-place-init g c = record {
  taken = rw c.in_ok-places.ensures.items (TakenBelow-none c.args.bits.now);
  room = grind (arith, common_steps, c.count_ones.ensures, c.in_ok-places.ensures.capacity);
}

pub set-requires : goal.set-requires
set-requires g c = true_within _ c.in-Some.place c.in-Some.ensures.found.holds

pub push_reserved-requires : goal.push_reserved-requires
push_reserved-requires g c =
    let fewer = TakenBelow-fewer _ _ _ _ c.loop-place.invariant.taken _ c.in-Some.ensures.found in omega (arith, fewer, c.loop-place.invariant.room)

pub overflow_add-start : goal.overflow_add-start
overflow_add-start g c =
    let within = true_within _ c.in-Some.place c.in-Some.ensures.found.holds in omega (arith, within, c.next_one.ensures.fits)

pub loop-place-preserved : goal.loop-place-preserved
loop-place-preserved g c = record {
  taken = rw (c.set.ensures, c.push_reserved.ensures.items) (TakenBelow-next _ _ _ _ c.loop-place.invariant.taken _ c.in-Some.ensures.found);
  room = omega (arith, c.push_reserved.ensures.capacity, c.loop-place.invariant.room);
}

pub loop-place-smaller : goal.loop-place-smaller
loop-place-smaller g c =
    let within = true_within _ c.in-Some.place c.in-Some.ensures.found.holds in
    grind (arith, common_steps, within, c.set.ensures, c.in-Some.ensures.found.past)

pub returns-clause-places : goal.returns-clause-places
returns-clause-places g c = TakenBelow-all _ _ _ _ c.loop-place.invariant.taken c.in_default.ensures.none

pub returns-clause-none : goal.returns-clause-none
returns-clause-none g c = HasNone-taken _ _ _ _ c.loop-place.invariant.taken c.in_default.ensures.none

pub returns-clause-len : goal.returns-clause-len
returns-clause-len g c = c.loop-place.invariant.taken.len
