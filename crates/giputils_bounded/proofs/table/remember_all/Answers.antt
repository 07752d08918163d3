use Rattle.std.proofs.Common.{ap, arith, refl, subst, take, length, false, ◌≡◌, ◌∙◌}
use Rattle.std.proofs.lemmas.List.{length-take-le, take_all, take_more}
use Rattle.giputils_bounded.specs.Prelude.{IsTable, SaysAlso, is_held, place_in}
use Rattle.giputils_bounded.proofs.Entries.{below_at}
use Rattle.giputils_bounded.proofs.Places.{IsTable-append, IsTable-nil}
use Rattle.giputils_bounded.proofs.Retained.{absent_before}
use Rattle.giputils_bounded.proofs.table.remember_all.Goals as goal

pub remember-requires : goal.remember-requires
remember-requires g c =
    let number = g.T.HeapKey.number in
    let key = c.index-keys-place.result in
    let small = below_at number (length c.args.places.now) c.args.keys.now c.loop-place.place key c.requires.entries c.loop-place-test.true in
    record {
      number = omega (arith, ap number c.index-keys-place.is, small, c.loop-place.invariant.size);
      limit = omega (arith, c.loop-place-test.true, c.requires.limit);
    }

pub loop-place-init : goal.loop-place-init
loop-place-init g c = record {
  size = refl;
  table = IsTable-nil g.T.HeapKey.number _ _ refl c.requires.none;
}

pub loop-place-preserved : goal.loop-place-preserved
loop-place-preserved g c =
    let number = g.T.HeapKey.number in
    let keys = c.args.keys.now in
    let i = c.loop-place.place in
    let key = c.index-keys-place.result in
    let absent : is_held number (take i keys) key ≡ false = ap (is_held number (take i keys)) c.index-keys-place.is ∙ absent_before number keys i key c.loop-place-test.true c.requires.distinct in
    let says : SaysAlso (place_in c.loop-place.places) (place_in c.remember.new.places) (number key) (length (take i keys)) =
    rw (length-take-le i keys (omega (arith, c.loop-place-test.true))) c.remember.ensures.places
    in
    record {
      size = c.remember.ensures.size ∙ c.loop-place.invariant.size;
      table = rw (take_more keys i key c.loop-place-test.true, ← c.index-keys-place.is)
          (IsTable-append number (take i keys) (place_in c.loop-place.places) (place_in c.remember.new.places) key c.loop-place.invariant.table absent says);
    }

pub returns-clause-table : goal.returns-clause-table
returns-clause-table g c =
    subst (λ ks. IsTable g.T.HeapKey.number ks (place_in c.loop-place.places))
    (take_all c.loop-place.place c.args.keys.now (omega (arith, c.loop-place-test.false))) c.loop-place.invariant.table
