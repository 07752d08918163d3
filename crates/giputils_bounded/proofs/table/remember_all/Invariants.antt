-- The table has the places of the keys so far.
use Rattle.std.proofs.Common.{◌≡◌, length, take}
use Rattle.giputils_bounded.specs.Table.{place_in, IsTable}
use Rattle.giputils_bounded.proofs.table.remember_all.Given as goal

abbrev pub invariant-loop-place : goal.invariant-loop-place
invariant-loop-place g l = record {
  size : length l.places ≡ length l.fn.places;
  table : IsTable g.T.HeapKey.number (take l.place l.keys) (place_in l.places);
}
