-- Of the slots before `slot`, each has its entry, and `next` is how many of them are unmarked.
use Rattle.std.proofs.Common.{◌≡◌, ◌≤◌, ℕ, length, vec_capacity}
use Rattle.giputils_index.specs.Allocator.{new_index, index_map, table_at}
use Rattle.giputils_index.proofs.IndexMaps.{up_to}
use Rattle.giputils_index.proofs.allocator.Gallocator.index_table.Given as goal

abbrev pub invariant-loop-slot : goal.invariant-loop-slot
invariant-loop-slot g l = record {
  next : l.next ≡ new_index l.slot-items l.slot-index;
  indexed : (q : ℕ) → table_at l.table.items q ≡ up_to (index_map l.slot-items) l.slot-index q;
  len : length l.table.items ≡ l.slot-index;
  room : length l.slot-items ≤ vec_capacity l.table;
}
