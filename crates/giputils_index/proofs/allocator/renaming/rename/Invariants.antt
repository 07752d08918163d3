-- The new indexes of the indexes before `place` stand in front, and from `place` on the old ones stand as they were.
use Rattle.std.proofs.Common.{◌≡◌, ◌≤◌, length, take, drop}
use Rattle.std.specs.List.{filter_map}
use Rattle.giputils_index.specs.Allocator.{table_at}
use Rattle.giputils_index.proofs.allocator.renaming.rename.Given as goal

abbrev pub invariant-loop-place : goal.invariant-loop-place
invariant-loop-place g l = record {
  renamed : take l.kept l.indexes.items ≡ filter_map (table_at l.table) (take l.place l.fn.indexes.items);
  few : l.kept ≤ l.place;
  len : length l.indexes.items ≡ length l.fn.indexes.items;
  rest : drop l.place l.indexes.items ≡ drop l.place l.fn.indexes.items;
}
