-- Of the slots before `start`, each unmarked one is in the map with its new index, and `next` is how many those are.
use Rattle.std.proofs.Common.{◌≡◌, ◌-◌, ◌≤◌, ℕ, nat_eq, length}
use Rattle.giputils_hash.specs.Hash.{get, HasUniqueKeys}
use Rattle.giputils_index.specs.Allocator.{new_index, index_map}
use Rattle.giputils_index.proofs.IndexMaps.{up_to}
use Rattle.giputils_index.proofs.allocator.Gallocator.index_map.Given as goal

abbrev pub invariant-loop-start : goal.invariant-loop-start
invariant-loop-start g l = record {
  inside : l.start ≤ length l.self;
  next : l.next ≡ new_index l.self l.start;
  indexed : (q : ℕ) → get nat_eq l.indexes q ≡ up_to (index_map l.self) l.start q;
  unique : HasUniqueKeys nat_eq l.indexes;
}

abbrev pub decreases-loop-start : goal.decreases-loop-start
decreases-loop-start g l = length l.self - l.start
