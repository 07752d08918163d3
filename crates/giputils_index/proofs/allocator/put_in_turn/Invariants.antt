-- The keys so far are put, and `next` is the number of the next one.
use Rattle.std.proofs.Common.{◌≡◌, ◌+◌, ℕ, nat_eq, take}
use Rattle.giputils_hash.specs.Hash.{get, HasUniqueKeys}
use Rattle.giputils_index.specs.Allocator.{put_in_turn}
use Rattle.giputils_index.proofs.allocator.put_in_turn.Given as goal

abbrev pub invariant-loop-key : goal.invariant-loop-key
invariant-loop-key g l = record {
  next : l.next ≡ l.first + l.key-index;
  values : (q : ℕ) → get nat_eq l.indexes q ≡ put_in_turn (get nat_eq l.fn.indexes) (take l.key-index l.keys) l.first q;
  unique : HasUniqueKeys nat_eq l.indexes;
}
