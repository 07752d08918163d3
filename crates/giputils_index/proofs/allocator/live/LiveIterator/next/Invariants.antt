-- Only marked slots were passed over.
use Rattle.std.proofs.Common.{◌≡◌, ◌+◌, ◌<◌, ◌^◌, length}
use Rattle.giputils_index.specs.Allocator.{live_slots}
use Rattle.giputils_index.proofs.allocator.live.LiveIterator.next.Given as goal

abbrev pub invariant-loop-slot : goal.invariant-loop-slot
invariant-loop-slot g l = record {
  left : l.self-inside.left ≡ length (live_slots l.self-inside.index l.self-inside.slots.now);
  fits : l.self-inside.index + length l.self-inside.slots.now < 2 ^ 64;
  same : live_slots l.self-inside.index l.self-inside.slots.now ≡ l.fn.self;
}

abbrev pub decreases-loop-slot : goal.decreases-loop-slot
decreases-loop-slot g l = length l.self-inside.slots.now
