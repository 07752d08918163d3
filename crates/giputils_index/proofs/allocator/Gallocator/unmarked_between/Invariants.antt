-- The unmarked slots from `start` on, before `index`, are listed.
use Rattle.std.proofs.Common.{◌≡◌, ◌+◌, ◌≤◌, length, take}
use Rattle.giputils_index.specs.Allocator.{AreUnmarked}
use Rattle.giputils_index.proofs.allocator.Gallocator.unmarked_between.Given as goal

abbrev pub invariant-loop-index : goal.invariant-loop-index
invariant-loop-index g l = record {
  few : l.count + l.start ≤ l.index;
  long : length l.unmarked ≡ 64;
  listed : AreUnmarked l.self l.start l.index (take l.count l.unmarked);
}
