-- There is room for the nodes that are left.
use Rattle.std.proofs.Common.{◌≡◌, ◌≤◌, length}
use Rattle.giputils_bench.specs.Bits.{AreOfLength}
use Rattle.giputils_bench.proofs.sets.nodes.Given as goal

abbrev pub invariant-loop : goal.invariant-loop
invariant-loop l = record {
  sizes : AreOfLength l.size l.nodes.items;
  len : length l.nodes.items ≡ l.counter;
  room : 64 ≤ l.nodes.cap;
}
