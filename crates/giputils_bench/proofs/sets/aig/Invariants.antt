use Rattle.std.proofs.Common.{◌≡◌, length}
use Rattle.giputils_bench.specs.Bits.{AreOfLength}
use Rattle.giputils_bench.proofs.sets.aig.Given as goal

abbrev pub invariant-loop : goal.invariant-loop
invariant-loop l = record {
  sizes : AreOfLength l.size l.nodes.items;
  len : length l.nodes.items ≡ 64;
  made : length l.made ≡ l.size;
}
