use Rattle.giputils_bench.specs.Galloc.{AreIndexes}
use Rattle.giputils_bench.proofs.galloc.fill.Given as goal

abbrev pub invariant-loop : goal.invariant-loop
invariant-loop l = AreIndexes l.gallocator l.held.items
