use Rattle.giputils_bench.specs.Galloc.{AreIndexes}
use Rattle.giputils_bench.proofs.galloc.renumber.Given as goal

abbrev pub invariant-loop-index : goal.invariant-loop-index
invariant-loop-index l = AreIndexes l.gallocator l.kept.items
