use Rattle.std.proofs.Common.{◌≡◌, length}
use Rattle.giputils_bench.proofs.galloc.mark_some.Given as goal

abbrev pub invariant-loop-index : goal.invariant-loop-index
invariant-loop-index l = length l.gallocator ≡ length l.initial.gallocator
