use Rattle.std.specs.Prelude.{take}
use Rattle.giputils_uses.specs.Counts.{HasCounts}
use Rattle.giputils_uses.proofs.counts.counted.Given as goal

abbrev pub invariant-loop-item : goal.invariant-loop-item
invariant-loop-item g l = HasCounts (take l.item-index l.fn.items) l.counts
