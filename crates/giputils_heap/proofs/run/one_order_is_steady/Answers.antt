use Rattle.std.proofs.Common.{◌+◌, take, refl}
use Rattle.std.proofs.lemmas.List.Elements.{All-take}
use Rattle.giputils_heap.specs.Record.{start}
use Rattle.giputils_heap.specs.Laws.{Compares}
use Rattle.giputils_heap.proofs.Records.{steady_under_one_order}
use Rattle.giputils_heap.proofs.run.one_order_is_steady.Goals as goal

pub returns : goal.returns
returns g c R order entries all i =
    steady_under_one_order g.T.HeapKey.number g.C.BinaryHeapCmp.at_least R order start (take (i + 1) entries)
    (All-take (λ e. Compares g.C.BinaryHeapCmp.at_least R e.comparer) (i + 1) entries all) refl (λ b none. cc)
