use Rattle.giputils_heap.proofs.Records as records
use Rattle.giputils_heap.proofs.run.pops_list_downward.Goals as goal

pub returns : goal.returns
returns g c before pops R keys answers popping steady =
    records.pops_list_downward g.T.HeapKey.number g.met.T.HeapKey.one_value g.C.BinaryHeapCmp.at_least R before pops keys answers popping steady
