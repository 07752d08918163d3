use Rattle.std.proofs.Common.{◌≡◌, ◌≤◌, length, vec_len, vec_capacity}
use Rattle.giputils_heap.proofs.Runs.{HasRun}
use Rattle.giputils_heap.proofs.run.heap_run.Given as goal

abbrev pub invariant-loop-step : goal.invariant-loop-step
invariant-loop-step g l = record {
  run : HasRun g.T.HeapKey.number g.C.BinaryHeapCmp.at_least l.fn.steps l.steps l.step-index l.replies.items l.heap;
  replied : vec_len l.replies ≡ l.step-index;
  room : length l.fn.steps ≤ vec_capacity l.replies;
}
