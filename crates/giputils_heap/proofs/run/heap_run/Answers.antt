use Rattle.std.proofs.Common.{◌≤◌, arith}
use Rattle.std.proofs.lemmas.List.Elements.{All-get_or}
use Rattle.giputils_bounded.specs.Bounds.{count_limit}
use Rattle.giputils_heap.proofs.Runs.{HasRun-start, HasRun-more, HasRun-answers, HasRun-counts, HasRun-kept, KeepsSteps-refl, next_is_old}
use Rattle.giputils_heap.proofs.run.heap_run.Goals as goal

pub returns-in_err-replies-clause-kept : goal.returns-in_err-replies-clause-kept
returns-in_err-replies-clause-kept g c = KeepsSteps-refl c.args.steps.now

pub loop-step-init : goal.loop-step-init
loop-step-init g c = record {
  run =
      HasRun-start g.T.HeapKey.number g.C.BinaryHeapCmp.at_least c.args.steps.now c.in_ok-replies.replies.items c.new-heap.result
      c.in_ok-replies.ensures.items c.new-heap.ensures.empty c.new-heap.ensures.in_order;
  replied = c.in_ok-replies.ensures.len;
  room = c.in_ok-replies.ensures.capacity;
}

pub make_call-requires : goal.make_call-requires
make_call-requires g c =
    rw
    (next_is_old g.T.HeapKey.number g.C.BinaryHeapCmp.at_least c.args.steps.now c.loop-step.steps c.loop-step.step-index
    c.loop-step.replies.items c.loop-step.heap c.loop-step-test.true c.loop-step.invariant.run c.step-item.result)
    (All-get_or (λ s. s.cmp.count ≤ count_limit) c.args.steps.now c.loop-step.step-index c.step-item.result c.loop-step-test.true c.requires)

pub push_reserved-requires : goal.push_reserved-requires
push_reserved-requires g c = omega (arith, c.loop-step.invariant.replied, c.loop-step.invariant.room)

pub loop-step-preserved : goal.loop-step-preserved
loop-step-preserved g c = record {
  run =
      rw c.push_reserved.ensures.items
      (HasRun-more g.T.HeapKey.number g.C.BinaryHeapCmp.at_least c.args.steps.now c.loop-step.steps c.loop-step.step-index
      c.loop-step.replies.items c.loop-step.heap c.loop-step-test.true c.loop-step.invariant.run c.step-item.result
      c.make_call.new.cmp c.make_call.result c.make_call.new.heap c.make_call.ensures.reply c.make_call.ensures.stands
      c.make_call.ensures.comparisons c.make_call.ensures.comparer c.make_call.ensures.rises c.make_call.ensures.uncompared);
  replied = omega (arith, c.push_reserved.ensures.len, c.loop-step.invariant.replied);
  room = omega (arith, c.push_reserved.ensures.capacity, c.loop-step.invariant.room);
}

pub returns-clause-record : goal.returns-clause-record
returns-clause-record g c =
    HasRun-answers g.T.HeapKey.number g.C.BinaryHeapCmp.at_least c.args.steps.now c.loop-step.steps c.loop-step.step-index
    c.loop-step.replies.items c.loop-step.heap c.loop-step-test.false c.loop-step.invariant.run

pub returns-clause-counts : goal.returns-clause-counts
returns-clause-counts g c =
    HasRun-counts g.T.HeapKey.number g.C.BinaryHeapCmp.at_least c.args.steps.now c.loop-step.steps c.loop-step.step-index
    c.loop-step.replies.items c.loop-step.heap c.loop-step-test.false c.loop-step.invariant.run

pub returns-clause-replies : goal.returns-clause-replies
returns-clause-replies g c = omega (arith, c.loop-step.invariant.run.replied, c.loop-step-test.false)

pub returns-clause-kept : goal.returns-clause-kept
returns-clause-kept g c =
    HasRun-kept g.T.HeapKey.number g.C.BinaryHeapCmp.at_least c.args.steps.now c.loop-step.steps c.loop-step.step-index
    c.loop-step.replies.items c.loop-step.heap c.loop-step-test.false c.loop-step.invariant.run
