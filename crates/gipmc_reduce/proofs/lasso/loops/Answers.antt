-- The loop from its start on, one moment after another, and back to its start.
use Rattle.std.proofs.Common.{◌≡◌, ◌+◌, ◌++◌, [], length, IsTrue, arith, sym, ap, subst, ◌∙◌}
use Rattle.std.proofs.lemmas.Grind.{common_steps}
use Rattle.gipsat_cnf.specs.Models.{assignment_in}
use Rattle.gipmc_circuits.specs.Circuit.{is_transition}
use Rattle.gipmc_reduce.specs.Lassos.{from}
use Rattle.gipmc_reduce.proofs.Replayed.{LoopSoFar, loop_closed, loop_first, loop_more}
use Rattle.gipmc_reduce.proofs.lasso.loops.Goals as goal

pub loop-place-init : goal.loop-place-init
loop-place-init c =
    let first = assignment_in c.args.first.now in
    let same : c.extend_from_slice.new.self.items ≡ c.args.first.now =
    c.in_ok-extend_from_slice.ensures.items ∙ ap (λ values. values ++ c.args.first.now) c.new-values.ensures.items in
    subst
    (λ values. LoopSoFar c.args.circuit.now c.args.literals.now (from c.args.trace.now c.args.start) first c.args.start (assignment_in values)
    c.in_ok-left.left.items) (sym same)
    (loop_first c.args.circuit.now c.args.literals.now c.in_ok-left.left.items (from c.args.trace.now c.args.start) first c.requires.reached c.in_ok-left.ensures)

pub loop-place-preserved : goal.loop-place-preserved
loop-place-preserved c =
    let (goes, moment, row) = rw (c.in-Some.is, c.deref.ensures.value, c.deref-in-loop-place.ensures.value) at c.in_ok-now.ensures in
    let left = rw (c.deref-in-loop-place-2.ensures.value, c.deref-in-loop-place-3.ensures.value) at c.in_ok-left-2.ensures in
    loop_more c.args.circuit.now c.args.literals.now c.loop-place.left.items c.in_ok-left-2.left.items (from c.args.trace.now c.args.start)
    (assignment_in c.args.first.now) c.loop-place.place (assignment_in c.loop-place.values.items) (assignment_in c.in-Some.now.items)
    c.index.result.now c.loop-place.invariant c.loop-place.auto.place c.index.ensures goes moment row left

pub returns : goal.returns
returns c is =
    let rows : length c.args.trace.now.inputs.items ≡ c.loop-place.place + 1 = grind (arith, common_steps) in
    let (goes, moment, row) = rw (c.in-Some-again.is, c.deref-2.ensures.value, c.deref-3.ensures.value) at c.in_ok-again.ensures in
    let same : c.in-Some-again.again.items ≡ c.args.first.now =
    sym c.deref-4.ensures.value ∙ c.are_same.ensures c.if-not-are_same.false in
    let none : c.loop-place.left.items ≡ [] = grind (arith, common_steps) in
    loop_closed c.args.circuit.now c.args.literals.now c.loop-place.left.items (from c.args.trace.now c.args.start) c.loop-place.place
    (assignment_in c.args.first.now) (assignment_in c.loop-place.values.items) c.loop-place.invariant c.loop-place.auto.place rows
    (subst (λ values. IsTrue (is_transition c.args.circuit.now (assignment_in c.loop-place.values.items) (assignment_in values)))
    same goes) none
