-- The gates of the operands wait, or one is open.
use Rattle.std.proofs.Common.{◌≡◌, slice_get, Some, sym, subst, ◌∙◌}
use Rattle.std.proofs.lemmas.Result.{err_from_is_err_and}
use Rattle.gipmc_aiger.specs.Defects.{AddsGateOf, IsStack, MeetsOpen}
use Rattle.gipmc_aiger.proofs.Stacks.{meets, opened_both, uses_left, uses_right}
use Rattle.gipmc_aiger.proofs.order.open.Goals as goal

pub returns-in_err-wait-clause-defect : goal.returns-in_err-wait-clause-defect
returns-in_err-wait-clause-defect c =
    let p = err_from_is_err_and c.from_residual-in_err-wait.result c.from_residual-in_err-wait.ensures.1 in
    let at : slice_get c.args.gates.now c.args.place ≡ Some c.in-Some.gate = sym c.gate_at.ensures ∙ c.in-Some.is in
    rw (p.1, p.2)
    (meets c.args.gates.now c.args.visits.now c.args.waiting.now.items c.args.place c.requires c.in-Some.gate at
    c.in-Some.gate.left.variable (uses_left c.in-Some.gate) c.in_err-wait.field-0.0
    (subst (λ vs. MeetsOpen c.args.gates.now vs c.in-Some.gate.left.variable c.in_err-wait.field-0.0) c.note.ensures
    c.in_err-wait.ensures.defect))

pub returns-in_err-wait-2-clause-defect : goal.returns-in_err-wait-2-clause-defect
returns-in_err-wait-2-clause-defect c =
    let p = err_from_is_err_and c.from_residual-in_err-wait-2.result c.from_residual-in_err-wait-2.ensures.1 in
    let at : slice_get c.args.gates.now c.args.place ≡ Some c.in-Some.gate = sym c.gate_at.ensures ∙ c.in-Some.is in
    rw (p.1, p.2)
    (meets c.args.gates.now c.args.visits.now c.args.waiting.now.items c.args.place c.requires c.in-Some.gate at
    c.in-Some.gate.right.variable (uses_right c.in-Some.gate) c.in_err-wait-2.field-0.0
    (subst (λ vs. MeetsOpen c.args.gates.now vs c.in-Some.gate.right.variable c.in_err-wait-2.field-0.0) c.note.ensures
    c.in_err-wait-2.ensures.defect))

pub returns-clause-ok : goal.returns-clause-ok
returns-clause-ok c =
    let at : slice_get c.args.gates.now c.args.place ≡ Some c.in-Some.gate = sym c.gate_at.ensures ∙ c.in-Some.is in
    let one = subst (λ xs. AddsGateOf c.args.gates.now c.in-Some.gate.left.variable xs c.wait.new.waiting.items)
    c.in_ok-push.ensures.items c.in_ok-wait.ensures.ok in
    subst (λ vs. IsStack c.args.gates.now vs c.wait-2.new.waiting.items) (sym c.note.ensures)
    (opened_both c.args.gates.now c.args.visits.now c.args.waiting.now.items c.args.place c.requires c.in-Some.gate at
    c.wait.new.waiting.items c.wait-2.new.waiting.items one c.in_ok-wait-2.ensures.ok)
