-- One more is defined, or is defined already.
use Rattle.std.proofs.Common.{◌<◌, length, map, sym, ap, ◌∙◌, arith}
use Rattle.std.proofs.lemmas.Grind.{common_steps}
use Rattle.std.proofs.lemmas.List.{get_or-map}
use Rattle.std.proofs.lemmas.Result.{err_from_is_err_and}
use Rattle.gipmc_circuits.specs.declared.circuit.Latch.{Latch}
use Rattle.gipmc_aiger.specs.Defects.{defined_in}
use Rattle.gipmc_aiger.proofs.Tables.{defined_more, twice_at}
use Rattle.gipmc_aiger.proofs.order.define_latches.Goals as goal

pub returns-in_err-define-clause-defect : goal.returns-in_err-define-clause-defect
returns-in_err-define-clause-defect c =
    let p = err_from_is_err_and c.from_residual.result c.from_residual.ensures.1 in
    let i = c.loop-latch.latch-index in
    let within : i < length (map (λ (l : Latch). l.variable) c.args.latches.now) = grind (arith, common_steps) in
    rw (p.1, p.2)
    (twice_at (map (λ (l : Latch). l.variable) c.args.latches.now) i (c.latch-item.result.variable)
    (defined_in c.loop-latch.definitions.items) (defined_in c.args.definitions.now.items) within
    (get_or-map (λ (l : Latch). l.variable) c.args.latches.now c.loop-latch.latch-index c.latch-item.result 0
    c.loop-latch-test.true ∙ ap (λ (l : Latch). l.variable) (sym c.latch-item.is)) c.loop-latch.invariant
    c.in_err-define.field-0.0 c.in_err-define.ensures.defect)

pub loop-latch-preserved : goal.loop-latch-preserved
loop-latch-preserved c =
    let i = c.loop-latch.latch-index in
    let within : i < length (map (λ (l : Latch). l.variable) c.args.latches.now) = grind (arith, common_steps) in
    defined_more (map (λ (l : Latch). l.variable) c.args.latches.now) i (c.latch-item.result.variable)
    (defined_in c.loop-latch.definitions.items) (defined_in c.args.definitions.now.items) within
    (get_or-map (λ (l : Latch). l.variable) c.args.latches.now c.loop-latch.latch-index c.latch-item.result 0
    c.loop-latch-test.true ∙ ap (λ (l : Latch). l.variable) (sym c.latch-item.is)) c.loop-latch.invariant
    (defined_in c.define.new.definitions.items) c.in_ok-define.ensures.ok
