-- One more is defined, or is defined already.
use Rattle.std.proofs.Common.{◌<◌, length, get_or, refl}
use Rattle.std.proofs.lemmas.Result.{err_from_is_err_and}
use Rattle.gipmc_aiger.specs.Defects.{defined_in}
use Rattle.gipmc_aiger.proofs.Tables.{defined_more, twice_at}
use Rattle.gipmc_aiger.proofs.order.define_inputs.Goals as goal

pub returns-in_err-define-clause-defect : goal.returns-in_err-define-clause-defect
returns-in_err-define-clause-defect c =
    let p = err_from_is_err_and c.from_residual.result c.from_residual.ensures.1 in
    let i = c.loop-input.input-index in
    let within : i < length (c.args.inputs.now) = c.loop-input-test.true in
    rw (p.1, p.2)
    (twice_at (c.args.inputs.now) i (get_or c.args.inputs.now c.loop-input.input-index 0)
    (defined_in c.loop-input.definitions.items) (defined_in c.args.definitions.now.items) within
    (refl) c.loop-input.invariant c.in_err-define.field-0.0 c.in_err-define.ensures.defect)

pub loop-input-preserved : goal.loop-input-preserved
loop-input-preserved c =
    let i = c.loop-input.input-index in
    let within : i < length (c.args.inputs.now) = c.loop-input-test.true in
    defined_more (c.args.inputs.now) i (get_or c.args.inputs.now c.loop-input.input-index 0)
    (defined_in c.loop-input.definitions.items) (defined_in c.args.definitions.now.items) within
    (refl) c.loop-input.invariant (defined_in c.define.new.definitions.items) c.in_ok-define.ensures.ok
