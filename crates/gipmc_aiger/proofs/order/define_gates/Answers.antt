-- One more is defined, or is defined already.
use Rattle.std.proofs.Common.{◌<◌, length, get_or, map, arith}
use Rattle.std.proofs.lemmas.Grind.{common_steps}
use Rattle.std.proofs.lemmas.List.{get_or-map}
use Rattle.std.proofs.lemmas.Result.{err_from_is_err_and}
use Rattle.gipmc_circuits.specs.declared.circuit.And.{And}
use Rattle.gipmc_aiger.specs.Defects.{defined_in}
use Rattle.gipmc_aiger.proofs.Tables.{defined_more, twice_at}
use Rattle.gipmc_aiger.proofs.order.define_gates.Goals as goal

pub returns-in_err-define-clause-defect : goal.returns-in_err-define-clause-defect
returns-in_err-define-clause-defect c =
    let p = err_from_is_err_and c.from_residual.result c.from_residual.ensures.1 in
    let i = c.loop-place.place in
    let within : i < length (map (λ (x : And). x.output) c.args.gates.now) = grind (arith, common_steps) in
    rw (p.1, p.2)
    (twice_at (map (λ (x : And). x.output) c.args.gates.now) i
    ((get_or c.args.gates.now c.loop-place.place c.index-gates-place.result).output)
    (defined_in c.loop-place.definitions.items) (defined_in c.args.definitions.now.items) within
    (get_or-map (λ (x : And). x.output) c.args.gates.now c.loop-place.place c.index-gates-place.result 0
    (grind (arith, common_steps))) c.loop-place.invariant c.in_err-define.field-0.0 c.in_err-define.ensures.defect)

pub loop-place-preserved : goal.loop-place-preserved
loop-place-preserved c =
    let i = c.loop-place.place in
    let within : i < length (map (λ (x : And). x.output) c.args.gates.now) = grind (arith, common_steps) in
    defined_more (map (λ (x : And). x.output) c.args.gates.now) i
    ((get_or c.args.gates.now c.loop-place.place c.index-gates-place.result).output)
    (defined_in c.loop-place.definitions.items) (defined_in c.args.definitions.now.items) within
    (get_or-map (λ (x : And). x.output) c.args.gates.now c.loop-place.place c.index-gates-place.result 0
    (grind (arith, common_steps))) c.loop-place.invariant (defined_in c.define.new.definitions.items)
    c.in_ok-define.ensures.ok
