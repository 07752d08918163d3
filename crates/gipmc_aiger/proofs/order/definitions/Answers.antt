-- What the parts define, all of them define.
use Rattle.std.proofs.Common.{◌≡◌, ◌++◌, ◌∷◌, [], Some, map, ap, ◌∙◌}
use Rattle.std.proofs.lemmas.Result.{err_from_is_err_and}
use Rattle.gipmc_circuits.specs.WellFormed.{is_constant}
use Rattle.gipmc_circuits.specs.declared.circuit.And.{And}
use Rattle.gipmc_circuits.specs.declared.circuit.Latch.{Latch}
use Rattle.gipmc_aiger.specs.Defects.{defined_in}
use Rattle.gipmc_aiger.specs.declared.order.Definition.TheVariants.{Source}
use Rattle.gipmc_aiger.proofs.Tables.{defined_first, defines_all, twice_input, twice_latch, twice_output}
use Rattle.gipmc_aiger.proofs.order.definitions.Goals as goal

pub returns-in_err-define_inputs-clause-defect : goal.returns-in_err-define_inputs-clause-defect
returns-in_err-define_inputs-clause-defect c =
    let p = err_from_is_err_and c.from_residual-in_err-define_inputs.result c.from_residual-in_err-define_inputs.ensures.1 in
    let circuit = c.args.circuit.now in
    let inputs = circuit.inputs.items in
    let latches = map (λ (l : Latch). l.variable) circuit.latches.items in
    let outputs = map (λ (g : And). g.output) circuit.gates.items in
    let first : defined_in c.push.new.self.items ≡ is_constant =
    ap defined_in (c.in_ok-push.ensures.items ∙ ap (λ xs. xs ++ Some Source ∷ []) c.new-definitions.ensures.items)
    ∙ defined_first in
    let said = rw (c.deref.ensures.value) at c.in_err-define_inputs.ensures.defect in
    rw (p.1, p.2)
    (twice_input inputs latches outputs (defined_in c.push.new.self.items) c.in_err-define_inputs.field-0.0 first said)

pub returns-in_err-define_latches-clause-defect : goal.returns-in_err-define_latches-clause-defect
returns-in_err-define_latches-clause-defect c =
    let p = err_from_is_err_and c.from_residual-in_err-define_latches.result c.from_residual-in_err-define_latches.ensures.1 in
    let circuit = c.args.circuit.now in
    let inputs = circuit.inputs.items in
    let latches = map (λ (l : Latch). l.variable) circuit.latches.items in
    let outputs = map (λ (g : And). g.output) circuit.gates.items in
    let first : defined_in c.push.new.self.items ≡ is_constant =
    ap defined_in (c.in_ok-push.ensures.items ∙ ap (λ xs. xs ++ Some Source ∷ []) c.new-definitions.ensures.items)
    ∙ defined_first in
    let one = rw (c.deref.ensures.value) at c.in_ok-define_inputs.ensures.ok in
    let said = rw (c.deref-2.ensures.value) at c.in_err-define_latches.ensures.defect in
    rw (p.1, p.2)
    (twice_latch inputs latches outputs (defined_in c.push.new.self.items)
    (defined_in c.define_inputs.new.definitions.items) c.in_err-define_latches.field-0.0 first one said)

pub returns-in_err-define_gates-clause-defect : goal.returns-in_err-define_gates-clause-defect
returns-in_err-define_gates-clause-defect c =
    let p = err_from_is_err_and c.from_residual-in_err-define_gates.result c.from_residual-in_err-define_gates.ensures.1 in
    let circuit = c.args.circuit.now in
    let inputs = circuit.inputs.items in
    let latches = map (λ (l : Latch). l.variable) circuit.latches.items in
    let outputs = map (λ (g : And). g.output) circuit.gates.items in
    let first : defined_in c.push.new.self.items ≡ is_constant =
    ap defined_in (c.in_ok-push.ensures.items ∙ ap (λ xs. xs ++ Some Source ∷ []) c.new-definitions.ensures.items)
    ∙ defined_first in
    let one = rw (c.deref.ensures.value) at c.in_ok-define_inputs.ensures.ok in
    let two = rw (c.deref-2.ensures.value) at c.in_ok-define_latches.ensures.ok in
    let said = rw (c.deref-3.ensures.value) at c.in_err-define_gates.ensures.defect in
    rw (p.1, p.2)
    (twice_output inputs latches outputs (defined_in c.push.new.self.items)
    (defined_in c.define_inputs.new.definitions.items) (defined_in c.define_latches.new.definitions.items)
    c.in_err-define_gates.field-0.0 first one two said)

pub returns-clause-ok : goal.returns-clause-ok
returns-clause-ok c =
    let circuit = c.args.circuit.now in
    let inputs = circuit.inputs.items in
    let latches = map (λ (l : Latch). l.variable) circuit.latches.items in
    let outputs = map (λ (g : And). g.output) circuit.gates.items in
    let first : defined_in c.push.new.self.items ≡ is_constant =
    ap defined_in (c.in_ok-push.ensures.items ∙ ap (λ xs. xs ++ Some Source ∷ []) c.new-definitions.ensures.items)
    ∙ defined_first in
    let one = rw (c.deref.ensures.value) at c.in_ok-define_inputs.ensures.ok in
    let two = rw (c.deref-2.ensures.value) at c.in_ok-define_latches.ensures.ok in
    let three = rw (c.deref-3.ensures.value) at c.in_ok-define_gates.ensures.ok in
    defines_all inputs latches outputs (defined_in c.push.new.self.items)
    (defined_in c.define_inputs.new.definitions.items) (defined_in c.define_latches.new.definitions.items)
    (defined_in c.define_gates.new.definitions.items) first one two three
