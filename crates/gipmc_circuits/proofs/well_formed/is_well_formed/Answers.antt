-- Each step says its part of what a well-formed circuit is, and the notes are those of the step before.
use Rattle.std.proofs.Common.{◌≡◌, sym, ap, ◌∙◌}
use Rattle.gipsat_cnf.specs.Models.{assignment_in}
use Rattle.gipmc_circuits.specs.WellFormed.{is_constant, with_variable}
use Rattle.gipmc_circuits.proofs.Defined.{defined_first, in_order_uses, not_in_order, not_new_inputs, not_new_latches, notes_of}
use Rattle.gipmc_circuits.proofs.well_formed.is_well_formed.Goals as goal

pub returns-then-not-branch : goal.returns-then-not-branch
returns-then-not-branch c =
    let first : assignment_in c.define.new.defined.items ≡ is_constant = c.in_ok-define.ensures
    ∙ ap (λ xs. with_variable 0 (assignment_in xs)) c.new-defined.ensures.items ∙ defined_first in
    let says = rw (c.deref.ensures.value) at c.in_ok-define_inputs.ensures.says in
    not_new_inputs c.args.circuit.now (assignment_in c.define.new.defined.items) first (sym says ∙ c.if-not-branch.true)

pub returns-then-not-branch-2 : goal.returns-then-not-branch-2
returns-then-not-branch-2 c =
    let first : assignment_in c.define.new.defined.items ≡ is_constant = c.in_ok-define.ensures
    ∙ ap (λ xs. with_variable 0 (assignment_in xs)) c.new-defined.ensures.items ∙ defined_first in
    let says = rw (c.deref.ensures.value) at c.in_ok-define_inputs.ensures.says in
    let notes =
    notes_of c.args.circuit.now (assignment_in c.define.new.defined.items)
    (assignment_in c.define_inputs.new.defined.items) c.in_ok-define_inputs.field-0 first says
    (rw (c.deref.ensures.value) at c.in_ok-define_inputs.ensures.defines) c.if-not-branch.false
    in
    let says_latches = rw (c.deref-2.ensures.value) at c.in_ok-define_latches.ensures.says in
    not_new_latches c.args.circuit.now (assignment_in c.define.new.defined.items)
    (assignment_in c.define_inputs.new.defined.items) notes (sym says_latches ∙ c.if-not-branch-2.true)

pub returns-then-not-branch-3 : goal.returns-then-not-branch-3
returns-then-not-branch-3 c =
    let first : assignment_in c.define.new.defined.items ≡ is_constant = c.in_ok-define.ensures
    ∙ ap (λ xs. with_variable 0 (assignment_in xs)) c.new-defined.ensures.items ∙ defined_first in
    let says = rw (c.deref.ensures.value) at c.in_ok-define_inputs.ensures.says in
    let notes =
    notes_of c.args.circuit.now (assignment_in c.define.new.defined.items)
    (assignment_in c.define_inputs.new.defined.items) c.in_ok-define_inputs.field-0 first says
    (rw (c.deref.ensures.value) at c.in_ok-define_inputs.ensures.defines) c.if-not-branch.false
    in
    let latches_are = (rw (c.deref-2.ensures.value) at c.in_ok-define_latches.ensures.defines) c.if-not-branch-2.false in
    let says_gates = rw (c.deref-3.ensures.value) at c.in_ok-define_gates.ensures.says in
    not_in_order c.args.circuit.now (assignment_in c.define.new.defined.items)
    (assignment_in c.define_inputs.new.defined.items) (assignment_in c.define_latches.new.defined.items) notes
    latches_are (sym says_gates ∙ c.if-not-branch-3.true)

pub returns : goal.returns
returns c =
    let first : assignment_in c.define.new.defined.items ≡ is_constant = c.in_ok-define.ensures
    ∙ ap (λ xs. with_variable 0 (assignment_in xs)) c.new-defined.ensures.items ∙ defined_first in
    let says = rw (c.deref.ensures.value) at c.in_ok-define_inputs.ensures.says in
    let notes =
    notes_of c.args.circuit.now (assignment_in c.define.new.defined.items)
    (assignment_in c.define_inputs.new.defined.items) c.in_ok-define_inputs.field-0 first says
    (rw (c.deref.ensures.value) at c.in_ok-define_inputs.ensures.defines) c.if-not-branch.false
    in
    let says_latches = rw (c.deref-2.ensures.value) at c.in_ok-define_latches.ensures.says in
    let latches_are = (rw (c.deref-2.ensures.value) at c.in_ok-define_latches.ensures.defines) c.if-not-branch-2.false in
    let says_gates = rw (c.deref-3.ensures.value) at c.in_ok-define_gates.ensures.says in
    let gates_are = (rw (c.deref-3.ensures.value) at c.in_ok-define_gates.ensures.defines) c.if-not-branch-3.false in
    let used = rw (c.deref-4.ensures.value) at c.uses_defined-used.ensures in
    used
    ∙ in_order_uses c.args.circuit.now (assignment_in c.define.new.defined.items)
    (assignment_in c.define_inputs.new.defined.items) (assignment_in c.define_latches.new.defined.items)
    (assignment_in c.define_gates.new.defined.items) notes (sym says_latches ∙ c.if-not-branch-2.false) latches_are
    (sym says_gates ∙ c.if-not-branch-3.false) gates_are
