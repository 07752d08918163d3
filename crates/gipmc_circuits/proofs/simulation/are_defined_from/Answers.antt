-- Each step says its part, and the notes are those of the step before.
use Rattle.std.proofs.Common.{◌≡◌, ap, ◌∙◌}
use Rattle.std.proofs.lemmas.Result.{IfOk-weaker}
use Rattle.gipsat_cnf.specs.Models.{assignment_in}
use Rattle.gipmc_circuits.specs.WellFormed.{is_constant, with_variable}
use Rattle.gipmc_circuits.proofs.Defined.{defined_first}
use Rattle.gipmc_circuits.proofs.Simulated.{defined_from}
use Rattle.gipmc_circuits.proofs.simulation.are_defined_from.Goals as goal

pub returns : goal.returns
returns c =
    let first : assignment_in c.define.new.defined.items ≡ is_constant = c.in_ok-define.ensures
    ∙ ap (λ xs. with_variable 0 (assignment_in xs)) c.new-defined.ensures.items ∙ defined_first in
    IfOk-weaker c.define_gates.result _ _
    (λ are said is. defined_from c.args.sources.now c.args.gates.now (assignment_in c.define.new.defined.items)
    (assignment_in c.define_inputs.new.defined.items) c.in_ok-define_inputs.field-0 are first
    c.in_ok-define_inputs.ensures.says c.if-not-branch.false c.in_ok-define_inputs.ensures.defines said is)
    c.define_gates.ensures.says
