-- At first 0 alone is noted.
use Rattle.std.proofs.Common.{◌≡◌, ap, ◌∙◌}
use Rattle.gipsat_cnf.specs.Models.{assignment_in}
use Rattle.gipmc_circuits.specs.Prelude.{is_constant, link_variables, with_variable, with_variables}
use Rattle.gipmc_circuits.proofs.Defined.{defined_first}
use Rattle.gipmc_circuits.proofs.witness_circuit.marks.Goals as goal

pub returns : goal.returns
returns c =
    let first : assignment_in c.define.new.defined.items ≡ is_constant = c.in_ok-define.ensures
    ∙ ap (λ xs. with_variable 0 (assignment_in xs)) c.new-marks.ensures.items ∙ defined_first in
    c.in_ok-mark_links.ensures ∙ ap (with_variables (link_variables c.args.links.now)) first
