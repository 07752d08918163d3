-- Those that are left are noted as all are.
use Rattle.std.proofs.Common.{◌≡◌, drop}
use Rattle.gipsat_cnf.specs.Models.{assignment_in}
use Rattle.gipmc_circuits.specs.Prelude.{link_variables, with_variables}
use Rattle.gipmc_circuits.proofs.witness_circuit.mark_links.Given as goal

abbrev pub invariant-loop-link : goal.invariant-loop-link
invariant-loop-link l =
    with_variables (link_variables l.fn.links) (assignment_in l.fn.marks.items)
    ≡ with_variables (link_variables (drop l.link-index l.fn.links)) (assignment_in l.marks.items)
