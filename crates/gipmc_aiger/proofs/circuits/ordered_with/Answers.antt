-- The circuit keeps its own bad literals, and the others are of its variables.
use Rattle.std.proofs.Common.{◌≡◌, arith, length, vec_len, ◌∙◌}
use Rattle.std.proofs.lemmas.Grind.{common_steps}
use Rattle.gipmc_aiger.specs.Prelude.{justice_view, live_literals, rows_of}
use Rattle.gipmc_aiger.proofs.LiveOrders.{defined_still, error-with, kept_alone}
use Rattle.gipmc_aiger.proofs.circuits.ordered_with.Goals as goal

pub returns-in-Err-clause-defect : goal.returns-in-Err-clause-defect
returns-in-Err-clause-defect c =
    error-with (rows_of c.args.circuit)
    (live_literals (justice_view c.args.liveness.now) c.args.liveness.now.fairness.items)
    c.push_literals.new.literals.items c.in-Err.error c.in_ok-push_literals.ensures c.in-Err.ensures.defect

pub returns-in-Some-clause-ok : goal.returns-in-Some-clause-ok
returns-in-Some-clause-ok c =
    let long : vec_len c.args.circuit.bads ≡ length c.args.circuit.bads.items = grind (arith, common_steps) in
    kept_alone (rows_of c.args.circuit) (rows_of c.in-Ok.tested) (rows_of c.in-Some.netlist.circuit) c.len-own.result
    (live_literals (justice_view c.args.liveness.now) c.args.liveness.now.fairness.items)
    c.push_literals.new.literals.items c.in_ok-push_literals.ensures (c.len-own.ensures ∙ long) c.in-Ok.ensures.ok
    c.in-Some.ensures

pub returns-in-Some-clause-defined : goal.returns-in-Some-clause-defined
returns-in-Some-clause-defined c =
    defined_still c.in-Ok.tested c.in-Some.netlist.circuit (rows_of c.args.circuit) c.len-own.result
    (live_literals (justice_view c.args.liveness.now) c.args.liveness.now.fairness.items)
    c.push_literals.new.literals.items c.in_ok-push_literals.ensures c.in-Ok.ensures.ok c.in-Ok.ensures.formed
    c.in-Some.ensures
