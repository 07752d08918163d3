-- What is left of the circuit stands for it, and the part of that for what is left.
use Rattle.std.proofs.Common.{◌≡◌, map, subst}
use Rattle.std.proofs.lemmas.Option.{IfSome_then}
use Rattle.gipmc_reduce.specs.Correspondence.{merged}
use Rattle.gipmc_task.proofs.OnWhole.{StandFor-swept, StandFor-through}
use Rattle.gipmc_task.proofs.left.Left.of.Goals as goal

pub returns-in-Ok-Some : goal.returns-in-Ok-Some
returns-in-Ok-Some g c =
    let sweep = c.in-Ok-Some.sweep in
    let merges = sweep.merges.literals.items in
    let left = sweep.netlist.circuit in
    let whole = c.args.whole.now.circuit in
    let bads = subst (λ ls. left.bads.items ≡ map (merged merges) ls) c.deref.ensures.value
    (rw (c.in-Ok-Some.field-0-is) at c.in-Ok-Some.ensures.bads) in
    let swept = StandFor-swept merges sweep.invariant.items left whole left.bads.items whole.bads.items
    (rw (c.in-Ok-Some.field-0-is) at c.in-Ok-Some.ensures.swept) bads in
    IfSome_then c.in_part.result c.in_part.ensures
    (λ found is. StandFor-through found.part.netlist.circuit found.part.netlist.circuit.bads.items left left.bads.items whole
    whole.bads.items is swept)
