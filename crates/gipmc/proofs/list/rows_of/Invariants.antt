-- Each property so far has its row.
use Rattle.std.proofs.Common.{◌≡◌, [], length, map}
use Rattle.gipmc_aiger.specs.declared.problem.Property.TheVariants.{Bad, Justice}
use Rattle.gipmc.specs.Asked.{followed}
use Rattle.gipmc.proofs.list.rows_of.Given as goal

abbrev pub invariant-loop-bad : goal.invariant-loop-bad
invariant-loop-bad l = map (λ row. row.property) l.rows.items ≡ followed [] Bad l.bad

abbrev pub invariant-loop-justice : goal.invariant-loop-justice
invariant-loop-justice l =
    map (λ row. row.property) l.rows.items
    ≡ followed (followed [] Bad (length l.problem.netlist.circuit.bads.items)) Justice l.justice
