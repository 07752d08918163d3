-- The moments so far are a trace that follows the rows so far, and the values are those of its last moment.
use Rattle.std.proofs.Common.{◌≡◌, ℕ, ◌+◌, length}
use Rattle.gipsat_cnf.specs.Prelude.{Assignment, assignment_in}
use Rattle.gipmc_circuits.specs.Prelude.{HoldsRow, IsTrace, latch_variables}
use Rattle.gipmc_circuits.proofs.Rows.{HoldsRowsUpTo}
use Rattle.gipmc_traces.specs.Rows.{AreHeld}
use Rattle.gipmc_traces.proofs.rows.rows_of.Given as goal

abbrev pub invariant-loop-place : goal.invariant-loop-place
invariant-loop-place l =
    (t : ℕ → Assignment) × IsTrace l.circuit l.place t × (t l.place ≡ assignment_in l.values.items)
    × HoldsRow (t 0) (latch_variables l.circuit) l.trace.latches.items
    × HoldsRowsUpTo l.place t l.circuit.inputs.items l.trace.inputs.items
    × (length l.rows.items ≡ l.place + 1) × AreHeld l.circuit t l.rows.items
