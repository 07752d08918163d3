-- Those so far.
use Rattle.gipmc_reduce.specs.Saved.{Adds, note_latches, notes}
use Rattle.gipmc_reduce.proofs.liveness_to_safety.add_notes.Given as goal

abbrev pub invariant-loop-place : goal.invariant-loop-place
invariant-loop-place l =
    Adds l.fn.circuit l.circuit (note_latches l.variable l.before l.place) (notes l.outside l.variable l.before l.literals l.place)
