-- The listener of the caller has stopped the search where that of the proof has not.
use Rattle.std.proofs.Common.{Bool, true, false}
use Rattle.std.specs.Prelude.{◌||◌, IsTrue}
use Rattle.gipsat.proofs.solve.prove_by.Goals as goal

first_stops : (first second : Bool) → IsTrue (first || second) → ¬ (IsTrue second) → IsTrue first
first_stops true second either not = cc
first_stops false true either not = absurd (not cc)
first_stops false false either not = either

pub returns-in-Ok-end_steps-clause-stopped : goal.returns-in-Ok-end_steps-clause-stopped
returns-in-Ok-end_steps-clause-stopped g c is =
    first_stops _ _ (c.in-Ok.ensures.stopped is) c.in-Ok-end_steps.ensures
