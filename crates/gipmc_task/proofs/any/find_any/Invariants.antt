-- What was found is known of the literal at its place, and if that is safe, so is each before the next place. The
-- circuit and the literals stay.
use Rattle.std.proofs.Common.{◌≡◌, ℕ, ◌<◌, length, slice_get, Some}
use Rattle.gipsat_cnf.specs.Literals.{Lit}
use Rattle.gipmc_circuits.specs.Circuit.{IsSafe}
use Rattle.gipmc_task.specs.Answers.{IsKnown}
use Rattle.gipmc_task.specs.Verdicts.{outcome_of}
use Rattle.gipmc_task.specs.declared.outcome.Outcome.TheVariants.{Safe}
use Rattle.gipmc_task.proofs.any.find_any.Given as goal

abbrev pub invariant-loop-place : goal.invariant-loop-place
invariant-loop-place g l = record {
  whole : l.query.whole ≡ l.fn.query.whole;
  bads : l.query.bads ≡ l.fn.query.bads;
  within : l.found.place < length l.fn.query.bads.now;
  right : (bad : Lit) → slice_get l.fn.query.bads.now l.found.place ≡ Some bad
      → IsKnown l.fn.query.whole.now.circuit bad l.found.known;
  safe : outcome_of l.found.known ≡ Safe → (k : ℕ) (bad : Lit) → k < l.place
      → slice_get l.fn.query.bads.now k ≡ Some bad → IsSafe l.fn.query.whole.now.circuit bad;
}
