-- Smaller circuits that are searched in place of a circuit.
use Rattle.std.specs.Prelude.{◌≡◌, ℕ, List, length, slice_get, Some}
use Rattle.gipsat_cnf.specs.Literals.{Lit}
use Rattle.gipmc_circuits.specs.Circuit.{FailsAfter}
use Rattle.gipmc_circuits.specs.declared.circuit.Circuit.{Circuit}

-- the whole circuit fails as to the bad literal only after as many transitions as the smaller one does as to its own
abbrev pub StandsFor : Circuit → Lit → Circuit → Lit → Type 0
StandsFor small own whole bad = (n : ℕ) → ¬ (FailsAfter small own n) → ¬ (FailsAfter whole bad n)

-- each literal of the smaller circuit stands so for the one of the whole circuit at the same place
pub record StandFor (small : Circuit) (owns : List Lit) (whole : Circuit) (bads : List Lit) : Type 0 where
  pub count : length owns ≡ length bads
  pub each : (k : ℕ) (own bad : Lit) → slice_get owns k ≡ Some own → slice_get bads k ≡ Some bad
      → StandsFor small own whole bad
