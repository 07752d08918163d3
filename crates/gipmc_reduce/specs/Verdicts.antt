-- Verdicts on several literals.
use Rattle.std.specs.Prelude.{◌≡◌, ℕ, List, Vec, slice_get, Some}
use Rattle.std.specs.declared.alloc.Global.{Global}
use Rattle.gipsat_cnf.specs.Literals.{Lit}
use Rattle.gipmc_circuits.specs.Certificate.{IsSafeByClauses}
use Rattle.gipmc_circuits.specs.declared.certificate.Verdict.{Verdict}
use Rattle.gipmc_circuits.specs.declared.certificate.Verdict.TheVariants.{Certified}
use Rattle.gipmc_circuits.specs.declared.circuit.Circuit.{Circuit}

-- by the clauses the circuit is safe as to each literal whose verdict is `Certified`
abbrev pub AreSafeByClauses : Circuit → List (Vec Lit Global) → List Lit → List Verdict → Type 0
AreSafeByClauses c invariant bads verdicts =
    (k : ℕ) → (bad : Lit) → slice_get bads k ≡ Some bad → slice_get verdicts k ≡ Some Certified
    → IsSafeByClauses c invariant bad
