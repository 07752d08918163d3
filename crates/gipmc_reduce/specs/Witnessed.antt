-- Circuits that certify another one as to several literals.
use Rattle.std.specs.Prelude.{◌≡◌, ℕ, ◌++◌, Bool, true, List, [], ◌∷◌, slice_get, Some, IsTrue}
use Rattle.std.specs.List.{list_all}
use Rattle.gipsat_cnf.specs.Literals.{Lit}
use Rattle.gipmc_circuits.specs.Prelude.{IsCertifiedBy, IsInductiveBy, IsInitiatedBy, IsSafe, Simulates, literal_below}
use Rattle.gipmc_circuits.specs.declared.certificate.Verdict.{Verdict}
use Rattle.gipmc_circuits.specs.declared.certificate.Verdict.TheVariants.{Certified}
use Rattle.gipmc_circuits.specs.declared.circuit.Circuit.{Circuit}
use Rattle.gipmc_circuits.specs.declared.witness_circuit.Link.{Link}
use Rattle.gipmc_circuits.specs.declared.witness_circuit.WitnessCircuit.{WitnessCircuit}

-- by the certificate the circuit is safe as to each literal whose verdict is `Certified`
abbrev pub AreSafeBy : Circuit → WitnessCircuit → List Lit → List Verdict → Type 0
AreSafeBy c w bads verdicts =
    (k : ℕ) → (bad : Lit) → slice_get bads k ≡ Some bad → slice_get verdicts k ≡ Some Certified
    → IsCertifiedBy c bad w × IsSafe c bad

-- the certificate simulates the circuit, and its claims hold at first and are kept
pub record HoldsClaims (c : Circuit) (w : WitnessCircuit) : Type 0 where
  pub simulates : Simulates c w
  pub initiated : IsInitiatedBy c w
  pub inductive : IsInductiveBy c w

-- the variable of the literal that is shared is below n
abbrev pub shares_below : ℕ → Link → Bool
shares_below n k = literal_below n k.literal

-- s has the gates and constraints of c, and the constraint that variable n is true
pub record HasMoments (n : ℕ) (c s : Circuit) : Type 0 where
  pub gates : s.gates.items ≡ c.gates.items
  pub constraints : s.constraints.items ≡ c.constraints.items ++ record { variable = n; positive = true } ∷ []

-- the same, and the certificate shares literals below n alone
pub record IsStilled (n : ℕ) (c : Circuit) (w : WitnessCircuit) (s : Circuit) : Type 0 where
  pub moments : HasMoments n c s
  pub shared : IsTrue (list_all (shares_below n) w.shared.items)
