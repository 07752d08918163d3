-- What a certificate shows of bad literals.
use Rattle.std.proofs.Common.{◌≡◌, ℕ, ◌<◌, List, [], ◌∷◌, Vec, arith, length, slice_get, Some, refl}
use Rattle.std.specs.declared.alloc.Global.{Global}
use Rattle.std.proofs.lemmas.Option.{slice_get_within}
use Rattle.gipsat_cnf.specs.Literals.{Lit}
use Rattle.gipmc_circuits.specs.declared.circuit.Circuit.{Circuit}
use Rattle.gipmc_circuits.specs.declared.certificate.Verdict.{Verdict}
use Rattle.gipmc_circuits.specs.declared.certificate.Verdict.TheVariants.{Certified}
use Rattle.gipmc_circuits.specs.declared.witness_circuit.WitnessCircuit.{WitnessCircuit}
use Rattle.gipmc_reduce.specs.Verdicts.{AreSafeByClauses}
use Rattle.gipmc_reduce.specs.Witnessed.{AreSafeBy}
use Rattle.gipmc_task.specs.Certificates.{AreShownSafe, ShowsSafe, ShowsSafeAt}
use Rattle.gipmc_task.specs.declared.certificates.Certificate.{Certificate}
use Rattle.gipmc_task.specs.declared.certificates.Certificate.TheVariants as certificate

-- at the place of the one literal of which it is shown
pub ShowsSafeAt-one : (c : Circuit) (shown : Certificate) (place : ℕ) (bad : Lit)
    → slice_get c.bads.items place ≡ Some bad → ((k : ℕ) (l : Lit) → slice_get (bad ∷ []) k ≡ Some l → ShowsSafe c shown l)
    → ShowsSafeAt c shown place
ShowsSafeAt-one c shown place bad here shows = (bad, here, shows 0 bad refl)

-- by clauses, where each verdict is that they certify
pub AreShownSafe-certified : (c : Circuit) (clauses : Vec (Vec Lit Global) Global) (bads : List Lit) (verdicts : List Verdict)
    → length verdicts ≡ length bads → AreSafeByClauses c clauses.items bads verdicts
    → ((k : ℕ) → k < length verdicts → slice_get verdicts k ≡ Some Certified)
    → AreShownSafe c (certificate.Clauses clauses) bads
AreShownSafe-certified c clauses bads verdicts count safe certified k bad at =
    let less = slice_get_within bads k bad at in
    safe k bad at (certified k (omega (arith, count, less)))

-- by another circuit, where each verdict is that it certifies
pub AreShownSafe-circuit : (c : Circuit) (other : WitnessCircuit) (bads : List Lit) (verdicts : List Verdict)
    → length verdicts ≡ length bads → AreSafeBy c other bads verdicts
    → ((k : ℕ) → k < length verdicts → slice_get verdicts k ≡ Some Certified)
    → AreShownSafe c (certificate.Circuit other) bads
AreShownSafe-circuit c other bads verdicts count safe certified k bad at =
    let less = slice_get_within bads k bad at in
    safe k bad at (certified k (omega (arith, count, less)))
