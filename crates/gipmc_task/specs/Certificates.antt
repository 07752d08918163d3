-- Certificates that properties hold, as texts.
use Rattle.std.specs.Prelude.{◌≡◌, ◌<◌, ◌==◌, ◌-◌, ◌^◌, ◌⊎◌, ◌++◌, ℕ, List, [], ◌∷◌, Vec, length, codes, slice_get, if◌then◌else◌, Option, Some, None}
use Rattle.std.specs.Str.{bytes_eq}
use Rattle.std.specs.declared.alloc.Global.{Global}
use Rattle.gipsat_cnf.specs.Prelude.{Formula, Lit}
use Rattle.gipmc_aiger.specs.Prelude.{WritesWitness, clauses_view, invariant_for}
use Rattle.gipmc_aiger.specs.declared.liveness.Liveness.{Liveness}
use Rattle.gipmc_aiger.specs.declared.problem.Problem.{Problem}
use Rattle.gipmc_aiger.specs.declared.problem.Property.TheVariants.{Bad, Justice}
use Rattle.gipmc_aiger.specs.declared.problem.Subject.{Subject}
use Rattle.gipmc_aiger.specs.declared.problem.Subject.TheVariants.{All, Any, One}
use Rattle.gipmc_circuits.specs.Prelude.{IsCertifiedBy, IsSafe, IsSafeByClauses}
use Rattle.gipmc_circuits.specs.declared.circuit.Circuit.{Circuit}
use Rattle.gipmc_circuits.specs.declared.witness_circuit.WitnessCircuit.{WitnessCircuit}
use Rattle.gipmc_engines.specs.Verdicts.{IsSafeByInduction}
use Rattle.gipmc_reduce.specs.Liveness.{IsLive}
use Rattle.gipmc_reduce.specs.Longer.{IsMadeBy}
use Rattle.gipmc_reduce.specs.declared.means.Means.{Means}
use Rattle.giputils_text.specs.Lines.{pieces, space, text_lines}
use Rattle.giputils_text.specs.Numbers.{number_up_to}
use Rattle.gipmc_task.specs.declared.certificates.Certificate.{Certificate}
use Rattle.gipmc_task.specs.declared.certificates.Certificate.TheVariants as certificate

-- the k that some words name: `k` and a number, up to 2^31 - 1
abbrev pub k_of : List (List ℕ) → Option ℕ
k_of (word ∷ digits ∷ []) = if bytes_eq word (codes "k") then number_up_to (2 ^ 31 - 1) digits else None
k_of words = None

-- the k that a line names
abbrev pub k_in : List ℕ → Option ℕ
k_in line = k_of (pieces space line)

-- the first line of the text names this k, and the rest comes behind it
abbrev pub BeginsWithK : List ℕ → ℕ → List ℕ → Type 0
BeginsWithK text k rest = (line : List ℕ) × (text_lines text ≡ line ∷ text_lines rest) × (k_in line ≡ Some k)

-- the clauses that stand behind a k: none where nothing comes there
abbrev pub clauses_behind : Circuit → List ℕ → Option Formula
clauses_behind c rest = if length rest == 0 then Some [] else invariant_for c rest

-- the text writes the certificate: clauses over the latches of the circuit, a k and clauses behind it, or another circuit
-- that shares with it what the text says
abbrev pub IsCertificateIn : Circuit → List ℕ → Certificate → Type 0
IsCertificateIn c text (certificate.Clauses clauses) = invariant_for c text ≡ Some (clauses_view clauses.items)
IsCertificateIn c text (certificate.Induction k clauses) =
    (rest : List ℕ) × BeginsWithK text k rest × (clauses_behind c rest ≡ Some (clauses_view clauses.items))
IsCertificateIn c text (certificate.Circuit other) = WritesWitness c text other

-- by the other circuit it is safe as to the literal
abbrev pub IsSafeByCircuit : Circuit → WitnessCircuit → Lit → Type 0
IsSafeByCircuit c other bad = IsCertifiedBy c bad other × IsSafe c bad

-- by the certificate the circuit is safe as to the literal
abbrev pub ShowsSafe : Circuit → Certificate → Lit → Type 0
ShowsSafe c (certificate.Clauses clauses) bad = IsSafeByClauses c clauses.items bad
ShowsSafe c (certificate.Induction k clauses) bad = IsSafeByClauses c clauses.items bad ⊎ IsSafeByInduction c k bad
ShowsSafe c (certificate.Circuit other) bad = IsSafeByCircuit c other bad

-- the circuit has a bad literal at the place, and by the certificate it is safe as to it
abbrev pub ShowsSafeAt : Circuit → Certificate → ℕ → Type 0
ShowsSafeAt c shown place = (bad : Lit) × (slice_get c.bads.items place ≡ Some bad) × ShowsSafe c shown bad

-- by the certificate the circuit is safe as to each of the literals
abbrev pub AreShownSafe : Circuit → Certificate → List Lit → Type 0
AreShownSafe c shown bads = (k : ℕ) (bad : Lit) → slice_get bads k ≡ Some bad → ShowsSafe c shown bad

-- the circuit has bad literals, and by the certificate it is safe as to each of them
abbrev pub ShowsSafeAll : Circuit → Certificate → Type 0
ShowsSafeAll c shown = (0 < length c.bads.items) × AreShownSafe c shown c.bads.items

-- by the certificate it is safe as to the bad literal that is asked for, which it has, or as to all
abbrev pub ShowsSafeAsked : Circuit → Certificate → Option ℕ → Type 0
ShowsSafeAsked c shown None = ShowsSafeAll c shown
ShowsSafeAsked c shown (Some place) = ShowsSafeAt c shown place

-- the text writes a certificate by which the circuit is safe so
abbrev pub CertifiesSafe : Circuit → List ℕ → Option ℕ → Type 0
CertifiesSafe c text asked = (shown : Certificate) × IsCertificateIn c text shown × ShowsSafeAsked c shown asked

-- the text writes clauses over the latches of the longer circuit, by which that is safe
abbrev pub IsSafelyMadeBy : Circuit → List Lit → Means → List ℕ → Type 0
IsSafelyMadeBy c literals means text =
    (e : Circuit) × (bad : Lit) × IsMadeBy c literals means e bad × (clauses : List (Vec Lit Global))
    × (invariant_for e text ≡ Some (clauses_view clauses)) × IsSafeByClauses e clauses bad

-- so of one that counts, or of the one that saves; and the circuit is live
abbrev pub IsLiveByText : Circuit → List Lit → List Lit → List ℕ → Type 0
IsLiveByText c fairness justice text =
    ((means : Means) × IsSafelyMadeBy c (fairness ++ justice) means text) × IsLive c fairness justice

-- by the text the circuit is live as to the justice property at a place, which it has
abbrev pub CertifiesLive : Circuit → Liveness → List ℕ → ℕ → Type 0
CertifiesLive c l text place =
    (justice : Vec Lit Global) × (slice_get l.justice.items place ≡ Some justice)
    × IsLiveByText c l.fairness.items justice.items text

-- the text is a certificate of the property that is asked about, or of all bad literals
abbrev pub Certifies : Problem → List ℕ → Subject → Type 0
Certifies p text All = CertifiesSafe p.netlist.circuit text None
Certifies p text Any = CertifiesSafe p.netlist.circuit text None
Certifies p text (One (Bad place)) = CertifiesSafe p.netlist.circuit text (Some place)
Certifies p text (One (Justice place)) = CertifiesLive p.netlist.circuit p.liveness text place
