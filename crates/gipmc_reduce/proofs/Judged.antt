-- Verdicts on literals: by an invariant that excludes them, and by a part of the circuit.
use Rattle.std.proofs.Common.{◌≡◌, ℕ, zero, suc, List, [], ◌∷◌, map, Vec, refl, sym, subst}
use Rattle.std.specs.Prelude.{slice_get, Some}
use Rattle.std.specs.declared.alloc.Global.{Global}
use Rattle.gipsat_cnf.specs.Literals.{Lit}
use Rattle.gipsat_cnf.proofs.Places.{none_some, same_some}
use Rattle.gipmc_circuits.specs.Certificate.{AreExcluded, IsInductive, IsInitiated, IsSafeByClauses}
use Rattle.gipmc_circuits.specs.declared.certificate.Verdict.{Verdict}
use Rattle.gipmc_circuits.specs.declared.circuit.Circuit.{Circuit}
use Rattle.gipmc_circuits.proofs.Certified.{safe_by_invariant}
use Rattle.gipmc_reduce.specs.Cone.{IsPartOf, literal_named, rows, rows_named}
use Rattle.gipmc_reduce.specs.Verdicts.{AreSafeByClauses}
use Rattle.gipmc_reduce.proofs.ThroughNames.{IsSafeByClauses-part}

pub AreSafeByClauses-excluded : (c : Circuit) (invariant : List (Vec Lit Global)) (bads : List Lit)
    → (verdicts : List Verdict) → IsInitiated c invariant → IsInductive c invariant → AreExcluded c invariant bads verdicts
    → AreSafeByClauses c invariant bads verdicts
AreSafeByClauses-excluded c invariant bads verdicts first stays excluded k bad at certified = record {
  initiated = first;
  inductive = stays;
  excluded = excluded k bad at certified;
  safe = safe_by_invariant c invariant bad first stays (excluded k bad at certified);
}

-- what stands at a place of the renamed list stands there for one of the list
unnamed : {X : Type 0} (rename : X → X) (own : List X) (k : ℕ) (x : X) → slice_get (map rename own) k ≡ Some x
    → (y : X) × (slice_get own k ≡ Some y) × (rename y ≡ x)
unnamed rename [] k x at = none_some x at
unnamed rename (y ∷ own) zero x at = (y, refl, same_some (rename y) x at)
unnamed rename (y ∷ own) (suc k) x at = unnamed rename own k x at

-- verdicts on the part are verdicts on the whole circuit
pub AreSafeByClauses-part : (names : List ℕ) (part whole : Circuit) (own bads : List Lit)
    → (clauses invariant : List (Vec Lit Global)) (verdicts : List Verdict) → IsPartOf names part whole
    → map (literal_named names) own ≡ bads → rows invariant ≡ rows_named names clauses
    → AreSafeByClauses part clauses own verdicts → AreSafeByClauses whole invariant bads verdicts
AreSafeByClauses-part names part whole own bads clauses invariant verdicts is literals same safe k bad at certified =
    let (l, here, named) = unnamed (literal_named names) own k bad (subst (λ ls. slice_get ls k ≡ Some bad) (sym literals) at) in
    subst (λ b. IsSafeByClauses whole invariant b) named
    (IsSafeByClauses-part names part whole l clauses invariant is same (safe k l here certified))
