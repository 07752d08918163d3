-- What is k-inductive in a part of a circuit is so in the circuit.
use Rattle.std.proofs.Common.{◌≡◌, ℕ, ◌+◌, List, subst}
use Rattle.gipsat_cnf.specs.Prelude.{Assignment, Lit}
use Rattle.gipmc_circuits.specs.declared.circuit.Circuit.{Circuit}
use Rattle.gipmc_engines.specs.Verdicts.{IsSafeByInduction}
use Rattle.gipmc_reduce.specs.Cone.{IsPartOf, literal_named, read}
use Rattle.gipmc_reduce.proofs.ThroughNames.{FailsAfter-part, IsSafe-part, is_moment-read, is_transition-read}
use Rattle.gipmc_unroll.specs.Induction.{IsKInductive, IsPath}

-- a path of the whole circuit, read through the names, is one of the part
IsPath-read : (names : List ℕ) (part : Circuit) (whole : Circuit) (n : ℕ) (t : ℕ → Assignment)
    → IsPartOf names part whole → IsPath whole n t → IsPath part n (λ i. read names (t i))
IsPath-read names part whole n t is path = record {
  moments = λ i within. is_moment-read names part whole (t i) is (path.moments i within);
  transitions = λ i less. is_transition-read names part whole (t i) (t (i + 1)) is (path.transitions i less);
}

IsKInductive-part : (names : List ℕ) (part : Circuit) (whole : Circuit) (own : Lit) (k : ℕ)
    → IsPartOf names part whole → IsKInductive part own k → IsKInductive whole (literal_named names own) k
IsKInductive-part names part whole own k is by = record {
  base = λ m less fails. by.base m less (FailsAfter-part names part whole own m is fails);
  step = λ t path good fails.
      by.step (λ i. read names (t i)) (IsPath-read names part whole k t is path) (λ i less true_. good i less true_) fails;
}

pub IsSafeByInduction-whole : (names : List ℕ) (part : Circuit) (whole : Circuit) (own bad : Lit) (k : ℕ)
    → IsPartOf names part whole → literal_named names own ≡ bad → IsSafeByInduction part k own
    → IsSafeByInduction whole k bad
IsSafeByInduction-whole names part whole own bad k is stands by =
    subst (λ l. IsSafeByInduction whole k l) stands (record {
      inductive = IsKInductive-part names part whole own k is by.inductive;
      safe = IsSafe-part names part whole own is by.safe;
    })
