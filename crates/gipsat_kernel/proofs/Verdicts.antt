-- What clauses that follow tell of the formula.
use Rattle.std.proofs.Common.{◌≡◌, ℕ, List, [], ◌∷◌, length, map, Some, ap, arith, Bool, true, false, suc, zero, refl}
use Rattle.std.specs.Prelude.{◌==◌, slice_get, Option, Some, None, Result, Ok, Err, IfNone, IfOk, IfSome}
use Rattle.std.specs.Bool.{OnTrue}
use Rattle.std.proofs.lemmas.Bool.{false≢true}
use Rattle.gipsat_cnf.specs.Prelude.{AreHadBy, Clause, Formula, Implies, IsCore, IsModelUnder, IsSatisfiable, IsSatisfiableUnder, Lit, SaysSame, negated}
use Rattle.gipsat_cnf.proofs.LiteralLemmas.{not_both, true_literal}
use Rattle.gipsat_cnf.proofs.MakesTrue.{makes_true-at}
use Rattle.gipsat_cnf.proofs.Places.{none_some, same_some}

-- the empty clause
pub refutes : (f : Formula) (c : Clause) → length c ≡ 0 → Implies f c → ¬ (IsSatisfiable f)
refutes f [] none implied (a, sat) = false≢true (implied.follows a sat)
refutes f (l ∷ c) none implied (a, sat) = absurd (omega (arith, none))

-- a test for the empty clause
pub OnTrue-empty : {P : Type 0} (b : Bool) (c : Clause) → b ≡ (length c == 0) → (length c ≡ 0 → P) → OnTrue b P
OnTrue-empty b [] is then = rw is (then refl)
OnTrue-empty b (l ∷ c) is then = rw is (rw (length_cons l c) tt)
  where
    length_cons : (m : Lit) (d : Clause) → (length (m ∷ d) == 0) ≡ false
    length_cons m d = grind arith

pub OnTrue-then : {P Q : Type 0} (b : Bool) → (P → Q) → OnTrue b P → OnTrue b Q
OnTrue-then true then p = then p
OnTrue-then false then p = tt

has_negated : (c : Clause) (k : ℕ) (l : Lit) → slice_get c k ≡ Some l → slice_get (map negated c) k ≡ Some (negated l)
has_negated [] k l at = none_some l at
has_negated (m ∷ c) zero l at = ap (λ n. Some (negated n)) (same_some m l at)
has_negated (m ∷ c) (suc k) l at = has_negated c k l at

-- the negations of a clause's literals, if they are assumptions
pub IsCore-negations : (f : Formula) (c : Clause) (assumed : List Lit) → Implies f c → AreHadBy assumed (map negated c)
    → IsCore f assumed (map negated c)
IsCore-negations f c assumed implied had = record {
  among = had;
  refuted = λ (a, sat, all).
      let found = true_literal a c (implied.follows a sat) in
      not_both a found.0 found.2 (makes_true-at a (map negated c) found.1.0 (negated found.0) all (has_negated c found.1.0 found.0 found.1.1));
}

-- models of formulas that say the same
pub found-same : {V E : Type 0} (items : V → List Bool) (r : Result (Option V) E) (f g : Formula) (assumed : List Lit) → SaysSame f g
    → IfOk r (λ found. IfSome found (λ m. IsModelUnder f assumed (items m))) → IfOk r (λ found. IfSome found (λ m. IsModelUnder g assumed (items m)))
found-same items (Ok (Some m)) f g assumed same is = ((same _).1 is.0, is.1)
found-same items (Ok None) f g assumed same is = tt
found-same items (Err e) f g assumed same is = tt

pub none-same : {V E : Type 0} (r : Result (Option V) E) (f g : Formula) (assumed : List Lit) → SaysSame f g
    → IfOk r (λ found. IfNone found (¬ (IsSatisfiableUnder f assumed))) → IfOk r (λ found. IfNone found (¬ (IsSatisfiableUnder g assumed)))
none-same (Ok (Some m)) f g assumed same is = tt
none-same (Ok None) f g assumed same none = λ (a, sat, all). none (a, (same a).0 sat, all)
none-same (Err e) f g assumed same is = tt
