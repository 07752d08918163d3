-- Worked examples of what the kernel says of RAT: accepted and refused ones.
use Rattle.std.proofs.Common.{◌≡◌, ℕ, true, false, [], ◌∷◌, refl, zero, suc, ap, ◌∙◌, sym, subst, ⊎_elim, inr, true≢false, unwrap_or, Option, Some, arith}
use Rattle.std.specs.Prelude.{slice_get}
use Rattle.std.proofs.lemmas.Bool.{false≢true}
use Rattle.gipsat_cnf.proofs.Places.{none_some}
use Rattle.gipsat_cnf.specs.Prelude.{Clause, Lit}
use Rattle.gipsat_kernel.specs.Kernel.{original_among}
use Rattle.gipsat_kernel.specs.Rat.{AreResolved, HasResolvent, IsOfResolvent, KeepsSatisfiable}

abbrev yes : ℕ → Lit
yes v = record { variable = v; positive = true }

abbrev not_ : ℕ → Lit
not_ v = record { variable = v; positive = false }

-- a unit clause on a new variable keeps satisfiability, though it does not follow; the empty clause does not
unit_keeps : KeepsSatisfiable [] ((yes 0 ∷ []) ∷ [])
unit_keeps = λ any. ((λ v. true), refl)

empty_loses : KeepsSatisfiable [] ([] ∷ []) → ⊥
empty_loses keeps = let (a, sat) = keeps ((λ v. true), refl) in false≢true sat

-- x1 is part of the resolvent of x0 and (not x0 or x1), and x2 is not
part : IsOfResolvent (not_ 0) (yes 0 ∷ []) (not_ 0 ∷ yes 1 ∷ []) (yes 1 ∷ [])
part l (zero, at) = inr ((1, at), λ is. true≢false (ap (λ o. (unwrap_or o (yes 0)).positive) at ∙ ap (λ m. m.positive) is))
part l (suc k, at) = none_some l at

other_part : IsOfResolvent (not_ 0) (yes 0 ∷ []) (not_ 0 ∷ yes 1 ∷ []) (yes 2 ∷ []) → ⊥
other_part is = ⊎_elim (λ (k, at). of_one k at) (λ ((k, at), but). of_two k at) (is (yes 2) (0, refl))
  where
    variable_of : Option Lit → ℕ
    variable_of o = (unwrap_or o (yes 0)).variable

    of_one : (k : ℕ) → slice_get (yes 0 ∷ []) k ≡ Some (yes 2) → ⊥
    of_one zero at = let same : 0 ≡ 2 = ap variable_of at in omega (arith, same)
    of_one (suc k) at = none_some (yes 2) at

    of_two : (k : ℕ) → slice_get (not_ 0 ∷ yes 1 ∷ []) k ≡ Some (yes 2) → ⊥
    of_two zero at = let same : 0 ≡ 2 = ap variable_of at in omega (arith, same)
    of_two (suc zero) at = let same : 1 ≡ 2 = ap variable_of at in omega (arith, same)
    of_two (suc (suc k)) at = none_some (yes 2) at

-- a clause with the pivot's negation is asked for its resolvent where it is held, and not where it was deleted
deleted : AreResolved (false ∷ []) ((not_ 0 ∷ []) ∷ []) (not_ 0) (yes 0 ∷ []) 1
deleted zero d less held at has = absurd (false≢true held)
deleted (suc k) d less held at has = absurd (omega (arith, less))

unresolved : AreResolved (true ∷ []) ((not_ 0 ∷ []) ∷ []) (not_ 0) (yes 0 ∷ []) 1 → ⊥
unresolved all = none (all zero (not_ 0 ∷ []) (omega arith) refl refl (0, refl))
  where
    turned : (k : ℕ) → slice_get (yes 0 ∷ []) k ≡ Some (not_ 0) → ⊥
    turned zero at = true≢false (ap (λ o. (unwrap_or o (yes 0)).positive) at)
    turned (suc k) at = none_some (not_ 0) at

    held : (k : ℕ) (c : Clause) → slice_get ((not_ 0 ∷ []) ∷ []) k ≡ Some c
        → IsOfResolvent (not_ 0) (yes 0 ∷ []) (not_ 0 ∷ []) c → ⊥
    held zero c at is =
        let same : not_ 0 ∷ [] ≡ c = ap (λ o. unwrap_or o []) at in
        let whole = subst (IsOfResolvent (not_ 0) (yes 0 ∷ []) (not_ 0 ∷ [])) (sym same) is in
        ⊎_elim (λ (k, there). turned k there) (λ (has, but). but refl) (whole (not_ 0) (0, refl))
    held (suc k) c at is = none_some c at

    none : HasResolvent (original_among (true ∷ []) ((not_ 0 ∷ []) ∷ [])) (not_ 0) (yes 0 ∷ []) (not_ 0 ∷ []) → ⊥
    none (c, (k, at), is) = held k c at is
