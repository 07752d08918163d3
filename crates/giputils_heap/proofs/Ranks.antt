-- Keys by rank: what is picked has the greatest rank, and the least where the ranks go the other way.
use Rattle.std.proofs.Common.{◌≡◌, ℕ, ◌<◌, ◌≤◌, Bool, true, List, [], ◌∷◌, ◌++◌, length, arith}
use Rattle.std.specs.Prelude.{slice_set}
use Rattle.std.specs.Bool.{beq}
use Rattle.std.specs.List.{list_all}
use Rattle.std.proofs.lemmas.Bool.{and_parts}
use Rattle.std.proofs.lemmas.Bool.Decides.{nat_tests}
use Rattle.giputils_bounded.specs.Prelude.{AgreesExcept, CanRepair, IsGreatest, IsInOrder, IsLawful, KeepsOrder, KeepsOrderWith, RepairsChanged, RepairsFallen, RepairsRisen, TakesGreatest, by_rank, is_held, rank_of, reverse_of, without}
use Rattle.giputils_heap.proofs.ComparerOrders.{IsTotalPreorder-by_rank, IsTotalPreorder-reverse_of, AgreesExcept-by_rank, AgreesExcept-by_least_rank, AgreesExcept-by_rank-push, AgreesExcept-by_least_rank-push, HasRisen-by_rank, HasFallen-by_rank}
use Rattle.giputils_bounded.proofs.KeySets.{pass_at_held, all_pass_from_held}
use Rattle.giputils_bounded.proofs.Preorders.{IsLawful-everywhere}
use Rattle.giputils_heap.proofs.Lent.{kept-lent, pushed-lent, greatest-lent, CanRepair-lent, repaired-lent, renewed-lent, risen-lent, fallen-lent}

module _ {T : Type 0} (number : T → ℕ) where
  -- ranks are lawful on any keys, and so are they the other way round
  pub IsLawful-by_rank : (ranks : List ℕ) (keys : List T) → IsLawful (by_rank number ranks) keys
  IsLawful-by_rank ranks = IsLawful-everywhere (by_rank number ranks) (IsTotalPreorder-by_rank number ranks)

  pub IsLawful-by_least_rank : (ranks : List ℕ) (keys : List T) → IsLawful (reverse_of (by_rank number ranks)) keys
  IsLawful-by_least_rank ranks =
      IsLawful-everywhere (reverse_of (by_rank number ranks)) (IsTotalPreorder-reverse_of (by_rank number ranks) (IsTotalPreorder-by_rank number ranks))

  -- what is at least another has at least its rank
  by_rank-le : (ranks : List ℕ) (x y : T) → by_rank number ranks x y ≡ true → rank_of ranks (number y) ≤ rank_of ranks (number x)
  by_rank-le ranks x y least = grind (arith, nat_tests)

  module _ (one_value : (x y : T) → number x ≡ number y → x ≡ y) (ranks : List ℕ) (keys : List T) (k : T) where
    -- a greatest key by rank has the greatest rank
    pub greatest_rank : IsGreatest number (by_rank number ranks) keys k → (x : T) → is_held number keys x ≡ true
        → rank_of ranks (number x) ≤ rank_of ranks (number k)
    greatest_rank greatest x held =
        let parts = and_parts (is_held number keys k) (list_all (by_rank number ranks k) keys) greatest in
        by_rank-le ranks k x (pass_at_held number one_value (by_rank number ranks k) keys x parts.1 held)

    -- the other way round, the least
    pub least_rank : IsGreatest number (reverse_of (by_rank number ranks)) keys k → (x : T) → is_held number keys x ≡ true
        → rank_of ranks (number k) ≤ rank_of ranks (number x)
    least_rank greatest x held =
        let parts = and_parts (is_held number keys k) (list_all (reverse_of (by_rank number ranks) k) keys) greatest in
        by_rank-le ranks x k (pass_at_held number one_value (reverse_of (by_rank number ranks) k) keys x parts.1 held)

  module _ (one_value : (x y : T) → number x ≡ number y → x ≡ y) where
    -- relations that agree but for a key do so the other way round
    pub AgreesExcept-reverse_of : (v : T) (R Q : T → T → Bool) (keys : List T) → AgreesExcept number v R Q keys
        → AgreesExcept number v (reverse_of R) (reverse_of Q) keys
    AgreesExcept-reverse_of v R Q keys agree =
        let kept = without number keys v in
        all_pass_from_held number one_value (λ x. list_all (λ y. beq (R y x) (Q y x)) kept) kept
        (λ x x_kept. all_pass_from_held number one_value (λ y. beq (R y x) (Q y x)) kept
        (λ y y_kept. pass_at_held number one_value (λ z. beq (R y z) (Q y z)) kept x
        (pass_at_held number one_value (λ w. list_all (λ z. beq (R w z) (Q w z)) kept) kept y agree y_kept) x_kept))

  -- ranks of which one has changed can be repaired, and so can they be the other way round
  pub CanRepair-by_rank : (v : T) (ranks : List ℕ) (r : ℕ) (keys : List T)
      → CanRepair number v (by_rank number ranks) (by_rank number (slice_set ranks (number v) r)) keys
  CanRepair-by_rank v ranks r keys =
      CanRepair-lent number (by_rank number) IsLawful-by_rank v ranks (slice_set ranks (number v) r) keys (AgreesExcept-by_rank number v ranks r keys)

  pub CanRepair-by_least_rank : (v : T) (ranks : List ℕ) (r : ℕ) (keys : List T)
      → CanRepair number v (reverse_of (by_rank number ranks)) (reverse_of (by_rank number (slice_set ranks (number v) r))) keys
  CanRepair-by_least_rank v ranks r keys =
      CanRepair-lent number (λ rs. reverse_of (by_rank number rs)) IsLawful-by_least_rank v ranks (slice_set ranks (number v) r) keys
      (AgreesExcept-by_least_rank number v ranks r keys)

  -- so can ranks to which one was appended
  pub CanRepair-by_rank-push : (v : T) (ranks : List ℕ) (r : ℕ) (keys : List T) → number v ≡ length ranks
      → CanRepair number v (by_rank number ranks) (by_rank number (ranks ++ r ∷ [])) keys
  CanRepair-by_rank-push v ranks r keys last =
      CanRepair-lent number (by_rank number) IsLawful-by_rank v ranks (ranks ++ r ∷ []) keys (AgreesExcept-by_rank-push number v ranks r keys last)

  pub CanRepair-by_least_rank-push : (v : T) (ranks : List ℕ) (r : ℕ) (keys : List T) → number v ≡ length ranks
      → CanRepair number v (reverse_of (by_rank number ranks)) (reverse_of (by_rank number (ranks ++ r ∷ []))) keys
  CanRepair-by_least_rank-push v ranks r keys last =
      CanRepair-lent number (λ rs. reverse_of (by_rank number rs)) IsLawful-by_least_rank v ranks (ranks ++ r ∷ []) keys
      (AgreesExcept-by_least_rank-push number v ranks r keys last)

  -- ---- a call that was lent the ranks `now`, which are these
  module _ (ranks now : List ℕ) (same : now ≡ ranks) (old new : List T) where
    -- keeps order by them
    pub kept-by_rank : KeepsOrder (by_rank number now) old new → IsInOrder (by_rank number ranks) old → IsInOrder (by_rank number ranks) new
    kept-by_rank = kept-lent number (by_rank number) IsLawful-by_rank ranks now same old new

    pub kept-by_least_rank : KeepsOrder (reverse_of (by_rank number now)) old new → IsInOrder (reverse_of (by_rank number ranks)) old
        → IsInOrder (reverse_of (by_rank number ranks)) new
    kept-by_least_rank = kept-lent number (λ rs. reverse_of (by_rank number rs)) IsLawful-by_least_rank ranks now same old new

    module _ (v : T) where
      -- a push keeps it too
      pub pushed-by_rank : KeepsOrderWith (by_rank number now) v old new → IsInOrder (by_rank number ranks) old → IsInOrder (by_rank number ranks) new
      pushed-by_rank = pushed-lent number (by_rank number) IsLawful-by_rank ranks now same old new v

      pub pushed-by_least_rank : KeepsOrderWith (reverse_of (by_rank number now)) v old new → IsInOrder (reverse_of (by_rank number ranks)) old
          → IsInOrder (reverse_of (by_rank number ranks)) new
      pushed-by_least_rank = pushed-lent number (λ rs. reverse_of (by_rank number rs)) IsLawful-by_least_rank ranks now same old new v

  -- what it takes out of order is a greatest key by them
  module _ (ranks now : List ℕ) (same : now ≡ ranks) (old : List T) (k : T) where
    pub greatest-by_rank : TakesGreatest number (by_rank number now) old k → IsInOrder (by_rank number ranks) old
        → IsGreatest number (by_rank number ranks) old k
    greatest-by_rank = greatest-lent number (by_rank number) IsLawful-by_rank ranks now same old k

    pub greatest-by_least_rank : TakesGreatest number (reverse_of (by_rank number now)) old k → IsInOrder (reverse_of (by_rank number ranks)) old
        → IsGreatest number (reverse_of (by_rank number ranks)) old k
    greatest-by_least_rank = greatest-lent number (λ rs. reverse_of (by_rank number rs)) IsLawful-by_least_rank ranks now same old k

  -- where the rank of v became r, a call that was lent the ranks since
  module _ (v : T) (ranks : List ℕ) (r : ℕ) (now : List ℕ) (same : now ≡ slice_set ranks (number v) r) (old new : List T) where
    -- repairs order, whatever r is
    pub repaired-by_rank : RepairsChanged number v (by_rank number now) old new old → IsInOrder (by_rank number ranks) old
        → IsInOrder (by_rank number (slice_set ranks (number v) r)) new
    repaired-by_rank =
        repaired-lent number (by_rank number) IsLawful-by_rank v ranks (slice_set ranks (number v) r) now same old new (AgreesExcept-by_rank number v ranks r old)

    pub repaired-by_least_rank : RepairsChanged number v (reverse_of (by_rank number now)) old new old → IsInOrder (reverse_of (by_rank number ranks)) old
        → IsInOrder (reverse_of (by_rank number (slice_set ranks (number v) r))) new
    repaired-by_least_rank =
        repaired-lent number (λ rs. reverse_of (by_rank number rs)) IsLawful-by_least_rank v ranks (slice_set ranks (number v) r) now same old new
        (AgreesExcept-by_least_rank number v ranks r old)

    -- so does `push_or_update`
    pub renewed-by_rank : RepairsChanged number v (by_rank number now) old new (v ∷ old) → IsInOrder (by_rank number ranks) old
        → IsInOrder (by_rank number (slice_set ranks (number v) r)) new
    renewed-by_rank =
        renewed-lent number (by_rank number) IsLawful-by_rank v ranks (slice_set ranks (number v) r) now same old new (AgreesExcept-by_rank number v ranks r old)

    pub renewed-by_least_rank : RepairsChanged number v (reverse_of (by_rank number now)) old new (v ∷ old) → IsInOrder (reverse_of (by_rank number ranks)) old
        → IsInOrder (reverse_of (by_rank number (slice_set ranks (number v) r))) new
    renewed-by_least_rank =
        renewed-lent number (λ rs. reverse_of (by_rank number rs)) IsLawful-by_least_rank v ranks (slice_set ranks (number v) r) now same old new
        (AgreesExcept-by_least_rank number v ranks r old)

    module _ (inside : number v < length ranks) where
      -- `up` does where it rose, and the other way round where it fell
      pub risen-by_rank : rank_of ranks (number v) ≤ r → RepairsRisen number v (by_rank number now) old new → IsInOrder (by_rank number ranks) old
          → IsInOrder (by_rank number (slice_set ranks (number v) r)) new
      risen-by_rank rises =
          risen-lent number (by_rank number) IsLawful-by_rank v ranks (slice_set ranks (number v) r) now same old new (AgreesExcept-by_rank number v ranks r old)
          (HasRisen-by_rank number v ranks r old inside rises)

      pub risen-by_least_rank : r ≤ rank_of ranks (number v) → RepairsRisen number v (reverse_of (by_rank number now)) old new
          → IsInOrder (reverse_of (by_rank number ranks)) old → IsInOrder (reverse_of (by_rank number (slice_set ranks (number v) r))) new
      risen-by_least_rank falls =
          risen-lent number (λ rs. reverse_of (by_rank number rs)) IsLawful-by_least_rank v ranks (slice_set ranks (number v) r) now same old new
          (AgreesExcept-by_least_rank number v ranks r old) (HasFallen-by_rank number v ranks r old inside falls)

      -- `down` does where it fell, and the other way round where it rose
      pub fallen-by_rank : r ≤ rank_of ranks (number v) → RepairsFallen number v (by_rank number now) old new → IsInOrder (by_rank number ranks) old
          → IsInOrder (by_rank number (slice_set ranks (number v) r)) new
      fallen-by_rank falls =
          fallen-lent number (by_rank number) IsLawful-by_rank v ranks (slice_set ranks (number v) r) now same old new (AgreesExcept-by_rank number v ranks r old)
          (HasFallen-by_rank number v ranks r old inside falls)

      pub fallen-by_least_rank : rank_of ranks (number v) ≤ r → RepairsFallen number v (reverse_of (by_rank number now)) old new
          → IsInOrder (reverse_of (by_rank number ranks)) old → IsInOrder (reverse_of (by_rank number (slice_set ranks (number v) r))) new
      fallen-by_least_rank rises =
          fallen-lent number (λ rs. reverse_of (by_rank number rs)) IsLawful-by_least_rank v ranks (slice_set ranks (number v) r) now same old new
          (AgreesExcept-by_least_rank number v ranks r old) (HasRisen-by_rank number v ranks r old inside rises)
