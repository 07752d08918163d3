-- The relations of the library's comparers: they order all keys, and a changed rank changes one key.
use Rattle.std.proofs.Common.{◌≡◌, ◌≢◌, ℕ, zero, suc, ◌<◌, ◌≤◌, Bool, true, ◌&&◌, ◌||◌, not, List, [], ◌∷◌, ◌++◌, length, refl, ap, sym, ◌∙◌, ⊎_elim, arith, IsTrue, eqb, ltb, leb}
use Rattle.std.specs.Prelude.{filter, slice_set}
use Rattle.std.proofs.Math.ListN.{set}
use Rattle.std.specs.Bool.{beq}
use Rattle.std.specs.Cmp.{bool_eq_equiv}
use Rattle.std.specs.List.{list_all}
use Rattle.std.proofs.lemmas.Bool.{cases_Bool, false≢true, eqb-true, eq-eqb}
use Rattle.std.proofs.lemmas.Bool.Decides.{nat_tests}
use Rattle.std.proofs.lemmas.List.{get_or-set_other, get_or-set_same}
use Rattle.giputils_bounded.specs.Prelude.{AgreesExcept, HasFallen, HasNoTies, HasRisen, IsTotalPreorder, by_number, by_rank, rank_of, reverse_of, same_key}
use Rattle.giputils_bounded.proofs.BoolsAndLists.{list_all-filter}
use Rattle.giputils_bounded.proofs.Greatest.{HasNoTies-everywhere}
use Rattle.giputils_bounded.proofs.Preorders.{list_all-always}

-- a pair of a rank and a number is at least another still where its rank rises, or where the other's falls
at_least_risen : (q q' n r m : ℕ) → q ≤ q' → (not (ltb r q || (eqb q r && leb m n)) || (ltb r q' || (eqb q' r && leb m n))) ≡ true
at_least_risen q q' n r m rises = grind (arith, nat_tests)

at_least_fallen : (q q' n r m : ℕ) → q' ≤ q → (not (ltb q r || (eqb r q && leb n m)) || (ltb q' r || (eqb r q' && leb n m))) ≡ true
at_least_fallen q q' n r m falls = grind (arith, nat_tests)

at_least_itself : (q n : ℕ) (b : Bool) → (not b || (ltb q q || (eqb q q && leb n n))) ≡ true
at_least_itself q n b = grind (arith, nat_tests)

-- a rank that is appended is that of the number behind the others alone
rank_of-append : (ranks : List ℕ) (r n : ℕ) → n ≢ length ranks → rank_of (ranks ++ r ∷ []) n ≡ rank_of ranks n
rank_of-append [] r zero apart = absurd (apart refl)
rank_of-append [] r (suc n) apart = refl
rank_of-append (q ∷ ranks) r zero apart = refl
rank_of-append (q ∷ ranks) r (suc n) apart = rank_of-append ranks r n (λ same. apart (ap suc same))

module _ {T : Type 0} where
  -- a relation that orders all keys does so the other way round
  pub IsTotalPreorder-reverse_of : (R : T → T → Bool) → IsTotalPreorder R → IsTotalPreorder (reverse_of R)
  IsTotalPreorder-reverse_of R order =
      record { total = λ x y. order.total y x; transitive = λ x y z xy yz. order.transitive z y x yz xy }

  module _ (number : T → ℕ) where
    -- the comparer by number orders all keys
    pub IsTotalPreorder-by_number : IsTotalPreorder (by_number number)
    IsTotalPreorder-by_number = record { total = λ x y. grind (arith, nat_tests); transitive = λ x y z xy yz. grind (arith, nat_tests) }

    -- a comparer by rank orders all keys
    pub IsTotalPreorder-by_rank : (ranks : List ℕ) → IsTotalPreorder (by_rank number ranks)
    IsTotalPreorder-by_rank ranks = record { total = λ x y. grind (arith, nat_tests); transitive = λ x y z xy yz. grind (arith, nat_tests) }

    -- by number there are no ties
    pub by_number-tie : (x y : T) → IsTrue (by_number number x y) → IsTrue (by_number number y x) → number x ≡ number y
    by_number-tie x y xy yx = grind (arith, nat_tests)

    -- nor are there by rank
    pub by_rank-tie : (ranks : List ℕ) (x y : T) → IsTrue (by_rank number ranks x y) → IsTrue (by_rank number ranks y x) → number x ≡ number y
    by_rank-tie ranks x y xy yx = grind (arith, nat_tests)

    -- so on no keys
    pub HasNoTies-by_number : (keys : List T) → HasNoTies number (by_number number) keys
    HasNoTies-by_number keys = HasNoTies-everywhere number (by_number number) by_number-tie keys

    pub HasNoTies-by_rank : (ranks : List ℕ) (keys : List T) → HasNoTies number (by_rank number ranks) keys
    HasNoTies-by_rank ranks keys = HasNoTies-everywhere number (by_rank number ranks) (by_rank-tie ranks) keys

    -- a key apart from v has another number
    pub apart_from : (v x : T) → not (same_key number v x) ≡ true → number x ≢ number v
    apart_from v x other same = false≢true (sym (ap not (eq-eqb (number v) (number x) (sym same))) ∙ other)

    -- a key of another number keeps its rank
    rank_of-other : (v x : T) (ranks : List ℕ) (r : ℕ) → not (same_key number v x) ≡ true
        → rank_of (set ranks (number v) r) (number x) ≡ rank_of ranks (number x)
    rank_of-other v x ranks r other = get_or-set_other ranks (number v) (number x) r 0 (apart_from v x other)

    -- tables that differ at v alone compare the other keys alike
    module _ (v : T) (ranks now : List ℕ) (alike : (n : ℕ) → n ≢ number v → rank_of now n ≡ rank_of ranks n) (keys : List T) where
      AgreesExcept-by_ranks : AgreesExcept number v (by_rank number ranks) (by_rank number now) keys
      AgreesExcept-by_ranks =
          let kept : T → Bool = λ k. not (same_key number v k) in
          list_all-filter kept (λ x. list_all (λ y. beq (by_rank number ranks x y) (by_rank number now x y)) (filter kept keys))
          (λ x x_kept. list_all-filter kept (λ y. beq (by_rank number ranks x y) (by_rank number now x y))
          (λ y y_kept. rw (alike (number x) (apart_from v x x_kept), alike (number y) (apart_from v y y_kept)) (bool_eq_equiv.refl (by_rank number ranks x y))) keys) keys

      AgreesExcept-by_least_ranks : AgreesExcept number v (reverse_of (by_rank number ranks)) (reverse_of (by_rank number now)) keys
      AgreesExcept-by_least_ranks =
          let kept : T → Bool = λ k. not (same_key number v k) in
          list_all-filter kept (λ x. list_all (λ y. beq (by_rank number ranks y x) (by_rank number now y x)) (filter kept keys))
          (λ x x_kept. list_all-filter kept (λ y. beq (by_rank number ranks y x) (by_rank number now y x))
          (λ y y_kept. rw (alike (number x) (apart_from v x x_kept), alike (number y) (apart_from v y y_kept)) (bool_eq_equiv.refl (by_rank number ranks y x))) keys) keys

    module _ (v : T) (ranks : List ℕ) (r : ℕ) (keys : List T) where
      -- a changed rank changes the comparisons of its key alone
      pub AgreesExcept-by_rank : AgreesExcept number v (by_rank number ranks) (by_rank number (slice_set ranks (number v) r)) keys
      AgreesExcept-by_rank = AgreesExcept-by_ranks v ranks (set ranks (number v) r) (λ n apart. get_or-set_other ranks (number v) n r 0 apart) keys

      -- the other way round too
      pub AgreesExcept-by_least_rank : AgreesExcept number v (reverse_of (by_rank number ranks)) (reverse_of (by_rank number (slice_set ranks (number v) r))) keys
      AgreesExcept-by_least_rank = AgreesExcept-by_least_ranks v ranks (set ranks (number v) r) (λ n apart. get_or-set_other ranks (number v) n r 0 apart) keys

      module _ (last : number v ≡ length ranks) where
        -- so does a rank that is appended
        pub AgreesExcept-by_rank-push : AgreesExcept number v (by_rank number ranks) (by_rank number (ranks ++ r ∷ [])) keys
        AgreesExcept-by_rank-push = AgreesExcept-by_ranks v ranks (ranks ++ r ∷ []) (λ n apart. rank_of-append ranks r n (λ same. apart (same ∙ sym last))) keys

        pub AgreesExcept-by_least_rank-push : AgreesExcept number v (reverse_of (by_rank number ranks)) (reverse_of (by_rank number (ranks ++ r ∷ []))) keys
        AgreesExcept-by_least_rank-push =
            AgreesExcept-by_least_ranks v ranks (ranks ++ r ∷ []) (λ n apart. rank_of-append ranks r n (λ same. apart (same ∙ sym last))) keys

    -- where the rank rises, so does the key
    pub HasRisen-by_rank : (v : T) (ranks : List ℕ) (r : ℕ) (keys : List T) → number v < length ranks → rank_of ranks (number v) ≤ r
        → HasRisen v (by_rank number ranks) (by_rank number (slice_set ranks (number v) r)) keys
    HasRisen-by_rank v ranks r keys inside rises =
        let now : rank_of (set ranks (number v) r) (number v) ≡ r = get_or-set_same ranks (number v) r 0 inside in
        list_all-always (λ x. not (by_rank number ranks v x) || by_rank number (set ranks (number v) r) v x)
        (λ x. ⊎_elim
        (λ same. let same' : number x ≡ number v = sym (eqb-true (number v) (number x) same) in
        rw same' (at_least_itself (rank_of (set ranks (number v) r) (number v)) (number v) (by_rank number ranks v v)))
        (λ other. let apart : not (same_key number v x) ≡ true = ap not other in
        rw (now, rank_of-other v x ranks r apart) (at_least_risen (rank_of ranks (number v)) r (number v) (rank_of ranks (number x)) (number x) rises))
        (cases_Bool (same_key number v x))) keys

    -- where the rank falls, so does the key
    pub HasFallen-by_rank : (v : T) (ranks : List ℕ) (r : ℕ) (keys : List T) → number v < length ranks → r ≤ rank_of ranks (number v)
        → HasFallen v (by_rank number ranks) (by_rank number (slice_set ranks (number v) r)) keys
    HasFallen-by_rank v ranks r keys inside falls =
        let now : rank_of (set ranks (number v) r) (number v) ≡ r = get_or-set_same ranks (number v) r 0 inside in
        list_all-always (λ x. not (by_rank number ranks x v) || by_rank number (set ranks (number v) r) x v)
        (λ x. ⊎_elim
        (λ same. let same' : number x ≡ number v = sym (eqb-true (number v) (number x) same) in
        rw same' (at_least_itself (rank_of (set ranks (number v) r) (number v)) (number v) (by_rank number ranks v v)))
        (λ other. let apart : not (same_key number v x) ≡ true = ap not other in
        rw (now, rank_of-other v x ranks r apart) (at_least_fallen (rank_of ranks (number v)) r (number v) (rank_of ranks (number x)) (number x) falls))
        (cases_Bool (same_key number v x))) keys
