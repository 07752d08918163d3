-- Keys by ranks of any kind: where `cmp` is a total order, so is what compares the keys by it.
use Rattle.std.proofs.Common.{◌≡◌, ◌≢◌, ℕ, zero, suc, ◌≤◌, Bool, true, ◌||◌, not, List, [], ◌∷◌, ◌++◌, length, Option, Some, Ordering, IsTrue, refl, sym, ap, ◌∙◌, ⊎_elim, arith}
use Rattle.std.specs.Prelude.{slice_get, slice_set, filter, is_some}
use Rattle.std.proofs.Math.ListN.{set}
use Rattle.std.specs.Bool.{beq}
use Rattle.std.specs.List.{list_all}
use Rattle.std.specs.Cmp.{IsTotalOrder, bool_eq_equiv, nat_cmp_is}
use Rattle.std.specs.Cmp.Lexicographic.{options_total}
use Rattle.std.specs.Option.{option_cmp}
use Rattle.std.specs.Ordering.{is_ge, is_gt, is_le, nat_cmp, ordering_reverse, ordering_then}
use Rattle.std.specs.declared.cmp.Ordering.TheVariants.{Less, Equal, Greater}
use Rattle.std.proofs.lemmas.Bool.{and_parts, cases_Bool, cases_lt, false≢true, eqb-true, not-true, or_cases}
use Rattle.std.proofs.lemmas.Cmp.{upto, nat_cmp_total, on_total, then_total}
use Rattle.giputils_bounded.specs.Prelude.{AgreesExcept, CanRepair, HasFallen, HasRisen, IsGreatest, IsInOrder, IsLawful, IsTotalPreorder, KeepsOrder, KeepsOrderWith, RepairsChanged, RepairsFallen, RepairsRisen, TakesGreatest, by_ord, compared, is_held, reverse_of, same_key}
use Rattle.giputils_bounded.proofs.BoolsAndLists.{implied_from, list_all-filter}
use Rattle.giputils_heap.proofs.ComparerOrders.{apart_from, IsTotalPreorder-reverse_of}
use Rattle.giputils_bounded.proofs.KeySets.{pass_at_held}
use Rattle.giputils_heap.proofs.Lent.{kept-lent, pushed-lent, greatest-lent, CanRepair-lent, repaired-lent, renewed-lent, risen-lent, fallen-lent}
use Rattle.giputils_bounded.proofs.Preorders.{list_all-always, IsLawful-everywhere}

-- at least is not less, and less the other way round is greater
ge_turned : (r : Ordering) → is_ge r ≡ not (is_gt (ordering_reverse r))
ge_turned Less = refl
ge_turned Equal = refl
ge_turned Greater = refl

ge_total : (r : Ordering) → (is_ge r || is_ge (ordering_reverse r)) ≡ true
ge_total Less = refl
ge_total Equal = refl
ge_total Greater = refl

-- a write to a place is none to another
pub slice_get-set_other : {X : Type 0} (xs : List X) (i j : ℕ) (x : X) → j ≢ i → slice_get (set xs i x) j ≡ slice_get xs j
slice_get-set_other [] i j x apart = refl
slice_get-set_other (y ∷ xs) zero zero x apart = absurd (apart refl)
slice_get-set_other (y ∷ xs) zero (suc j) x apart = refl
slice_get-set_other (y ∷ xs) (suc i) zero x apart = refl
slice_get-set_other (y ∷ xs) (suc i) (suc j) x apart = slice_get-set_other xs i j x (λ same. apart (ap suc same))

-- of numbers one is at most the other as `≤` says
pub is_le-nat : (a b : ℕ) → a ≤ b → IsTrue (is_le (nat_cmp a b))
is_le-nat a b at_most =
    ⊎_elim (λ less. ap is_le (sym (nat_cmp_is a b Less less))) (λ back. ap is_le (sym (nat_cmp_is a b Equal (omega (arith, at_most, back))))) (cases_lt a b)

-- what is appended stands behind the others alone
slice_get-append : {X : Type 0} (xs : List X) (x : X) (n : ℕ) → n ≢ length xs → slice_get (xs ++ x ∷ []) n ≡ slice_get xs n
slice_get-append [] x zero apart = absurd (apart refl)
slice_get-append [] x (suc n) apart = refl
slice_get-append (y ∷ xs) x zero apart = refl
slice_get-append (y ∷ xs) x (suc n) apart = slice_get-append xs x n (λ same. apart (ap suc same))

-- a write to a place that there is is read there
pub slice_get-set_same : {X : Type 0} (xs : List X) (i : ℕ) (was x : X) → slice_get xs i ≡ Some was → slice_get (set xs i x) i ≡ Some x
slice_get-set_same [] i was x there = absurd (false≢true (ap is_some there))
slice_get-set_same (y ∷ xs) zero was x there = refl
slice_get-set_same (y ∷ xs) (suc i) was x there = slice_get-set_same xs i was x there

-- at most, turned round, is at least
le_turned : (r : Ordering) → is_le r ≡ true → is_ge (ordering_reverse r) ≡ true
le_turned Less e = refl
le_turned Equal e = refl
le_turned Greater e = absurd (false≢true e)

-- and at least is at most
pub ge_turned_back : (r : Ordering) → is_ge r ≡ true → is_le (ordering_reverse r) ≡ true
ge_turned_back Less e = absurd (false≢true e)
ge_turned_back Equal e = refl
ge_turned_back Greater e = refl

-- of two orders the first says at least where both say so one after the other
first_ge : (a b : Ordering) → is_ge (ordering_then a b) ≡ true → is_ge a ≡ true
first_ge Less b e = e
first_ge Equal b e = refl
first_ge Greater b e = refl

-- two orders of which both say at least do so one after the other
ge_then : (a b : Ordering) → is_ge a ≡ true → is_ge b ≡ true → is_ge (ordering_then a b) ≡ true
ge_then Less b e f = absurd (false≢true e)
ge_then Equal b e f = f
ge_then Greater b e f = refl

module _ {K : Type 0} (by : K → K → Ordering) (order : IsTotalOrder by) where
  -- by a total order anything is ordered
  IsTotalPreorder-ge : IsTotalPreorder (λ x y. is_ge (by x y))
  IsTotalPreorder-ge = record {
    total = λ x y. rw (order.antisymm y x) (ge_total (by x y));
    transitive = λ x y z xy yz.
        let turned : (a b : K) → is_ge (by a b) ≡ not (is_gt (by b a)) =
        λ a b. ge_turned (by a b) ∙ ap (λ r. not (is_gt r)) (sym (order.antisymm b a))
        in
        turned x z ∙ ap not (upto order z y x (not-true (is_gt (by z y)) (sym (turned y z) ∙ yz)) (not-true (is_gt (by y x)) (sym (turned x y) ∙ xy)));
  }

  -- and at least itself
  ge_itself : (x : K) → is_ge (by x x) ≡ true
  ge_itself x = ⊎_elim (λ e. e) (λ e. e) (or_cases (is_ge (by x x)) (is_ge (by x x)) (IsTotalPreorder-ge.total x x))

module _ {T R : Type 0} (number : T → ℕ) (cmp : R → R → Ordering) (order : IsTotalOrder cmp) where
  -- keys compare by a total order
  pub IsTotalOrder-compared : (ranks : List R) → IsTotalOrder (compared number cmp ranks)
  IsTotalOrder-compared ranks =
      then_total (on_total (λ (k : T). slice_get ranks (number k)) (options_total order)) (on_total number nat_cmp_total)

  -- so any keys are ordered
  pub IsTotalPreorder-by_ord : (ranks : List R) → IsTotalPreorder (by_ord number cmp ranks)
  IsTotalPreorder-by_ord ranks = IsTotalPreorder-ge (compared number cmp ranks) (IsTotalOrder-compared ranks)

  -- such ranks are lawful on any keys, and so are they the other way round
  pub IsLawful-by_ord : (ranks : List R) (keys : List T) → IsLawful (by_ord number cmp ranks) keys
  IsLawful-by_ord ranks = IsLawful-everywhere (by_ord number cmp ranks) (IsTotalPreorder-by_ord ranks)

  pub IsLawful-by_least_ord : (ranks : List R) (keys : List T) → IsLawful (reverse_of (by_ord number cmp ranks)) keys
  IsLawful-by_least_ord ranks =
      IsLawful-everywhere (reverse_of (by_ord number cmp ranks)) (IsTotalPreorder-reverse_of (by_ord number cmp ranks) (IsTotalPreorder-by_ord ranks))

  -- ---- two tables of which the ranks differ at v alone
  module _ (v : T) (ranks now : List R) (alike : (n : ℕ) → n ≢ number v → slice_get now n ≡ slice_get ranks n) (keys : List T) where
    abbrev kept : T → Bool
    kept k = not (same_key number v k)

    compared-alike : (x y : T) → kept x ≡ true → kept y ≡ true → compared number cmp now x y ≡ compared number cmp ranks x y
    compared-alike x y x_kept y_kept =
        rw (alike (number x) (apart_from number v x x_kept), alike (number y) (apart_from number v y y_kept)) refl

    -- compare the other keys alike
    AgreesExcept-by_ords : AgreesExcept number v (by_ord number cmp ranks) (by_ord number cmp now) keys
    AgreesExcept-by_ords =
        let by = by_ord number cmp ranks in
        let by_now = by_ord number cmp now in
        list_all-filter kept (λ x. list_all (λ y. beq (by x y) (by_now x y)) (filter kept keys))
        (λ x x_kept. list_all-filter kept (λ y. beq (by x y) (by_now x y))
        (λ y y_kept. rw (compared-alike x y x_kept y_kept) (bool_eq_equiv.refl (by x y))) keys) keys

    AgreesExcept-by_least_ords : AgreesExcept number v (reverse_of (by_ord number cmp ranks)) (reverse_of (by_ord number cmp now)) keys
    AgreesExcept-by_least_ords =
        let by = by_ord number cmp ranks in
        let by_now = by_ord number cmp now in
        list_all-filter kept (λ x. list_all (λ y. beq (by y x) (by_now y x)) (filter kept keys))
        (λ x x_kept. list_all-filter kept (λ y. beq (by y x) (by_now y x))
        (λ y y_kept. rw (compared-alike y x y_kept x_kept) (bool_eq_equiv.refl (by y x))) keys) keys

  module _ (v : T) (ranks : List R) (r : R) (keys : List T) where
    -- a changed rank changes the comparisons of its key alone
    pub AgreesExcept-by_ord : AgreesExcept number v (by_ord number cmp ranks) (by_ord number cmp (slice_set ranks (number v) r)) keys
    AgreesExcept-by_ord = AgreesExcept-by_ords v ranks (set ranks (number v) r) (λ n apart. slice_get-set_other ranks (number v) n r apart) keys

    pub AgreesExcept-by_least_ord : AgreesExcept number v (reverse_of (by_ord number cmp ranks)) (reverse_of (by_ord number cmp (slice_set ranks (number v) r))) keys
    AgreesExcept-by_least_ord = AgreesExcept-by_least_ords v ranks (set ranks (number v) r) (λ n apart. slice_get-set_other ranks (number v) n r apart) keys

    -- so ranks of which one has changed can be repaired
    pub CanRepair-by_ord : CanRepair number v (by_ord number cmp ranks) (by_ord number cmp (slice_set ranks (number v) r)) keys
    CanRepair-by_ord = CanRepair-lent number (by_ord number cmp) IsLawful-by_ord v ranks (slice_set ranks (number v) r) keys AgreesExcept-by_ord

    pub CanRepair-by_least_ord : CanRepair number v (reverse_of (by_ord number cmp ranks)) (reverse_of (by_ord number cmp (slice_set ranks (number v) r))) keys
    CanRepair-by_least_ord =
        CanRepair-lent number (λ rs. reverse_of (by_ord number cmp rs)) IsLawful-by_least_ord v ranks (slice_set ranks (number v) r) keys AgreesExcept-by_least_ord

    module _ (last : number v ≡ length ranks) where
      -- a rank that is appended changes the comparisons of its key alone
      pub AgreesExcept-by_ord-push : AgreesExcept number v (by_ord number cmp ranks) (by_ord number cmp (ranks ++ r ∷ [])) keys
      AgreesExcept-by_ord-push = AgreesExcept-by_ords v ranks (ranks ++ r ∷ []) (λ n apart. slice_get-append ranks r n (λ same. apart (same ∙ sym last))) keys

      pub AgreesExcept-by_least_ord-push : AgreesExcept number v (reverse_of (by_ord number cmp ranks)) (reverse_of (by_ord number cmp (ranks ++ r ∷ []))) keys
      AgreesExcept-by_least_ord-push =
          AgreesExcept-by_least_ords v ranks (ranks ++ r ∷ []) (λ n apart. slice_get-append ranks r n (λ same. apart (same ∙ sym last))) keys

      -- so ranks to which one was appended can be repaired
      pub CanRepair-by_ord-push : CanRepair number v (by_ord number cmp ranks) (by_ord number cmp (ranks ++ r ∷ [])) keys
      CanRepair-by_ord-push = CanRepair-lent number (by_ord number cmp) IsLawful-by_ord v ranks (ranks ++ r ∷ []) keys AgreesExcept-by_ord-push

      pub CanRepair-by_least_ord-push : CanRepair number v (reverse_of (by_ord number cmp ranks)) (reverse_of (by_ord number cmp (ranks ++ r ∷ []))) keys
      CanRepair-by_least_ord-push =
          CanRepair-lent number (λ rs. reverse_of (by_ord number cmp rs)) IsLawful-by_least_ord v ranks (ranks ++ r ∷ []) keys AgreesExcept-by_least_ord-push

  -- ---- where the rank of v, which was q, became r
  -- how a rank, where there is one, and a number compare
  abbrev placed : Option R × ℕ → Option R × ℕ → Ordering
  placed p o = ordering_then (option_cmp cmp p.0 o.0) (nat_cmp p.1 o.1)

  IsTotalOrder-placed : IsTotalOrder placed
  IsTotalOrder-placed = then_total (on_total (λ (p : Option R × ℕ). p.0) (options_total order)) (on_total (λ (p : Option R × ℕ). p.1) nat_cmp_total)

  -- the greater rank comes first
  placed-greater : (q r : R) (n : ℕ) → is_le (cmp q r) ≡ true → is_ge (placed (Some r, n) (Some q, n)) ≡ true
  placed-greater q r n rises =
      ge_then (cmp r q) (nat_cmp n n) (rw (order.antisymm r q) (le_turned (cmp q r) rises)) (ge_itself nat_cmp nat_cmp_total n)

  module _ (v : T) (ranks : List R) (q r : R) (was : slice_get ranks (number v) ≡ Some q) (keys : List T) where
    here : slice_get (set ranks (number v) r) (number v) ≡ Some r
    here = slice_get-set_same ranks (number v) q r was

    -- where the rank rose, so did the key
    pub HasRisen-by_ord : IsTrue (is_le (cmp q r)) → HasRisen v (by_ord number cmp ranks) (by_ord number cmp (slice_set ranks (number v) r)) keys
    HasRisen-by_ord rises =
        let by = by_ord number cmp ranks in
        let by_now = by_ord number cmp (set ranks (number v) r) in
        list_all-always (λ x. not (by v x) || by_now v x)
        (λ x. implied_from (by v x) (by_now v x)
        (λ at_least. ⊎_elim
        (λ same. rw (sym (eqb-true (number v) (number x) same)) (ge_itself placed IsTotalOrder-placed (slice_get (set ranks (number v) r) (number v), number v)))
        (λ other. let apart : not (same_key number v x) ≡ true = ap not other in
        rw (here, slice_get-set_other ranks (number v) (number x) r (apart_from number v x apart))
        ((IsTotalPreorder-ge placed IsTotalOrder-placed).transitive (Some r, number v) (Some q, number v) (slice_get ranks (number x), number x)
        (placed-greater q r (number v) rises) (rw was at at_least)))
        (cases_Bool (same_key number v x)))) keys

    -- where the rank fell, so did the key
    pub HasFallen-by_ord : IsTrue (is_le (cmp r q)) → HasFallen v (by_ord number cmp ranks) (by_ord number cmp (slice_set ranks (number v) r)) keys
    HasFallen-by_ord falls =
        let by = by_ord number cmp ranks in
        let by_now = by_ord number cmp (set ranks (number v) r) in
        list_all-always (λ x. not (by x v) || by_now x v)
        (λ x. implied_from (by x v) (by_now x v)
        (λ at_least. ⊎_elim
        (λ same. rw (sym (eqb-true (number v) (number x) same)) (ge_itself placed IsTotalOrder-placed (slice_get (set ranks (number v) r) (number v), number v)))
        (λ other. let apart : not (same_key number v x) ≡ true = ap not other in
        rw (here, slice_get-set_other ranks (number v) (number x) r (apart_from number v x apart))
        ((IsTotalPreorder-ge placed IsTotalOrder-placed).transitive (slice_get ranks (number x), number x) (Some q, number v) (Some r, number v)
        (rw was at at_least) (placed-greater r q (number v) falls)))
        (cases_Bool (same_key number v x)))) keys

  -- what is at least another has no smaller rank
  rank_at_most : (ranks : List R) (x y : T) → by_ord number cmp ranks y x ≡ true → is_le (option_cmp cmp (slice_get ranks (number x)) (slice_get ranks (number y))) ≡ true
  rank_at_most ranks x y at_least =
      let o = option_cmp cmp (slice_get ranks (number y)) (slice_get ranks (number x)) in
      rw ((options_total order).antisymm (slice_get ranks (number x)) (slice_get ranks (number y)))
      (ge_turned_back o (first_ge o (nat_cmp (number y) (number x)) at_least))

  module _ (one_value : (x y : T) → number x ≡ number y → x ≡ y) (ranks : List R) (keys : List T) (k : T) where
    -- no key has a rank above that of a greatest key
    pub greatest_ord : IsGreatest number (by_ord number cmp ranks) keys k → (x : T) → is_held number keys x ≡ true
        → IsTrue (is_le (option_cmp cmp (slice_get ranks (number x)) (slice_get ranks (number k))))
    greatest_ord greatest x held =
        let parts = and_parts (is_held number keys k) (list_all (by_ord number cmp ranks k) keys) greatest in
        rank_at_most ranks x k (pass_at_held number one_value (by_ord number cmp ranks k) keys x parts.1 held)

    -- the other way round, none has a rank below its
    pub least_ord : IsGreatest number (reverse_of (by_ord number cmp ranks)) keys k → (x : T) → is_held number keys x ≡ true
        → IsTrue (is_le (option_cmp cmp (slice_get ranks (number k)) (slice_get ranks (number x))))
    least_ord greatest x held =
        let parts = and_parts (is_held number keys k) (list_all (reverse_of (by_ord number cmp ranks) k) keys) greatest in
        rank_at_most ranks k x (pass_at_held number one_value (reverse_of (by_ord number cmp ranks) k) keys x parts.1 held)

  -- ---- a call that was lent the ranks `now`, which are these
  module _ (ranks now : List R) (same : now ≡ ranks) (old new : List T) where
    -- keeps order by them
    pub kept-by_ord : KeepsOrder (by_ord number cmp now) old new → IsInOrder (by_ord number cmp ranks) old → IsInOrder (by_ord number cmp ranks) new
    kept-by_ord = kept-lent number (by_ord number cmp) IsLawful-by_ord ranks now same old new

    pub kept-by_least_ord : KeepsOrder (reverse_of (by_ord number cmp now)) old new → IsInOrder (reverse_of (by_ord number cmp ranks)) old
        → IsInOrder (reverse_of (by_ord number cmp ranks)) new
    kept-by_least_ord = kept-lent number (λ rs. reverse_of (by_ord number cmp rs)) IsLawful-by_least_ord ranks now same old new

    module _ (v : T) where
      -- a push keeps it too
      pub pushed-by_ord : KeepsOrderWith (by_ord number cmp now) v old new → IsInOrder (by_ord number cmp ranks) old → IsInOrder (by_ord number cmp ranks) new
      pushed-by_ord = pushed-lent number (by_ord number cmp) IsLawful-by_ord ranks now same old new v

      pub pushed-by_least_ord : KeepsOrderWith (reverse_of (by_ord number cmp now)) v old new → IsInOrder (reverse_of (by_ord number cmp ranks)) old
          → IsInOrder (reverse_of (by_ord number cmp ranks)) new
      pushed-by_least_ord = pushed-lent number (λ rs. reverse_of (by_ord number cmp rs)) IsLawful-by_least_ord ranks now same old new v

  -- what it takes out of order is a greatest key by them
  module _ (ranks now : List R) (same : now ≡ ranks) (old : List T) (k : T) where
    pub greatest-by_ord : TakesGreatest number (by_ord number cmp now) old k → IsInOrder (by_ord number cmp ranks) old
        → IsGreatest number (by_ord number cmp ranks) old k
    greatest-by_ord = greatest-lent number (by_ord number cmp) IsLawful-by_ord ranks now same old k

    pub greatest-by_least_ord : TakesGreatest number (reverse_of (by_ord number cmp now)) old k → IsInOrder (reverse_of (by_ord number cmp ranks)) old
        → IsGreatest number (reverse_of (by_ord number cmp ranks)) old k
    greatest-by_least_ord = greatest-lent number (λ rs. reverse_of (by_ord number cmp rs)) IsLawful-by_least_ord ranks now same old k

  -- where the rank of v became r, a call that was lent the ranks since
  module _ (v : T) (ranks : List R) (r : R) (now : List R) (same : now ≡ slice_set ranks (number v) r) (old new : List T) where
    -- repairs order, whatever r is
    pub repaired-by_ord : RepairsChanged number v (by_ord number cmp now) old new old → IsInOrder (by_ord number cmp ranks) old
        → IsInOrder (by_ord number cmp (slice_set ranks (number v) r)) new
    repaired-by_ord =
        repaired-lent number (by_ord number cmp) IsLawful-by_ord v ranks (slice_set ranks (number v) r) now same old new (AgreesExcept-by_ord v ranks r old)

    pub repaired-by_least_ord : RepairsChanged number v (reverse_of (by_ord number cmp now)) old new old → IsInOrder (reverse_of (by_ord number cmp ranks)) old
        → IsInOrder (reverse_of (by_ord number cmp (slice_set ranks (number v) r))) new
    repaired-by_least_ord =
        repaired-lent number (λ rs. reverse_of (by_ord number cmp rs)) IsLawful-by_least_ord v ranks (slice_set ranks (number v) r) now same old new
        (AgreesExcept-by_least_ord v ranks r old)

    -- so does `push_or_update`
    pub renewed-by_ord : RepairsChanged number v (by_ord number cmp now) old new (v ∷ old) → IsInOrder (by_ord number cmp ranks) old
        → IsInOrder (by_ord number cmp (slice_set ranks (number v) r)) new
    renewed-by_ord =
        renewed-lent number (by_ord number cmp) IsLawful-by_ord v ranks (slice_set ranks (number v) r) now same old new (AgreesExcept-by_ord v ranks r old)

    pub renewed-by_least_ord : RepairsChanged number v (reverse_of (by_ord number cmp now)) old new (v ∷ old) → IsInOrder (reverse_of (by_ord number cmp ranks)) old
        → IsInOrder (reverse_of (by_ord number cmp (slice_set ranks (number v) r))) new
    renewed-by_least_ord =
        renewed-lent number (λ rs. reverse_of (by_ord number cmp rs)) IsLawful-by_least_ord v ranks (slice_set ranks (number v) r) now same old new
        (AgreesExcept-by_least_ord v ranks r old)

    module _ (q : R) (was : slice_get ranks (number v) ≡ Some q) where
      -- `up` does where it rose, and the other way round where it fell
      pub risen-by_ord : IsTrue (is_le (cmp q r)) → RepairsRisen number v (by_ord number cmp now) old new → IsInOrder (by_ord number cmp ranks) old
          → IsInOrder (by_ord number cmp (slice_set ranks (number v) r)) new
      risen-by_ord rises =
          risen-lent number (by_ord number cmp) IsLawful-by_ord v ranks (slice_set ranks (number v) r) now same old new (AgreesExcept-by_ord v ranks r old)
          (HasRisen-by_ord v ranks q r was old rises)

      pub risen-by_least_ord : IsTrue (is_le (cmp r q)) → RepairsRisen number v (reverse_of (by_ord number cmp now)) old new
          → IsInOrder (reverse_of (by_ord number cmp ranks)) old → IsInOrder (reverse_of (by_ord number cmp (slice_set ranks (number v) r))) new
      risen-by_least_ord falls =
          risen-lent number (λ rs. reverse_of (by_ord number cmp rs)) IsLawful-by_least_ord v ranks (slice_set ranks (number v) r) now same old new
          (AgreesExcept-by_least_ord v ranks r old) (HasFallen-by_ord v ranks q r was old falls)

      -- `down` does where it fell, and the other way round where it rose
      pub fallen-by_ord : IsTrue (is_le (cmp r q)) → RepairsFallen number v (by_ord number cmp now) old new → IsInOrder (by_ord number cmp ranks) old
          → IsInOrder (by_ord number cmp (slice_set ranks (number v) r)) new
      fallen-by_ord falls =
          fallen-lent number (by_ord number cmp) IsLawful-by_ord v ranks (slice_set ranks (number v) r) now same old new (AgreesExcept-by_ord v ranks r old)
          (HasFallen-by_ord v ranks q r was old falls)

      pub fallen-by_least_ord : IsTrue (is_le (cmp q r)) → RepairsFallen number v (reverse_of (by_ord number cmp now)) old new
          → IsInOrder (reverse_of (by_ord number cmp ranks)) old → IsInOrder (reverse_of (by_ord number cmp (slice_set ranks (number v) r))) new
      fallen-by_least_ord rises =
          fallen-lent number (λ rs. reverse_of (by_ord number cmp rs)) IsLawful-by_least_ord v ranks (slice_set ranks (number v) r) now same old new
          (AgreesExcept-by_least_ord v ranks r old) (HasRisen-by_ord v ranks q r was old rises)
