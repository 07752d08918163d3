-- A call that was lent a table of ranks: what it keeps, takes and repairs, where keys compare lawfully by every table.
use Rattle.std.proofs.Common.{◌≡◌, ℕ, Bool, List, ◌∷◌, sym, subst}
use Rattle.giputils_bounded.specs.Prelude.{AgreesExcept, CanRepair, HasFallen, HasRisen, IsGreatest, IsInOrder, IsLawful, KeepsOrder, KeepsOrderWith, RepairsChanged, RepairsFallen, RepairsRisen, TakesGreatest}
use Rattle.giputils_heap.proofs.Repairs.{IsInOrder-changed, IsInOrder-renewed, IsInOrder-risen, IsInOrder-fallen}

module _ {T X : Type 0} (number : T → ℕ) (by : X → T → T → Bool) (lawful : (ranks : X) (keys : List T) → IsLawful (by ranks) keys) where
  -- ---- a call that was lent the table `now`, which is `ranks`
  module _ (ranks now : X) (same : now ≡ ranks) (old new : List T) where
    -- keeps order by it
    pub kept-lent : KeepsOrder (by now) old new → IsInOrder (by ranks) old → IsInOrder (by ranks) new
    kept-lent keeps ordered =
        subst (λ rs. IsInOrder (by rs) new) same (keeps (subst (λ rs. IsInOrder (by rs) old) (sym same) ordered) (lawful now old))

    -- a push keeps it too
    pub pushed-lent : (v : T) → KeepsOrderWith (by now) v old new → IsInOrder (by ranks) old → IsInOrder (by ranks) new
    pushed-lent v keeps ordered =
        subst (λ rs. IsInOrder (by rs) new) same (keeps (subst (λ rs. IsInOrder (by rs) old) (sym same) ordered) (lawful now (v ∷ old)))

  -- what it takes out of order is a greatest key by it
  pub greatest-lent : (ranks now : X) → now ≡ ranks → (old : List T) (k : T) → TakesGreatest number (by now) old k → IsInOrder (by ranks) old
      → IsGreatest number (by ranks) old k
  greatest-lent ranks now same old k greatest ordered =
      subst (λ rs. IsGreatest number (by rs) old k) same (greatest (subst (λ rs. IsInOrder (by rs) old) (sym same) ordered) (lawful now old))

  -- tables that differ at a key alone can be repaired
  pub CanRepair-lent : (v : T) (was ranks : X) (keys : List T) → AgreesExcept number v (by was) (by ranks) keys → CanRepair number v (by was) (by ranks) keys
  CanRepair-lent v was ranks keys agree = record { lawful = lawful was keys; agrees = agree; lawful_now = lawful ranks keys }

  -- ---- a call that was lent the table `now`, which is `ranks`, and differs at v alone from the table before
  module _ (v : T) (was ranks now : X) (same : now ≡ ranks) (old new : List T) (agree : AgreesExcept number v (by was) (by ranks) old) where
    -- repairs order
    pub repaired-lent : RepairsChanged number v (by now) old new old → IsInOrder (by was) old → IsInOrder (by ranks) new
    repaired-lent repairs =
        IsInOrder-changed number v (by was) (by ranks) old new (CanRepair-lent v was ranks old agree)
        (subst (λ rs. RepairsChanged number v (by rs) old new old) same repairs)

    -- so does `push_or_update`
    pub renewed-lent : RepairsChanged number v (by now) old new (v ∷ old) → IsInOrder (by was) old → IsInOrder (by ranks) new
    renewed-lent repairs =
        IsInOrder-renewed number v (by was) (by ranks) old new (CanRepair-lent v was ranks old agree) (lawful ranks (v ∷ old))
        (subst (λ rs. RepairsChanged number v (by rs) old new (v ∷ old)) same repairs)

    -- `up` does where the key rose
    pub risen-lent : HasRisen v (by was) (by ranks) old → RepairsRisen number v (by now) old new → IsInOrder (by was) old → IsInOrder (by ranks) new
    risen-lent risen repairs =
        IsInOrder-risen number v (by was) (by ranks) old new (CanRepair-lent v was ranks old agree) risen
        (subst (λ rs. RepairsRisen number v (by rs) old new) same repairs)

    -- `down` does where it fell
    pub fallen-lent : HasFallen v (by was) (by ranks) old → RepairsFallen number v (by now) old new → IsInOrder (by was) old → IsInOrder (by ranks) new
    fallen-lent fallen repairs =
        IsInOrder-fallen number v (by was) (by ranks) old new (CanRepair-lent v was ranks old agree) fallen
        (subst (λ rs. RepairsFallen number v (by rs) old new) same repairs)
