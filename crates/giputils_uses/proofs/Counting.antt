-- Counts of a list, after one more of its items.
use Rattle.std.proofs.Common.{◌≡◌, ◌+◌, ◌<◌, ◌≤◌, ◌∙◌, refl, sym, ap, ℕ, Bool, true, false, List, Some, length, nat_eq}
use Rattle.std.specs.Prelude.{take, get_or, unwrap_or}
use Rattle.std.specs.Cmp.{nat_eq_equiv}
use Rattle.std.specs.List.{count_by}
use Rattle.std.specs.Map.{count_at}
use Rattle.std.proofs.lemmas.Bool.{eqb-true}
use Rattle.std.proofs.lemmas.List.{length-take-le}
use Rattle.std.proofs.lemmas.List.Sums.{count_by_more_yes, count_by_more_no, count_by-le-length}
use Rattle.giputils.specs.Hash.{get, PutsValue}
use Rattle.giputils_uses.specs.Counts.{HasCounts}

module _ (items : List ℕ) (i : ℕ) where
  -- a count of the first i items is at most i
  pub count_at-le : (counts : List (ℕ × ℕ)) (k : ℕ) → i ≤ length items → HasCounts (take i items) counts
      → count_at (get nat_eq counts) k ≤ i
  count_at-le counts k within has =
      let few = count_by-le-length (nat_eq k) (take i items) in
      rw (has k) (rw (length-take-le i items within) at few)

  -- one more at the next item
  pub HasCounts-next : (old new : List (ℕ × ℕ)) → i < length items → HasCounts (take i items) old
      → PutsValue nat_eq (get_or items i 0) (count_at (get nat_eq old) (get_or items i 0) + 1) old new → HasCounts (take (i + 1) items) new
  HasCounts-next old new within has puts k = by (nat_eq (get_or items i 0) k) refl
    where
      turned : nat_eq k (get_or items i 0) ≡ nat_eq (get_or items i 0) k
      turned = nat_eq_equiv.symm k (get_or items i 0)

      by : (b : Bool) → nat_eq (get_or items i 0) k ≡ b → count_at (get nat_eq new) k ≡ count_by (nat_eq k) (take (i + 1) items)
      by true same =
          let got : get nat_eq new k ≡ Some (count_at (get nat_eq old) (get_or items i 0) + 1) = puts k ∙ rw same refl in
          let here : count_at (get nat_eq old) (get_or items i 0) ≡ count_by (nat_eq k) (take i items) =
          rw (eqb-true (get_or items i 0) k same) (has k) in
          ap (λ o. unwrap_or o 0) got ∙ ap (λ n. n + 1) here
          ∙ sym (count_by_more_yes (nat_eq k) items i 0 within (turned ∙ same))
      by false other =
          let got : get nat_eq new k ≡ get nat_eq old k = puts k ∙ rw other refl in
          ap (λ o. unwrap_or o 0) got ∙ has k ∙ sym (count_by_more_no (nat_eq k) items i 0 within (turned ∙ other))
