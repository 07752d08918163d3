-- Rows that are read one after the other, as a loop does.
use Rattle.std.proofs.Common.{◌≡◌, ℕ, suc, ◌-◌, ◌+◌, ◌≤◌, ◌<◌, List, [], ◌∷◌, ◌++◌, Option, Some, None, refl, sym, ap, ◌∙◌, append_assoc, arith}
use Rattle.std.proofs.lemmas.List.{append-nil}
use Rattle.gipmc_aiger.specs.declared.error.Stop.{Stop}
use Rattle.gipmc_aiger.specs.declared.error.Stop.TheVariants as stop
use Rattle.gipmc_aiger.specs.Prelude.{◌>>=◌, Fails, rows_at}

-- the rows that were read before, and those that are still read
abbrev pub with_front : {X : Type 0} → List X → Option (List X × List ℕ) → Option (List X × List ℕ)
with_front front read = read >>= λ x. Some (front ++ x.0, x.1)

regroup : {X : Type 0} (front : List X) (n : X) (read : Option (List X × List ℕ))
    → with_front front (read >>= λ x. Some (n ∷ x.0, x.1)) ≡ with_front (front ++ n ∷ []) read
regroup {X} front n (Some x) = ap (λ (ns : List X). Some (ns, x.1)) (simp append_assoc)
regroup front n None = refl

module _ {X : Type 0} (row : ℕ → List ℕ → Option (X × List ℕ)) (front : List X) (count i : ℕ) (bytes : List ℕ)
    (total : Option (List X × List ℕ)) (so_far : with_front front (rows_at row i (count - i) bytes) ≡ total) where
  pub goes_on : (n : X) (after : List ℕ) → i < count → row i bytes ≡ Some (n, after)
      → with_front (front ++ n ∷ []) (rows_at row (i + 1) (count - (i + 1)) after) ≡ total
  goes_on n after lt h =
      let k : count - i ≡ suc (count - (i + 1)) = omega arith in
      let one : with_front front (rows_at row i (count - i) bytes)
      ≡ with_front (front ++ n ∷ []) (rows_at row (i + 1) (count - (i + 1)) after) =
      rw (k, h) (regroup front n (rows_at row (i + 1) (count - (i + 1)) after)) in
      sym one ∙ so_far

  pub ends : (e : Stop) → i < count → Fails e (row i bytes) → Fails e total
  ends stop.Memory lt h = tt
  ends (stop.Refused reason left) lt h =
      let k : count - i ≡ suc (count - (i + 1)) = omega arith in
      let one : with_front front (rows_at row i (count - i) bytes) ≡ None = rw (k, h) refl in
      sym so_far ∙ one

  pub is_done : count ≤ i → total ≡ Some (front, bytes)
  is_done le =
      let k : count - i ≡ 0 = omega arith in
      let one : with_front front (rows_at row i (count - i) bytes) ≡ Some (front, bytes) =
      rw k (ap (λ (ns : List X). Some (ns, bytes)) (append-nil front)) in
      sym so_far ∙ one
