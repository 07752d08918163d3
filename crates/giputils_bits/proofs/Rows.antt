-- Rows that are borrowed in two parts, so that the first row of the second part can be written while the first part is
-- read.
use Rattle.std.proofs.Common.{◌≡◌, ℕ, ◌<◌, ◌++◌, List, [], ◌∷◌, length, get_or, set, sym, arith}
use Rattle.std.proofs.Math.Seq.{get_or-append_seam, set-append_seam}
use Rattle.std.proofs.lemmas.List.{get_or_append_left, get_or_default}

module _ {T : Type 0} where
  -- a write to the first row of the second part is a write to that row of all rows
  pub set-row : (front back : List T) (to : ℕ) (x : T) → length front ≡ to → 0 < length back
      → front ++ set back 0 x ≡ set (front ++ back) to x
  set-row front [] to x at some = absurd (omega (arith, some))
  set-row front (b ∷ bs) to x at some = rw (sym at) (sym (set-append_seam front b bs x))

  -- the first row of the second part is that row of all rows, whatever the values past the ends
  pub get_or-row : (front back : List T) (to : ℕ) (x y : T) → length front ≡ to → 0 < length back
      → get_or back 0 x ≡ get_or (front ++ back) to y
  get_or-row front [] to x y at some = absurd (omega (arith, some))
  get_or-row front (b ∷ bs) to x y at some = rw (sym at) (sym (get_or-append_seam front b bs y))

  -- a row of the first part is that row of all rows
  pub get_or-front : (front back : List T) (i : ℕ) (x y : T) → i < length front → get_or front i x ≡ get_or (front ++ back) i y
  get_or-front front back i x y inside = rw (get_or_append_left front back y i inside) (get_or_default front i x y inside)
