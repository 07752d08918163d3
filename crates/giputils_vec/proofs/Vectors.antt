-- The items of a vector that are read, and after its last item has taken the place of another.
use Rattle.std.specs.Prelude.{◌≡◌, ◌≢◌, ℕ, ◌+◌, ◌-◌, ◌<◌, List, [], ◌∷◌, length, slice_index, slice_index_or, refl}
use Rattle.std.specs.List.{swap_remove as swap_remove_or}
use Rattle.std.specs.List.Sorted.{IsPermutation}
use Rattle.std.proofs.Common.{arith, ◌∙◌}
use Rattle.std.proofs.lemmas.Grind.{common_steps}
use Rattle.std.proofs.lemmas.List.{get_or_default}
use Rattle.std.proofs.lemmas.List.Sorted.{IsPermutation-swap_remove}
use Rattle.giputils_vec.specs.Gvec.{swap_remove}

-- an item of a vector of numbers that was read, as `slice_index` has it
pub slice_index-read : (xs : List ℕ) (i x : ℕ) → i < length xs → x ≡ slice_index_or xs i x → x ≡ slice_index xs i
slice_index-read xs i x below read = read ∙ get_or_default xs i x 0 below

module _ {X : Type 0} where
  -- an item that was read, by any other default
  pub slice_index_or-read : (xs : List X) (i : ℕ) (x d : X) → i < length xs → x ≡ slice_index_or xs i x → x ≡ slice_index_or xs i d
  slice_index_or-read xs i x d below read = read ∙ get_or_default xs i x d below

  -- std's word, which takes an item to fall back on, gives the same list at each such item
  pub swap_remove-swap_remove_or : (xs : List X) (i : ℕ) (d : X) → swap_remove xs i ≡ swap_remove_or xs i d
  swap_remove-swap_remove_or [] i d = refl
  swap_remove-swap_remove_or (x ∷ xs) i d = rw (get_or_default (x ∷ xs) (length (x ∷ xs) - 1) x d (omega arith))

  -- the last item stands in the place of the one that left
  pub slice_index_or-swap_remove : (xs : List X) (i : ℕ) (d : X) → i + 1 < length xs → slice_index_or (swap_remove xs i) i d ≡ slice_index_or xs (length xs - 1) d
  slice_index_or-swap_remove xs i d below = rw (swap_remove-swap_remove_or xs i d) (grind (arith, common_steps))

  -- the others stay
  pub slice_index_or-swap_remove_other : (xs : List X) (i k : ℕ) (d : X) → k ≢ i → k + 1 < length xs → slice_index_or (swap_remove xs i) k d ≡ slice_index_or xs k d
  slice_index_or-swap_remove_other xs i k d other below = rw (swap_remove-swap_remove_or xs i d) (grind (arith, common_steps))

  -- the items are those that stay and the one that left
  pub IsPermutation-swap_remove_item : (xs : List X) (i : ℕ) (x : X) → i < length xs → x ≡ slice_index_or xs i x → IsPermutation xs (x ∷ swap_remove xs i)
  IsPermutation-swap_remove_item xs i x below is = rw (swap_remove-swap_remove_or xs i x) (IsPermutation-swap_remove xs i x below is)
