-- The true places of a list of booleans.
use Rattle.std.specs.Prelude.{◌≡◌, ℕ, ◌+◌, ◌<◌, ◌≤◌, Bool, true, false, List, [], ◌∷◌, slice_index_or}
use Rattle.std.specs.List.{count_by}

-- how many places are true
abbrev pub true_count : List Bool → ℕ
true_count bs = count_by (λ b. b) bs

-- the true places, rising, where the first of all is numbered `start`
abbrev pub true_places : ℕ → List Bool → List ℕ
true_places start [] = []
true_places start (true ∷ bs) = start ∷ true_places (start + 1) bs
true_places start (false ∷ bs) = true_places (start + 1) bs

-- no place from `start` on is true
abbrev pub HasNoneFrom : List Bool → ℕ → Type 0
HasNoneFrom bs start = (k : ℕ) → start ≤ k → slice_index_or bs k false ≡ false

-- i is the least true place from `start` on
pub record IsNextOne (bs : List Bool) (start i : ℕ) : Type 0 where
  pub past : start ≤ i
  pub holds : slice_index_or bs i false ≡ true
  pub least : (k : ℕ) → start ≤ k → k < i → slice_index_or bs k false ≡ false

-- a place is true
abbrev pub HasOne : List Bool → Type 0
HasOne bs = (i : ℕ) × (slice_index_or bs i false ≡ true)
