-- A list of truth values as a table of a property of numbers, and the numbers that have it as a list.
use Rattle.std.specs.Prelude.{◌↔◌, ℕ, ◌<◌, Bool, false, List, length, slice_index_or, IsTrue}
use Rattle.std.specs.List.{Contains}
use Rattle.std.specs.List.Sorted.{IsStrictlyIncreasing}

-- below the length, exactly the places of which P holds are true
abbrev pub Tells : (ℕ → Type 0) → List Bool → Type 0
Tells P bits = (n : ℕ) → n < length bits → IsTrue (slice_index_or bits n false) ↔ P n

-- exactly the numbers of which P holds, rising
pub record Lists (P : ℕ → Type 0) (numbers : List ℕ) : Type 0 where
  pub each : (n : ℕ) → Contains numbers n ↔ P n
  pub rising : IsStrictlyIncreasing numbers
