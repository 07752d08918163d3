-- How often each number is in a list, as a hashed map.
use Rattle.std.specs.Prelude.{◌≡◌, ℕ, List, nat_eq}
use Rattle.std.specs.List.{count_by}
use Rattle.std.specs.Map.{count_at}
use Rattle.giputils.specs.Hash.{get}

-- the map has for each number how often it is in the list; a number without an entry is not in it
abbrev pub HasCounts : List ℕ → List (ℕ × ℕ) → Type 0
HasCounts items counts = (k : ℕ) → count_at (get nat_eq counts) k ≡ count_by (nat_eq k) items
