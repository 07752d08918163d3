-- Indexes into an index allocator, before and after a collection.
use Rattle.std.specs.Prelude.{◌≡◌, ℕ, Bool, List, filter, is_some, map}
use Rattle.giputils.specs.Allocator.{index_map, value_at}

-- the indexes left read in `new`, in order, what those of the watched ones that have a new index read in `old`
abbrev pub ReadsAlike : {T : Type 0} → List (T × Bool) → List (T × Bool) → List ℕ → List ℕ → Type 0
ReadsAlike old new watched left =
    map (value_at new) left ≡ map (value_at old) (filter (λ i. is_some (index_map old i)) watched)
