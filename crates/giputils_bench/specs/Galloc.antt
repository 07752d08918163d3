-- What a round of the workload keeps.
use Rattle.std.specs.Prelude.{◌≡◌, ℕ, ◌<◌, Bool, List, length, Some, All, nat_eq}
use Rattle.giputils_hash.specs.Hash.{get}

-- each index is one of the allocator's
abbrev pub AreIndexes : {T : Type 0} → List (T × Bool) → List ℕ → Type 0
AreIndexes slots indexes = All (λ i. i < length slots) indexes

-- each new index of the map is one of the allocator's
abbrev pub LeadsTo : {T : Type 0} → List (T × Bool) → List (ℕ × ℕ) → Type 0
LeadsTo slots map = (i new : ℕ) → get nat_eq map i ≡ Some new → new < length slots
