-- A set of numbers below a bound as a list of truth values: place n tells whether n is a member.
use Rattle.std.specs.Prelude.{◌≡◌, ℕ, ◌==◌, ◌||◌, ◌&&◌, Bool, not, false, List, slice_index_or, IsTrue}
use Rattle.giputils.specs.Tables.{Lists}

-- whether n is a member
abbrev pub has : List Bool → ℕ → Bool
has set n = slice_index_or set n false

-- there is no member
abbrev pub HasNone : List Bool → Type 0
HasNone set = (q : ℕ) → has set q ≡ false

-- n is a member of new, and of the other numbers those of old
abbrev pub Inserts : ℕ → List Bool → List Bool → Type 0
Inserts n old new = (q : ℕ) → has new q ≡ (q == n || has old q)

-- the members of new are those of old, but for n
abbrev pub Removes : ℕ → List Bool → List Bool → Type 0
Removes n old new = (q : ℕ) → has new q ≡ (not (q == n) && has old q)

-- the members of new are those of one of the sets at least, those of both, and those of a that are none of b
abbrev pub IsUnion : List Bool → List Bool → List Bool → Type 0
IsUnion a b new = (q : ℕ) → has new q ≡ (has a q || has b q)

abbrev pub IsIntersection : List Bool → List Bool → List Bool → Type 0
IsIntersection a b new = (q : ℕ) → has new q ≡ (has a q && has b q)

abbrev pub IsDifference : List Bool → List Bool → List Bool → Type 0
IsDifference a b new = (q : ℕ) → has new q ≡ (has a q && not (has b q))

-- each member of a is one of b
abbrev pub IsWithin : List Bool → List Bool → Type 0
IsWithin a b = (q : ℕ) → IsTrue (has a q) → IsTrue (has b q)

-- the list has exactly the members, rising
abbrev pub ListsMembers : List Bool → List ℕ → Type 0
ListsMembers set = Lists (λ n. IsTrue (has set n))
