-- A hashed map as the list of its entries, and a hashed set as the list of its members, each once, in an open order.
use Rattle.std.specs.Prelude.{◌≡◌, ◌<◌, ◌^◌, Bool, true, false, List, [], ◌∷◌, length, Option, Some, None, if◌then◌else◌}
use Rattle.std.specs.Option.{option_or}
use Rattle.std.specs.List.{IsDistinct, list_any}
use Rattle.std.specs.Map.{lookup, keys_of}

module _ {K V : Type 0} (eq : K → K → Bool) where
  -- the value at the key k
  abbrev pub get : List (K × V) → K → Option V
  get map k = lookup (eq k) map

  -- no two keys are equal
  abbrev pub HasUniqueKeys : List (K × V) → Type 0
  HasUniqueKeys map = IsDistinct eq (keys_of map)

  -- the value of the last pair whose key is equal to k
  abbrev pub last_value : List (K × V) → K → Option V
  last_value [] k = None
  last_value (p ∷ ps) k = option_or (last_value ps k) (if eq p.0 k then Some p.1 else None)

  -- `new` has v at the key k, and at each other key what `old` has
  abbrev pub PutsValue : K → V → List (K × V) → List (K × V) → Type 0
  PutsValue k v old new = (q : K) → get new q ≡ (if eq k q then Some v else get old q)

  -- `new` has no value at the key k, and at each other key what `old` has
  abbrev pub TakesKey : K → List (K × V) → List (K × V) → Type 0
  TakesKey k old new = (q : K) → get new q ≡ (if eq k q then None else get old q)

  -- the map has each key of the pairs, with the value of the last of its pairs
  abbrev pub IsMapOf : List (K × V) → List (K × V) → Type 0
  IsMapOf pairs map = ((k : K) → get map k ≡ last_value pairs k) × HasUniqueKeys map

  -- what an iterator has left, `items`, is the map's entries, each key once
  abbrev pub ListsEntries : List (K × V) → List (K × V) → Type 0
  ListsEntries map items = (items ≡ map) × (length map < 2 ^ 63) × HasUniqueKeys map

module _ {K : Type 0} (eq : K → K → Bool) where
  -- whether an item is equal to k
  abbrev pub contains : List K → K → Bool
  contains set k = list_any (eq k) set

  -- `new` has the member k, and of the others those of `old`
  abbrev pub PutsMember : K → List K → List K → Type 0
  PutsMember k old new = (q : K) → contains new q ≡ (if eq k q then true else contains old q)

  -- `new` has the members of `old` but for k
  abbrev pub TakesMember : K → List K → List K → Type 0
  TakesMember k old new = (q : K) → contains new q ≡ (if eq k q then false else contains old q)

  -- the set has the items, each once
  abbrev pub IsSetOf : List K → List K → Type 0
  IsSetOf items set = ((k : K) → contains set k ≡ contains items k) × IsDistinct eq set

  -- what an iterator has left, `items`, is the set's members, each once
  abbrev pub ListsMembers : List K → List K → Type 0
  ListsMembers set items = (items ≡ set) × (length set < 2 ^ 63) × IsDistinct eq set
