-- Between which ids the clauses with a literal lie.
use Rattle.std.specs.Prelude.{◌≡◌, ℕ, ◌<◌, ◌≤◌, List, slice_get, slice_index_or, Some}
use Rattle.gipsat_cnf.specs.Prelude.{Clause, Has, Lit, code}
use Rattle.gipsat_kernel.specs.declared.occurrences.Ids.{Ids}

-- the ids that are noted for a literal; one without an entry has none
abbrev pub ids_at : List Ids → Lit → Ids
ids_at noted l = slice_index_or noted (code l) (record { start = 0; end = 0 })

-- the id is one of these
abbrev pub IsWithin : Ids → ℕ → Type 0
IsWithin ids k = (ids.start ≤ k) × (k < ids.end)

-- each of the old ids is one of the new
abbrev pub IdsWiden : Ids → Ids → Type 0
IdsWiden old new = (k : ℕ) → IsWithin old k → IsWithin new k

-- each literal has the same ids
abbrev pub IdsSame : List Ids → List Ids → Type 0
IdsSame old new = (l : Lit) → ids_at new l ≡ ids_at old l

-- each literal has the ids that it had, and maybe more
abbrev pub Widens : List Ids → List Ids → Type 0
Widens old new = (l : Lit) → IdsWiden (ids_at old l) (ids_at new l)

-- the id is one of those of each literal of the clause
abbrev pub AreNoted : List Ids → Clause → ℕ → Type 0
AreNoted noted clause k = (l : Lit) → Has clause l → IsWithin (ids_at noted l) k

-- the id of each clause is one of those of each of its literals
abbrev pub Covers : List Ids → List Clause → Type 0
Covers noted clauses = (k : ℕ) (c : Clause) → slice_get clauses k ≡ Some c → AreNoted noted c k
