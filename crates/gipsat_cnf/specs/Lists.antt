-- Lists of clauses: which are among others, which stay, and which have the same literals.
use Rattle.std.specs.Prelude.{◌≡◌, ◌≢◌, ◌↔◌, ℕ, Bool, true, false, List, [], ◌∷◌, slice_get, Some}
use Rattle.gipsat_cnf.specs.Formulas.{AreBelow, Clause, Formula, Has}
use Rattle.gipsat_cnf.specs.Literals.{Lit}

-- the clause is one of these
abbrev pub IsAmong : List Clause → Clause → Type 0
IsAmong clauses c = (k : ℕ) × (slice_get clauses k ≡ Some c)

-- each of the new clauses is one of the old
abbrev pub AreAmong : List Clause → List Clause → Type 0
AreAmong old new = (k : ℕ) (c : Clause) → slice_get new k ≡ Some c → IsAmong old c

-- each clause's variables are below the count
abbrev pub AreAllBelow : ℕ → Formula → Type 0
AreAllBelow variables formula = (k : ℕ) (c : Clause) → slice_get formula k ≡ Some c → AreBelow variables c

-- each literal of the clause is one of others
abbrev pub AreHadBy : Clause → Clause → Type 0
AreHadBy others clause = (l : Lit) → Has clause l → Has others l

-- one clause has the literals of the other
abbrev pub HoldAlike : Clause → Clause → Type 0
HoldAlike c d = (l : Lit) → Has c l ↔ Has d l

-- each clause has the literals of the old one at its place
abbrev pub Reorders : List Clause → List Clause → Type 0
Reorders old new =
    (k : ℕ) (c : Clause) → slice_get new k ≡ Some c → (d : Clause) × (slice_get old k ≡ Some d) × HoldAlike c d

-- each clause but that at one place is as it was
abbrev pub KeepsBut : ℕ → List Clause → List Clause → Type 0
KeepsBut place old new = (k : ℕ) → k ≢ place → slice_get new k ≡ slice_get old k

-- the items that stay, by a flag for each place; those past the flags stay
abbrev pub retained : {A : Type 0} → List Bool → List A → List A
retained [] xs = xs
retained (stays ∷ flags) [] = []
retained (true ∷ flags) (x ∷ xs) = x ∷ retained flags xs
retained (false ∷ flags) (x ∷ xs) = retained flags xs
