-- Marks on literals, as a flag for each code.
use Rattle.std.specs.Prelude.{◌≡◌, ◌≢◌, ◌++◌, ◌∷◌, [], Bool, true, false, List, slice_index_or, IsTrue}
use Rattle.gipsat_cnf.specs.Prelude.{Assignment, Clause, Formula, Has, Lit, code, is_true, satisfies}

-- the literal's flag is set; a literal without a flag is not marked
abbrev pub is_marked : List Bool → Lit → Bool
is_marked flags l = slice_index_or flags (code l) false

-- what satisfies the formula makes one of the marked literals true
pub record ImpliesMarked (formula : Formula) (flags : List Bool) : Type 0 where
  pub follows : (a : Assignment) → IsTrue (satisfies a formula)
      → (l : Lit) × (is_marked flags l ≡ true) × (is_true a l ≡ true)

-- no literal is marked
abbrev pub NoneMarked : List Bool → Type 0
NoneMarked flags = (l : Lit) → is_marked flags l ≡ false

-- the same literals are marked
abbrev pub MarksSame : List Bool → List Bool → Type 0
MarksSame old new = (l : Lit) → is_marked new l ≡ is_marked old l

-- each marked literal stays marked
abbrev pub Grows : List Bool → List Bool → Type 0
Grows old new = (l : Lit) → is_marked old l ≡ true → is_marked new l ≡ true

-- each marked literal but a certain one stays marked
abbrev pub KeepsMarksBut : Lit → List Bool → List Bool → Type 0
KeepsMarksBut l old new = (m : Lit) → m ≢ l → is_marked old m ≡ true → is_marked new m ≡ true

-- each marked literal is among these
abbrev pub AreListed : List Bool → Clause → Type 0
AreListed flags listed = (l : Lit) → is_marked flags l ≡ true → Has listed l

-- each of the clause's literals is marked
abbrev pub AreMarked : Clause → List Bool → Type 0
AreMarked clause flags = (l : Lit) → Has clause l → is_marked flags l ≡ true

-- each of the clause's literals but a certain one is marked
abbrev pub AreMarkedBut : Lit → Clause → List Bool → Type 0
AreMarkedBut but clause flags = (l : Lit) → Has clause l → l ≢ but → is_marked flags l ≡ true

-- each marked literal was taken, and none is marked any more
pub record IsTaken (before now : List Bool) (taken : Clause) : Type 0 where
  pub all : AreListed before taken
  pub clear : NoneMarked now

-- a clause that has each marked literal was added
pub record TakesMarked (flags : List Bool) (old new : Formula) : Type 0 where
  pub clause : Clause
  pub all : AreListed flags clause
  pub added : new ≡ old ++ clause ∷ []
