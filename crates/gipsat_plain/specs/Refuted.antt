-- When literals refute a clause, and when some are among others.
use Rattle.std.specs.Prelude.{List}
use Rattle.gipsat_cnf.specs.Prelude.{Clause, Has, Lit, negated}

-- the negation of each of the clause's literals is one of these
abbrev pub AreRefuted : List Lit → Clause → Type 0
AreRefuted literals clause = (l : Lit) → Has clause l → Has literals (negated l)

-- each of some literals is one of these
abbrev pub AreAmong : List Lit → List Lit → Type 0
AreAmong some literals = (l : Lit) → Has some l → Has literals l
