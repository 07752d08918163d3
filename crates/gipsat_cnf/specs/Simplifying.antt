-- When two formulas say the same.
use Rattle.std.specs.Prelude.{◌↔◌, IsTrue}
use Rattle.gipsat_cnf.specs.Formulas.{Assignment, Formula, satisfies}

-- the same assignments satisfy both formulas
abbrev pub SaysSame : Formula → Formula → Type 0
SaysSame old new = (a : Assignment) → IsTrue (satisfies a new) ↔ IsTrue (satisfies a old)
