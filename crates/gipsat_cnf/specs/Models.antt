-- Lists of truth values as assignments, and models.
use Rattle.std.specs.Prelude.{Bool, false, List, slice_index_or, IsTrue}
use Rattle.gipsat_cnf.specs.Formulas.{Assignment, Formula, satisfies}

-- the assignment that a model is; a variable past its end is false
abbrev pub assignment_in : List Bool → Assignment
assignment_in model v = slice_index_or model v false

-- the list of truth values satisfies the formula
abbrev pub IsModel : Formula → List Bool → Type 0
IsModel formula model = IsTrue (satisfies (assignment_in model) formula)
