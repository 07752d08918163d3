-- Which models are wanted of a formula.
use Rattle.std.specs.Prelude.{ℕ, List, Option, Some, None}
use Rattle.gipsat_cnf.specs.Literals.{Lit}
use Rattle.gipsat_answers.specs.Assumed.{first_variables}

-- the literals whose variables tell models apart: those that are wanted, or those of all variables
abbrev pub projection_of : Option (List Lit) → ℕ → List Lit
projection_of None variables = first_variables variables
projection_of (Some literals) variables = literals
