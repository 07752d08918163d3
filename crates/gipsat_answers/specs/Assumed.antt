-- Literals that words name, and problems under them.
use Rattle.std.specs.Prelude.{ℕ, zero, suc, true, List, [], ◌∷◌, ◌++◌, codes, flat_map, map, Option}
use Rattle.std.specs.Option.{option_map}
use Rattle.gipsat_cnf.specs.Prelude.{Formula, Lit}
use Rattle.gipsat_dimacs.specs.Texts.{Problem, problem_by}
use Rattle.gipsat_dimacs.specs.declared.rule.HeaderRule.TheVariants.{Relaxed}

-- the literals of all clauses, in order
abbrev pub literals_of : Formula → List Lit
literals_of formula = flat_map (λ clause. clause) formula

-- the literals that a text names: those of the clause that it writes with a 0 behind it
abbrev pub literals_in : List ℕ → Option (List Lit)
literals_in text = option_map (λ problem. literals_of problem.clauses) (problem_by Relaxed (text ++ codes " 0"))

-- a clause of each literal alone
abbrev pub units : List Lit → Formula
units literals = map (λ l. l ∷ []) literals

-- the problem in which each of these literals is true
abbrev pub assuming : List Lit → Problem → Problem
assuming literals problem = record problem { clauses = problem.clauses ++ units literals }

-- a literal of each of the first n variables
abbrev pub first_variables : ℕ → List Lit
first_variables zero = []
first_variables (suc n) = first_variables n ++ record { variable = n; positive = true } ∷ []
