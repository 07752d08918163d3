-- Clauses of variables that have other numbers in a text.
use Rattle.std.specs.Prelude.{◌≡◌, ℕ, List, slice_index_or}
use Rattle.gipsat_cnf.specs.Formulas.{Assignment, Clause, satisfies_clause}

-- each variable has the value of its number; one past the end of the numbers is its number
abbrev pub by_number : List ℕ → Assignment → Assignment
by_number numbers a = λ variable. a (slice_index_or numbers variable variable)

-- the clause says of variables what the other one says of their numbers
abbrev pub SaysOfNumbers : List ℕ → Clause → Clause → Type 0
SaysOfNumbers numbers clause of_numbers =
    (a : Assignment) → satisfies_clause (by_number numbers a) clause ≡ satisfies_clause a of_numbers
