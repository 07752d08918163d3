-- Worked examples of the definitions: accepted and refused ones.
use Rattle.std.proofs.Common.{◌≡◌, ℕ, true, [], ◌∷◌, refl, arith}
use Rattle.gipsat_cnf.specs.Literals.{Lit}
use Rattle.gipsat_solver.specs.Answers.{HasMore, HasUpTo, IsRight, SolverState}
use Rattle.gipsat_cnf.specs.declared.answers.Answer.{Answer}
use Rattle.gipsat_cnf.specs.declared.answers.Answer.TheVariants.{Unknown}

abbrev yes : ℕ → Lit
yes v = record { variable = v; positive = true }

-- x0 is a clause, and so many clauses were learned
abbrev after : ℕ → SolverState
after n = record { formula = (yes 0 ∷ []) ∷ []; learned = n; given = 0 }

two_more : HasMore 2 (after 3) (after 5)
two_more = refl

at_most_four : HasUpTo 4 (after 3) (after 5)
at_most_four = (2, omega arith, refl)

at_most_one_refused : HasUpTo 1 (after 3) (after 5) → ⊥
at_most_one_refused (more, most, is) = omega (arith, most, is)

-- Unknown is right after as many clauses as the limit allows
unknown : (answer : Answer) → answer ≡ Unknown → IsRight (after 3) (after 5) 2 answer
unknown answer is = rw is refl
