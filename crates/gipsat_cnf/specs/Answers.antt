-- When an answer of a solver is right.
use Rattle.std.specs.Prelude.{List, ⊤}
use Rattle.gipsat_cnf.specs.Assumptions.{IsCore, IsModelUnder}
use Rattle.gipsat_cnf.specs.Formulas.{Formula}
use Rattle.gipsat_cnf.specs.Literals.{Lit}
use Rattle.gipsat_cnf.specs.declared.answers.AnswerUnder.{AnswerUnder}
use Rattle.gipsat_cnf.specs.declared.answers.AnswerUnder.TheVariants as under
use Rattle.gipsat_cnf.specs.declared.answers.Guess.{Guess}
use Rattle.gipsat_cnf.specs.declared.answers.Guess.TheVariants as guess

-- Sat comes with a model, Unsat with a core; at Unknown, P holds
abbrev pub IsRightOr : Formula → List Lit → Type 0 → AnswerUnder → Type 0
IsRightOr formula assumed P (under.Sat model) = IsModelUnder formula assumed model.items
IsRightOr formula assumed P (under.Unsat core) = IsCore formula assumed core.items
IsRightOr formula assumed P under.Unknown = P

-- Unsat comes with a core; at Unknown, P holds; Sat promises nothing
abbrev pub IsRightGuessOr : Formula → List Lit → Type 0 → Guess → Type 0
IsRightGuessOr formula assumed P guess.Sat = ⊤
IsRightGuessOr formula assumed P (guess.Unsat core) = IsCore formula assumed core.items
IsRightGuessOr formula assumed P guess.Unknown = P
