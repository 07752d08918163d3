-- When an answer of a solver is right.
use Rattle.std.specs.Prelude.{◌≡◌, ℕ, ◌+◌, ◌-◌, ◌^◌, ◌<◌, ◌≤◌, List, ⊤, IsTrue}
use Rattle.gipsat_cnf.specs.Prelude.{Formula, IsCore, IsModel, IsModelUnder, IsRightGuessOr, IsRightOr, IsSatisfiable, Lit}
use Rattle.gipsat_search.specs.declared.search.Query.{Query}
use Rattle.gipsat_cnf.specs.declared.answers.Answer.{Answer}
use Rattle.gipsat_cnf.specs.declared.answers.Answer.TheVariants.{Sat, Unsat, Unknown}
use Rattle.gipsat_cnf.specs.declared.answers.AnswerUnder.{AnswerUnder}
use Rattle.gipsat_cnf.specs.declared.answers.Guess.{Guess}
use Rattle.gipsat_solver.specs.declared.answers.End.{End}
use Rattle.gipsat_solver.specs.declared.answers.End.TheVariants as end
use Rattle.gipsat_solver.specs.declared.turns.Step.{Step}
use Rattle.gipsat_solver.specs.declared.turns.Step.TheVariants as step

-- what a solver holds: the formula, how many clauses were learned, and a number above the variables that it gave
pub record SolverState : Type 0 where
  pub formula : Formula
  pub learned : ℕ
  pub given : ℕ

-- so many clauses more were learned
abbrev pub HasMore : ℕ → SolverState → SolverState → Type 0
HasMore n old new = new.learned ≡ old.learned + n

-- at most so many clauses more were learned
abbrev pub HasUpTo : ℕ → SolverState → SolverState → Type 0
HasUpTo n old new = (more : ℕ) × (more ≤ n) × HasMore more old new

-- no clause that was learned is forgotten
abbrev pub HasNoFewer : SolverState → SolverState → Type 0
HasNoFewer old new = old.learned ≤ new.learned

-- Sat comes with a model, Unsat only where there is none; at Unknown `limit` clauses were learned
abbrev pub IsRight : SolverState → SolverState → ℕ → Answer → Type 0
IsRight old new limit (Sat model) = IsModel old.formula model.items
IsRight old new limit Unsat = ¬ (IsSatisfiable old.formula)
IsRight old new limit Unknown = HasMore limit old new

-- it is right, and not Unknown
abbrev pub IsDecidedUnder : List Lit → Formula → AnswerUnder → Type 0
IsDecidedUnder assumed formula answer = IsRightOr formula assumed ⊥ answer

-- Sat comes with a model that makes the assumptions true, Unsat with a core; at Unknown, `limit` clauses were learned
abbrev pub IsRightUnder : List Lit → SolverState → SolverState → ℕ → AnswerUnder → Type 0
IsRightUnder assumed old new limit answer = IsRightOr old.formula assumed (HasMore limit old new) answer

-- the same, but at Unknown at most `limit` clauses were learned
abbrev pub IsRightLimited : List Lit → SolverState → SolverState → ℕ → AnswerUnder → Type 0
IsRightLimited assumed old new limit answer = IsRightOr old.formula assumed (HasUpTo limit old new) answer

-- Unsat comes with a core; at Unknown, at most `limit` clauses were learned; Sat promises nothing
abbrev pub IsRightGuess : List Lit → SolverState → SolverState → ℕ → Guess → Type 0
IsRightGuess assumed old new limit answer = IsRightGuessOr old.formula assumed (HasUpTo limit old new) answer

-- a model is one, and a core too; it guesses only if it was to, and spends only a budget that there is
abbrev pub IsRightEnd : Formula → Query → End → Type 0
IsRightEnd formula query (end.Model model) = IsModelUnder formula query.assumptions.now model.items
IsRightEnd formula query (end.Core core) = IsCore formula query.assumptions.now core.items
IsRightEnd formula query end.Guessed = IsTrue query.is_guess
IsRightEnd formula query end.Spent = query.propagations < 2 ^ 64 - 1

-- if the search has ended, its end is right
abbrev pub IsRightStep : Formula → Query → Step → Type 0
IsRightStep formula query step.Learned = ⊤
IsRightStep formula query step.Reopened = ⊤
IsRightStep formula query (step.Ended end) = IsRightEnd formula query end
IsRightStep formula query step.Lost = ⊤
