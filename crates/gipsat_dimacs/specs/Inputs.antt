-- What the bytes of an input write, where they are known.
use Rattle.std.specs.Prelude.{◌≡◌, ℕ, List, IfSome, IsTrue, Option, Some, None, is_some}
use Rattle.gipsat_cnf.specs.Formulas.{Formula}
use Rattle.gipsat_dimacs.specs.Texts.{Problem, problem_by, IsRefusedBy}
use Rattle.gipsat_dimacs.specs.declared.rule.HeaderRule.{HeaderRule}

-- an input writes this problem by the rule
abbrev pub Writes : HeaderRule → Option (List ℕ) → Problem → Type 0
Writes rule input problem = IfSome input (λ text. problem_by rule text ≡ Some problem)

-- an input writes no problem by the rule
abbrev pub WritesNone : HeaderRule → Option (List ℕ) → Type 0
WritesNone rule input = IfSome input (λ text. problem_by rule text ≡ None)

-- an input is refused by the rule after some of its bytes, which lead to the line of this number
abbrev pub IsRefusedAt : HeaderRule → Option (List ℕ) → ℕ → Type 0
IsRefusedAt rule input line = IfSome input (λ text. IsRefusedBy rule text line)

-- an input writes a problem by the rule
abbrev pub HasForm : HeaderRule → Option (List ℕ) → Type 0
HasForm rule input = IfSome input (λ text. IsTrue (is_some (problem_by rule text)))

-- where an input writes a problem, this holds of it
abbrev pub OfProblem : HeaderRule → Option (List ℕ) → (Problem → Type 0) → Type 0
OfProblem rule input P = IfSome input (λ text. IfSome (problem_by rule text) P)

-- where an input writes a problem, its clauses are this formula
abbrev pub HasClauses : HeaderRule → Option (List ℕ) → Formula → Type 0
HasClauses rule input formula = OfProblem rule input (λ problem. formula ≡ problem.clauses)
