-- The problem that a text writes.
use Rattle.std.proofs.Common.{◌≡◌, ℕ, List, Option, Some, None, IfSome, sym, subst}
use Rattle.gipsat_dimacs.specs.Texts.{Problem, problem_of}

-- what holds of the problem that a text writes
pub of_problem : (text : Option (List ℕ)) (problem : Problem) (P : Problem → Type 0)
    → IfSome text (λ text. problem_of text ≡ Some problem) → P problem
    → IfSome text (λ text. IfSome (problem_of text) P)
of_problem None problem P e h = tt
of_problem (Some text) problem P e h = subst (λ found. IfSome found P) (sym e) h
