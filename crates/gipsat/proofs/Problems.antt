-- What holds of the problem that an input writes, and of one that is made of it.
use Rattle.std.proofs.Common.{◌≡◌, ℕ, zero, suc, List, Option, Some, None, IfSome, IsTrue, subst, ⊎_elim, inl, inr, Bool}
use Rattle.std.specs.Prelude.{IfOk, Result, Ok, Err}
use Rattle.gipsat_cnf.specs.Literals.{Lit}
use Rattle.gipsat_answers.specs.Enumeration.{IsModelsText, IsOpen, WritesModels, differing, with_clause}
use Rattle.gipsat_dimacs.specs.Inputs.{OfProblem}
use Rattle.gipsat_dimacs.specs.Texts.{Problem, problem_by}
use Rattle.gipsat_dimacs.specs.declared.rule.HeaderRule.{HeaderRule}

-- what a value has, if there is one, by what it is known to have
pub IfOk-more : {T E : Type 0} {P Q : T → Type 0} (r : Result T E) → ((t : T) → P t → Q t) → IfOk r P → IfOk r Q
IfOk-more (Ok t) more has = more t has
IfOk-more (Err e) more has = tt

made-found : (found : Option Problem) (made : Problem) (f : Problem → Problem) (P : Problem → Type 0)
    → IfSome found (λ problem. made ≡ f problem) → P made → IfSome found (λ problem. P (f problem))
made-found None made f P is holds = tt
made-found (Some problem) made f P is holds = subst P is holds

-- what holds of a problem that is made of the one that the input writes
pub of_made : (rule : HeaderRule) (input : Option (List ℕ)) (made : Problem) (f : Problem → Problem) (P : Problem → Type 0)
    → OfProblem rule input (λ problem. made ≡ f problem) → P made → OfProblem rule input (λ problem. P (f problem))
of_made rule None made f P is holds = tt
of_made rule (Some text) made f P is holds = made-found (problem_by rule text) made f P is holds

-- a search that may be stopped in one sense may be in a wider one
pub IsOpen-wider : (limit learned : ℕ) (stop wide : Bool) → (IsTrue stop → IsTrue wide) → IsOpen limit learned stop → IsOpen limit learned wide
IsOpen-wider limit learned stop wide wider is_open = ⊎_elim (λ spent. inl spent) (λ stops. inr (wider stops)) is_open

-- the text of models where what is open in one sense is so in a wider one
IsModelsText-wider : (witness : Bool) (projection : List Lit) (Open Wider : Type 0) (n : ℕ) (problem : Problem) (text : List ℕ)
    → (Open → Wider) → IsModelsText witness projection Open n problem text → IsModelsText witness projection Wider n problem text
IsModelsText-wider witness projection Open Wider zero problem text wider none = none
IsModelsText-wider witness projection Open Wider (suc n) problem text wider tells =
    ⊎_elim (λ (a, sat, (rest, is, more)). inl (a, sat, (rest, is, IsModelsText-wider witness projection Open Wider n (with_clause problem (differing a projection)) rest wider more)))
    (λ others. ⊎_elim (λ ended. inr (inl ended)) (λ (is_open, is). inr (inr (wider is_open, is))) others) tells

pub WritesModels-wider : (witness : Bool) (projection : List Lit) (Open Wider : Type 0) (n : ℕ) (problem : Problem) (old new : Option (List ℕ))
    → (Open → Wider) → WritesModels witness projection Open n problem old new → WritesModels witness projection Wider n problem old new
WritesModels-wider witness projection Open Wider n problem old new wider (text, tells, appends) =
    (text, IsModelsText-wider witness projection Open Wider n problem text wider tells, appends)

-- a search that may be stopped writes what one that may be stopped in any case does
pub WritesModels-stopping : (witness : Bool) (projection : List Lit) (limit learned : ℕ) (stop wide : Bool) (n : ℕ) (problem : Problem)
    (old new : Option (List ℕ)) → IsTrue wide → WritesModels witness projection (IsOpen limit learned stop) n problem old new
    → WritesModels witness projection (IsOpen limit learned wide) n problem old new
WritesModels-stopping witness projection limit learned stop wide n problem old new stops writes =
    WritesModels-wider witness projection (IsOpen limit learned stop) (IsOpen limit learned wide) n problem old new
    (IsOpen-wider limit learned stop wide (λ any. stops)) writes

-- what holds of the problem of an input, by what else does
found-more : (found : Option Problem) (P Q : Problem → Type 0) → ((problem : Problem) → P problem → Q problem)
    → IfSome found P → IfSome found Q
found-more None P Q more holds = tt
found-more (Some problem) P Q more holds = more problem holds

pub OfProblem-more : (rule : HeaderRule) (input : Option (List ℕ)) (P Q : Problem → Type 0)
    → ((problem : Problem) → P problem → Q problem) → OfProblem rule input P → OfProblem rule input Q
OfProblem-more rule None P Q more holds = tt
OfProblem-more rule (Some text) P Q more holds = found-more (problem_by rule text) P Q more holds

-- both hold of it, where each does
found-both : (found : Option Problem) (P Q : Problem → Type 0) → IfSome found P → IfSome found Q
    → IfSome found (λ problem. P problem × Q problem)
found-both None P Q one other = tt
found-both (Some problem) P Q one other = (one, other)

pub OfProblem-both : (rule : HeaderRule) (input : Option (List ℕ)) (P Q : Problem → Type 0) → OfProblem rule input P
    → OfProblem rule input Q → OfProblem rule input (λ problem. P problem × Q problem)
OfProblem-both rule None P Q one other = tt
OfProblem-both rule (Some text) P Q one other = found-both (problem_by rule text) P Q one other
