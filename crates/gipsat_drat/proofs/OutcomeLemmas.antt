-- What an error came of, and outcomes that are right.
use Rattle.std.proofs.Common.{◌≡◌, Result, Ok, Err, refl, subst}
use Rattle.std.specs.Prelude.{◌≢◌, IfErr, IsErr, IsErrAnd, IsErrOf}
use Rattle.gipsat_dimacs.specs.declared.error.DimacsError.{DimacsError}
use Rattle.gipsat_drat.specs.declared.error.DratError.{DratError}
use Rattle.gipsat_drat.specs.declared.error.DratError.TheVariants as error
use Rattle.gipsat_drat.specs.declared.error.Failure.{Failure}
use Rattle.gipsat_drat.specs.declared.error.Failure.TheVariants as failure
use Rattle.gipsat_cnf.specs.Formulas.{Formula}
use Rattle.gipsat_drat.specs.declared.error.Outcome.{Outcome}
use Rattle.gipsat_drat.specs.declared.error.Outcome.TheVariants.{Verified, Refused}
use Rattle.gipsat_drat.specs.Held.{Held, IsRightOf, Keeps, held_of}
use Rattle.gipsat_drat.specs.Outcomes.{IsRight, failure_error}

-- an error of the proof is none of the formula
pub not_formula : {T : Type 0} (r : Result T DratError) (why_not : Failure) (why : DimacsError)
    → IsErr r × IsErrAnd r (λ e. e ≡ failure_error why_not) → IsErrOf r (error.Formula why) → ⊥
not_formula (Ok x) why_not why h is = let f = is in cc
not_formula (Err e) failure.Proof why h is = let same : e ≡ error.Proof = h.1 in let f = is in cc
not_formula (Err e) (failure.Form form) why h is = let same : e ≡ error.Form form = h.1 in let f = is in cc
not_formula (Err e) failure.Memory why h is = let same : e ≡ error.Memory = h.1 in let f = is in cc
not_formula (Err e) failure.Output why h is = let same : e ≡ error.Output = h.1 in let f = is in cc

-- what a failure says of what was written, but at writing, the error that it becomes says too
pub but_at_writing : {T P : Type 0} (r : Result T DratError) (why : Failure)
    → IsErr r × IsErrAnd r (λ e. e ≡ failure_error why) → (why ≢ failure.Output → why ≢ failure.Memory → P)
    → IfErr r (λ e. e ≢ error.Output → e ≢ error.Memory → P)
but_at_writing (Ok x) why h says = tt
but_at_writing (Err e) why h says = λ not_output not_memory.
    says (λ same. not_output (subst (λ w. e ≡ failure_error w) same h.1)) (λ same. not_memory (subst (λ w. e ≡ failure_error w) same h.1))

-- an outcome that is right of what is held behind some steps is right of what was held before them
pub IsRightOf-before : (old new : Held) (outcome : Outcome) → Keeps old new → IsRightOf new outcome → IsRightOf old outcome
IsRightOf-before old new Verified keeps right = λ old_is. right (keeps old_is)
IsRightOf-before old new (Refused refusal) keeps right = tt

-- an outcome that is right of a checker of the formula is right of the formula
pub IsRight-of : (f : Formula) (outcome : Outcome) → IsRightOf (held_of f) outcome → IsRight f outcome
IsRight-of f Verified right = λ sat. right (sat, refl)
IsRight-of f (Refused refusal) right = tt
