-- What stops a parser.
use Rattle.std.proofs.Common.{◌≡◌, ℕ, Result, Ok, Err, sym, subst}
use Rattle.std.specs.Prelude.{IsErr, IsErrAnd, IsErrOf, OnOk, IfErr}
use Rattle.gipsat_dimacs.specs.Errors.{error_at}
use Rattle.gipsat_dimacs.specs.Parsers.{OnRefusal}
use Rattle.gipsat_dimacs.specs.declared.error.Reason.{Reason}
use Rattle.gipsat_dimacs.specs.declared.error.DimacsError.{DimacsError}
use Rattle.gipsat_dimacs.specs.declared.error.DimacsError.TheVariants.{Line}
use Rattle.gipsat_dimacs.specs.declared.error.Stop.{Stop}
use Rattle.gipsat_dimacs.specs.declared.error.Stop.TheVariants.{Memory, Refused}

-- what holds at a refusal, from what held at an earlier one
pub on_refusal : (P Q : Type 0) (stop : Stop) → (P → Q) → OnRefusal P stop → OnRefusal Q stop
on_refusal P Q Memory f h = tt
on_refusal P Q (Refused reason) f h = f h

-- the same of an outcome
pub if_refused : {T : Type 0} (P Q : Type 0) (r : Result T Stop) → (P → Q) → IfErr r (OnRefusal P)
    → IfErr r (OnRefusal Q)
if_refused P Q (Ok x) f h = tt
if_refused P Q (Err stop) f h = on_refusal P Q stop f h

-- an error is passed on
pub passed_on : {T : Type 0} (P Q : Type 0) (r : Result T Stop) (stop : Stop) → (P → Q)
    → IsErr r × IsErrAnd r (λ s. s ≡ stop)
    → OnRefusal P stop → IfErr r (OnRefusal Q)
passed_on P Q (Ok x) stop f e h = tt
passed_on P Q (Err s) stop f e h = on_refusal P Q s f (subst (OnRefusal P) (sym e.1) h)

-- an error at a line is a refusal there
pub refused_at : {T : Type 0} (P : Type 0) (r : Result T DimacsError) (stop : Stop) (n line : ℕ) (reason : Reason)
    → r ≡ Err (error_at n stop) → IsErrOf r (Line line reason) → OnRefusal P stop → (line ≡ n) × P
refused_at P r Memory n line reason e is h = absurd (let f = e in cc)
refused_at P r (Refused why) n line reason e is h = (let f = e in let g = is in cc, h)

-- two facts of what did not fail
pub on_ok_both : {T E : Type 0} (P Q R : Type 0) (r : Result T E) → OnOk r P → OnOk r Q → (P → Q → R) → OnOk r R
on_ok_both P Q R (Ok x) p q f = f p q
on_ok_both P Q R (Err e) p q f = tt

pub on_ok_always : {T E : Type 0} (P : Type 0) (r : Result T E) → P → OnOk r P
on_ok_always P (Ok x) h = h
on_ok_always P (Err e) h = tt

-- an error that came of another is that one
pub same_error : {T : Type 0} (r : Result T DimacsError) (e e' : DimacsError)
    → IsErr r × IsErrAnd r (λ other. other ≡ e)
    → IsErrOf r e' → e ≡ e'
same_error (Ok x) e e' h is = absurd (let f = is in cc)
same_error (Err other) e e' h is = let same : other ≡ e = h.1 in cc
