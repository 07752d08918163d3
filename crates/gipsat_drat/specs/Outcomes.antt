-- The texts of outcomes and of errors.
use Rattle.std.specs.Prelude.{ℕ, List, ◌++◌, codes, decimal, Option, ⊤}
use Rattle.std.specs.Io.KnownBytes.{Appends}
use Rattle.gipsat_cnf.specs.Formulas.{Formula, IsSatisfiable}
use Rattle.gipsat_dimacs.specs.Errors as dimacs
use Rattle.gipsat_dimacs.specs.Texts.{Problem}
use Rattle.gipsat_drat.specs.declared.error.Flaw.{Flaw}
use Rattle.gipsat_drat.specs.declared.error.Flaw.TheVariants.{Word, Number, Variable, NotShown, Name, Unnamed, Hint, NotHinted, Step, OpenClause, Unfinished}
use Rattle.gipsat_drat.specs.declared.error.OtherForm.{OtherForm}
use Rattle.gipsat_drat.specs.declared.error.OtherForm.TheVariants.{Gzip, Xz, Bzip2, Zstd, Rup, Frat, Lrat}
use Rattle.gipsat_drat.specs.declared.error.Place.{Place}
use Rattle.gipsat_drat.specs.declared.error.Place.TheVariants.{Line, Byte}
use Rattle.gipsat_drat.specs.declared.error.Refusal.{Refusal}
use Rattle.gipsat_drat.specs.declared.error.Outcome.{Outcome}
use Rattle.gipsat_drat.specs.declared.error.Outcome.TheVariants.{Verified, Refused}
use Rattle.gipsat_drat.specs.declared.error.Failure.{Failure}
use Rattle.gipsat_drat.specs.declared.error.Failure.TheVariants as failure
use Rattle.gipsat_drat.specs.declared.error.DratError.{DratError}
use Rattle.gipsat_drat.specs.declared.error.DratError.TheVariants as error

-- why a proof is refused
abbrev pub flaw_text : Flaw → List ℕ
flaw_text Word = codes "not a number"
flaw_text Number = codes "a number that is too great"
flaw_text Variable = codes "a 0 with a sign"
flaw_text NotShown = codes "a clause that is neither RUP nor RAT on its first literal"
flaw_text Name = codes "a name that is not greater than all before"
flaw_text Unnamed = codes "a name that no clause has"
flaw_text Hint = codes "a hint whose clause is not unit"
flaw_text NotHinted = codes "hints that do not show the clause"
flaw_text Step = codes "a step that begins with neither a nor d"
flaw_text OpenClause = codes "a clause without its 0"
flaw_text Unfinished = codes "the end without the empty clause"

-- a place in a proof
abbrev pub place_text : Place → List ℕ
place_text (Line number) = codes "line " ++ decimal number
place_text (Byte number) = codes "byte " ++ decimal number

-- where a proof is refused, and why
abbrev pub refusal_text : Refusal → List ℕ
refusal_text refusal = codes "proof " ++ place_text refusal.place ++ codes ": " ++ flaw_text refusal.flaw

-- a form that is not read, and what to try
abbrev pub form_text : OtherForm → List ℕ
form_text Gzip = codes "gzip data (try: gzip -dc PROOF | gipsat --check FORMULA -)"
form_text Xz = codes "xz data (try: xz -dc PROOF | gipsat --check FORMULA -)"
form_text Bzip2 = codes "bzip2 data (try: bzip2 -dc PROOF | gipsat --check FORMULA -)"
form_text Zstd = codes "zstd data (try: zstd -dc PROOF | gipsat --check FORMULA -)"
form_text Rup = codes "a first line with % (try: sed 1d PROOF | gipsat --check FORMULA -)"
form_text Frat = codes "the FRAT form, which is not read (DRAT is)"
form_text Lrat = codes "the LRAT form, which has hints already"

-- the text of an error
abbrev pub error_text : DratError → List ℕ
error_text (error.Formula why) = codes "formula: " ++ dimacs.error_text why
error_text error.Proof = codes "proof: cannot be read"
error_text (error.Form form) = codes "proof: " ++ form_text form
error_text error.Memory = codes "memory: refused"
error_text error.Output = codes "output: cannot be written"

-- the error of a proof that was not checked to its end, or of a check whose result was not written
abbrev pub failure_error : Failure → DratError
failure_error failure.Proof = error.Proof
failure_error (failure.Form form) = error.Form form
failure_error failure.Memory = error.Memory
failure_error failure.Output = error.Output

-- the line that an outcome is
abbrev pub outcome_text : Outcome → List ℕ
outcome_text Verified = codes "s VERIFIED\n"
outcome_text (Refused refusal) = codes "s NOT VERIFIED\n"

-- an outcome is right: verified is said only where nothing satisfies the formula
abbrev pub IsRight : Formula → Outcome → Type 0
IsRight formula Verified = ¬ (IsSatisfiable formula)
IsRight formula (Refused refusal) = ⊤

-- a writer that held the one holds the other after the line of a right outcome
abbrev pub WritesOutcome : Problem → Outcome → Option (List ℕ) → Option (List ℕ) → Type 0
WritesOutcome problem outcome old new = IsRight problem.clauses outcome × Appends old new (outcome_text outcome)
