-- The steps of a proof in the DRAT form, as text and as bytes.
use Rattle.std.specs.Prelude.{ℕ, ◌+◌, ◌*◌, Bool, false, List, [], ◌∷◌, ◌++◌, if◌then◌else◌, codes}
use Rattle.gipsat_cnf.specs.Prelude.{Clause, Lit}
use Rattle.giputils_text.specs.Groups.{groups}
use Rattle.gipsat_dimacs.specs.Writer.{clause_line}
use Rattle.gipsat_answers.specs.declared.proof.writer.Format.{Format}
use Rattle.gipsat_answers.specs.declared.proof.writer.Format.TheVariants.{Text, Binary}
use Rattle.gipsat_answers.specs.declared.proof.writer.Form.{Form}
use Rattle.gipsat_answers.specs.declared.proof.writer.Form.TheVariants.{Drat, Lrat}

-- the number of a literal in bytes: twice that in a text, and 1 more where it is negative
abbrev pub literal_number : Lit → ℕ
literal_number l = if l.positive then 2 * (l.variable + 1) else 2 * (l.variable + 1) + 1

-- a clause in bytes, with a 0 behind its literals
abbrev pub clause_bytes : Clause → List ℕ
clause_bytes [] = 0 ∷ []
clause_bytes (l ∷ clause) = groups 4 (literal_number l) ++ clause_bytes clause

-- a step: a clause is deleted, or else added
abbrev pub step_bytes : Format → Bool → Clause → List ℕ
step_bytes Text deleted clause = (if deleted then codes "d " else []) ++ clause_line clause
step_bytes Binary deleted clause = (if deleted then codes "d" else codes "a") ++ clause_bytes clause

-- what stands at the end: in DRAT the empty clause is added, where nothing satisfies the formula; in LRAT it was told
abbrev pub end_bytes : Form → Format → Bool → List ℕ
end_bytes Drat format refuted = if refuted then step_bytes format false [] else []
end_bytes Lrat format refuted = []
