-- The steps of a proof in the LRAT form: each clause has a name, and each step names what its clause follows from.
use Rattle.std.specs.Prelude.{ℕ, ◌*◌, true, false, List, [], ◌∷◌, ◌++◌, codes, decimal, map, reverse, slice_get}
use Rattle.std.specs.Option.{option_map_or}
use Rattle.gipsat_cnf.specs.Formulas.{Clause}
use Rattle.giputils_text.specs.Groups.{groups}
use Rattle.gipsat_dimacs.specs.Writer.{literal_text}
use Rattle.gipsat_answers.specs.Steps.{clause_bytes, step_bytes}
use Rattle.gipsat_answers.specs.declared.proof.writer.Format.{Format}
use Rattle.gipsat_answers.specs.declared.proof.writer.Format.TheVariants.{Text, Binary}
use Rattle.gipsat_answers.specs.declared.proof.writer.Form.{Form}
use Rattle.gipsat_answers.specs.declared.proof.writer.Form.TheVariants.{Drat, Lrat}

-- the name of the clause with an id, and 0 where there is none
abbrev pub name_in : List ℕ → ℕ → ℕ
name_in names id = option_map_or (λ name. name) (slice_get names id) 0

-- the names of the clauses of a chain, the last one first: so each is unit where those before it were read
abbrev pub hints_of : List ℕ → List ℕ → List ℕ
hints_of names chain = reverse (map (name_in names) chain)

-- the literals of a clause in a line, with a 0 behind them
abbrev pub literals_text : Clause → List ℕ
literals_text [] = codes "0 "
literals_text (l ∷ clause) = literal_text l ++ literals_text clause

-- a name in a line, or in bytes; in bytes a hint has twice its name, since one that is negative would have 1 more
abbrev pub name_bytes : Format → ℕ → List ℕ
name_bytes Text name = decimal name ++ codes " "
name_bytes Binary name = groups 4 name

abbrev pub hint_bytes : Format → ℕ → List ℕ
hint_bytes Text name = decimal name ++ codes " "
hint_bytes Binary name = groups 4 (2 * name)

-- what ends a step
abbrev pub zero_bytes : Format → List ℕ
zero_bytes Text = codes "0\n"
zero_bytes Binary = 0 ∷ []

-- the hints of a step, and its end
abbrev pub hints_bytes : Format → List ℕ → List ℕ
hints_bytes format [] = zero_bytes format
hints_bytes format (hint ∷ hints) = hint_bytes format hint ++ hints_bytes format hints

-- a clause is added under a name, with hints
abbrev pub lrat_added : Format → ℕ → Clause → List ℕ → List ℕ
lrat_added Text name clause hints = name_bytes Text name ++ literals_text clause ++ hints_bytes Text hints
lrat_added Binary name clause hints = codes "a" ++ name_bytes Binary name ++ clause_bytes clause ++ hints_bytes Binary hints

-- the clause of a name is deleted behind the step of another one, the last
abbrev pub lrat_deleted : Format → ℕ → ℕ → List ℕ
lrat_deleted Text last name = name_bytes Text last ++ codes "d " ++ name_bytes Text name ++ zero_bytes Text
lrat_deleted Binary last name = codes "d" ++ name_bytes Binary name ++ zero_bytes Binary

-- what is written of a clause that is added, in a form
abbrev pub added_bytes : Form → Format → ℕ → Clause → List ℕ → List ℕ
added_bytes Drat format name clause hints = step_bytes format false clause
added_bytes Lrat format name clause hints = lrat_added format name clause hints

-- what is written of a clause that is deleted
abbrev pub deleted_bytes : Form → Format → ℕ → ℕ → Clause → List ℕ
deleted_bytes Drat format last name clause = step_bytes format true clause
deleted_bytes Lrat format last name clause = lrat_deleted format last name
