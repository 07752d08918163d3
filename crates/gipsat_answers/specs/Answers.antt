-- The texts of answers.
use Rattle.std.specs.Prelude.{◌≡◌, ℕ, ◌+◌, Bool, true, List, [], ◌∷◌, ◌++◌, length, nat_le, if◌then◌else◌, codes, IsTrue, Option}
use Rattle.std.specs.Io.KnownBytes.{Appends}
use Rattle.gipsat_cnf.specs.Formulas.{Assignment, Formula, satisfies, IsSatisfiable}
use Rattle.gipsat_solver.specs.Answers.{IsRight, SolverState}
use Rattle.gipsat_cnf.specs.declared.answers.Answer.{Answer}
use Rattle.gipsat_dimacs.specs.Texts.{Problem, Word}
use Rattle.gipsat_dimacs.specs.Writer.{literal_word}
use Rattle.gipsat_answers.specs.Names.{numbers_below}
use Rattle.gipsat_answers.specs.declared.answers.Solved.{Solved}
use Rattle.gipsat_answers.specs.declared.answers.Verdict.{Verdict}
use Rattle.gipsat_answers.specs.declared.answers.Verdict.TheVariants.{Satisfiable, Unsatisfiable, Unknown, Stopped}

-- the most bytes of a line
abbrev pub width : ℕ
width = 78

-- the true literals of these variables, and a 0
abbrev pub value_words : Assignment → List ℕ → List Word
value_words a [] = codes "0" ∷ []
value_words a (v ∷ variables) = literal_word (a v) v ∷ value_words a variables

-- a word fits into a line of which so many bytes stand
abbrev pub fits : ℕ → Word → Bool
fits column word = nat_le (column + 1 + length word) width

-- what stands before a word: a space, or the beginning of the next line
abbrev pub separator : ℕ → Word → List ℕ
separator column word = if fits column word then codes " " else codes "\nv "

-- how many bytes of the line stand after a word
abbrev pub column_after : ℕ → Word → ℕ
column_after column word = if fits column word then column + 1 + length word else 2 + length word

-- words in lines that begin with `v`, as many in each as fit, where so many bytes of the first line stand
abbrev pub laid_out : ℕ → List Word → List ℕ
laid_out column [] = codes "\n"
laid_out column (word ∷ words) = separator column word ++ word ++ laid_out (column_after column word) words

-- the lines of the values of these variables
abbrev pub values_text : Assignment → List ℕ → List ℕ
values_text a variables = codes "v" ++ laid_out 1 (value_words a variables)

-- what stands behind the first line: the values of these variables, if they are wanted
abbrev pub witness_text : Bool → Assignment → List ℕ → List ℕ
witness_text witness a variables = if witness then values_text a variables else []

-- the text of a right answer: values that satisfy the problem's clauses, if they are wanted, or that nothing does, or
-- that it is open: as many clauses were learned as the limit says, or the search was stopped
abbrev pub IsRightText : Bool → Problem → ℕ → SolverState → Verdict → List ℕ → Type 0
IsRightText witness problem limit known Satisfiable text =
    (a : Assignment) × IsTrue (satisfies a problem.clauses)
    × (text ≡ codes "s SATISFIABLE\n" ++ witness_text witness a (numbers_below problem.variables))
IsRightText witness problem limit known Unsatisfiable text =
    ¬ (IsSatisfiable problem.clauses) × (text ≡ codes "s UNSATISFIABLE\n")
IsRightText witness problem limit known Unknown text = (known.learned ≡ limit) × (text ≡ codes "s UNKNOWN\n")
IsRightText witness problem limit known Stopped text = text ≡ codes "s UNKNOWN\n"

-- the exit status of an answer
abbrev pub verdict_status : Verdict → ℕ
verdict_status Satisfiable = 10
verdict_status Unsatisfiable = 20
verdict_status Unknown = 0
verdict_status Stopped = 0

-- so many variables, and these clauses
abbrev pub problem_of : ℕ → Formula → Problem
problem_of variables formula = record { variables = variables; clauses = formula }

-- the verdict and the text are right for each formula for which the answer is
abbrev pub TellsRight : Bool → ℕ → Answer → Verdict → List ℕ → Type 0
TellsRight witness variables answer verdict text =
    (old new : SolverState) (limit : ℕ) → old.learned ≡ 0 → IsRight old new limit answer
    → IsRightText witness (problem_of variables old.formula) limit new verdict text

-- a writer that held the one holds the other after the text of a right answer of this verdict, with values if they are
-- wanted, where a solver knows so much
abbrev pub WritesVerdict : Bool → Problem → ℕ → SolverState → Verdict → Option (List ℕ) → Option (List ℕ) → Type 0
WritesVerdict witness problem limit known verdict old new =
    (text : List ℕ) × IsRightText witness problem limit known verdict text × Appends old new text

-- a writer that held the one holds the other after the text of a right answer, with values if they are wanted
abbrev pub WritesAnswerWith : Bool → Problem → ℕ → Solved → Option (List ℕ) → Option (List ℕ) → Type 0
WritesAnswerWith witness problem limit solved old new =
    WritesVerdict witness problem limit solved.solver solved.verdict old new

-- a writer that held the one holds the other after the text of a right answer
abbrev pub WritesAnswer : Problem → ℕ → Solved → Option (List ℕ) → Option (List ℕ) → Type 0
WritesAnswer problem limit solved old new = WritesAnswerWith true problem limit solved old new
