-- What a search answered to an input, in what it wrote.
use Rattle.std.specs.Prelude.{◌≡◌, ℕ, List, codes, Bool, Option, Some, None, IsTrue, ⊤, ◌⊎◌}
use Rattle.std.specs.Io.KnownBytes.{Appends}
use Rattle.gipsat_cnf.specs.Prelude.{Assignment, IsSatisfiable, Lit, satisfies}
use Rattle.gip_cli.specs.Statuses.{refused_status}
use Rattle.gipsat_dimacs.specs.Inputs.{HasForm, OfProblem}
use Rattle.gipsat_dimacs.specs.Texts.{Problem}
use Rattle.gipsat_dimacs.specs.declared.rule.HeaderRule.{HeaderRule}
use Rattle.gipsat_answers.specs.Answers.{verdict_status}
use Rattle.gipsat_answers.specs.Assumed.{assuming}
use Rattle.gipsat_answers.specs.Enumeration.{IsRightVerdict, WritesModels, model_text}
use Rattle.gipsat_answers.specs.Questions.{AsksQuestions, IsRightOfAll, OfQuestions, Question, WritesReplies}
use Rattle.gipsat_answers.specs.declared.answers.Verdict.{Verdict}
use Rattle.gipsat_answers.specs.declared.answers.Verdict.TheVariants.{Satisfiable, Unsatisfiable, Unknown, Stopped}
use Rattle.gipsat_command.specs.declared.options.Options.{Options}
use Rattle.gipsat.specs.Models.{projection_of}

-- a writer that held the one holds the other after the answer of this verdict to a problem: values that satisfy its
-- clauses, if they are wanted, that nothing does, or that it is open
abbrev pub WritesOne : Bool → Problem → Verdict → Option (List ℕ) → Option (List ℕ) → Type 0
WritesOne witness problem Satisfiable old new =
    (a : Assignment) × IsTrue (satisfies a problem.clauses) × Appends old new (model_text witness a problem)
WritesOne witness problem Unsatisfiable old new =
    ¬ (IsSatisfiable problem.clauses) × Appends old new (codes "s UNSATISFIABLE\n")
WritesOne witness problem Unknown old new = Appends old new (codes "s UNKNOWN\n")
WritesOne witness problem Stopped old new = Appends old new (codes "s UNKNOWN\n")

-- after that answer, or, where several models are wanted, after models of a problem that has this verdict
abbrev pub WritesAnswers : Bool → Option ℕ → List Lit → Problem → Verdict → Option (List ℕ) → Option (List ℕ) → Type 0
WritesAnswers witness None projection problem verdict old new = WritesOne witness problem verdict old new
WritesAnswers witness (Some n) projection problem verdict old new =
    IsRightVerdict problem verdict × WritesModels witness projection ⊤ n problem old new

-- after right replies to questions that have this verdict together
abbrev pub WritesAllReplies : Bool → ℕ → List Question → Verdict → Option (List ℕ) → Option (List ℕ) → Type 0
WritesAllReplies witness limit questions verdict old new =
    IsRightOfAll questions verdict
    × ((learned : ℕ) × ((stopped : Bool) × WritesReplies witness limit learned stopped questions old new))

-- an input writes a problem, to which the answer under these assumptions was written: one, or so many models
abbrev pub IsProblemAnswered : HeaderRule → Bool → Option ℕ → List Lit → Option (List Lit) → Verdict
    → Option (List ℕ) → Option (List ℕ) → Option (List ℕ) → Type 0
IsProblemAnswered rule witness models assumed projection verdict input old new =
    HasForm rule input × OfProblem rule input (λ problem. WritesAnswers witness models
    (projection_of projection problem.variables) (assuming assumed problem) verdict old new)

-- an input asks questions, to which right replies were written
abbrev pub AreQuestionsAnswered : Bool → ℕ → Verdict → Option (List ℕ) → Option (List ℕ) → Option (List ℕ) → Type 0
AreQuestionsAnswered witness limit verdict input old new =
    AsksQuestions input × OfQuestions input (λ questions. WritesAllReplies witness limit questions verdict old new)

-- the one or the other, as the options and these literals ask
abbrev pub IsAnswered : Options → List Lit → Option (List Lit) → Verdict → Option (List ℕ) → Option (List ℕ)
    → Option (List ℕ) → Type 0
IsAnswered options assumed projection verdict input old new =
    AreQuestionsAnswered options.witness options.conflicts verdict input old new
    ⊎ IsProblemAnswered options.rule options.witness options.models assumed projection verdict input old new

-- the status of a verdict, or that of an error
abbrev pub IsSearchStatus : ℕ → Type 0
IsSearchStatus status = ((verdict : Verdict) × (status ≡ verdict_status verdict)) ⊎ (status ≡ refused_status)
