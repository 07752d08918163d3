-- Questions that an incremental text asks, and the texts of right replies.
use Rattle.std.specs.Prelude.{◌≡◌, ℕ, ◌+◌, ◌≤◌, ◌<◌, ◌==◌, ◌||◌, Bool, true, false, List, [], ◌∷◌, ◌++◌, drop, length, map, slice_get, if◌then◌else◌, codes, Option, Some, None, IfSome, IsTrue, is_some, ⊤, ◌⊎◌}
use Rattle.std.specs.Option.{option_map, option_and_then}
use Rattle.std.specs.Str.{byte, bytes_eq}
use Rattle.std.specs.Io.KnownBytes.{Appends}
use Rattle.giputils_text.specs.Lines.{text_lines}
use Rattle.gipsat_cnf.specs.Prelude.{Assignment, Formula, IsSatisfiableUnder, Lit, makes_true, satisfies}
use Rattle.gipsat_dimacs.specs.Texts.{begins, comment_byte, problem_by}
use Rattle.gipsat_dimacs.specs.declared.rule.HeaderRule.TheVariants.{Relaxed}
use Rattle.gipsat_answers.specs.Answers.{witness_text}
use Rattle.gipsat_answers.specs.Enumeration.{Extends}
use Rattle.gipsat_answers.specs.Names.{IsRising, named, named_clause}
use Rattle.gipsat_answers.specs.declared.answers.Verdict.{Verdict}
use Rattle.gipsat_answers.specs.declared.answers.Verdict.TheVariants.{Satisfiable, Unsatisfiable, Unknown, Stopped}

-- what is asked: whether these literals can all be true in the formula
pub record Question : Type 0 where
  pub formula : Formula
  pub assumed : List Lit

-- what is asked where the variables of a formula and of the literals have these names
abbrev pub asked_under : List ℕ → Formula → List Lit → Question
asked_under names formula assumed = record { formula = named names formula; assumed = named_clause names assumed }

-- a question begins in the line, with an `a`
abbrev pub asks : List ℕ → Bool
asks line = begins (byte "a") line

-- the clauses that some lines write
abbrev pub clauses_in : List ℕ → Option Formula
clauses_in text = option_map (λ problem. problem.clauses) (problem_by Relaxed text)

-- what the clauses say that a line of a question writes between two zeros: its literals, and whether its 0 stands behind
-- them. Where it does, a clause without a literal is left of the second zero
abbrev pub part_of : Formula → Option (List Lit × Bool)
part_of (first ∷ literals ∷ []) = Some (literals, false)
part_of (first ∷ literals ∷ [] ∷ []) = Some (literals, true)
part_of clauses = None

-- a line between two zeros
abbrev pub between_zeros : List ℕ → List ℕ
between_zeros line = codes "0\n" ++ line ++ codes "\n0"

-- what a line of a question says, behind its `a` if it begins with one. Nothing but a comment stands behind the 0
abbrev pub part_in : List ℕ → Option (List Lit × Bool)
part_in line = option_and_then part_of (clauses_in (between_zeros line))

-- the line belongs to a question: one has begun, and these are its literals so far, or one begins here
abbrev pub belongs : Option (List Lit) → List ℕ → Bool
belongs None line = asks line
belongs (Some literals) line = true

-- what a question says up to this line, which belongs to it
abbrev pub part_with : Option (List Lit) → List ℕ → Option (List Lit × Bool)
part_with None line = part_in (drop 1 line)
part_with (Some literals) line = option_map (λ part. (literals ++ part.0, part.1)) (part_in line)

-- a question before others, if there are any
abbrev pub first_of : Formula → List Lit → Option (List Question) → Option (List Question)
first_of formula assumed questions = option_map (λ more. record { formula = formula; assumed = assumed } ∷ more) questions

-- the questions that some lines ask of a formula; `begun` are the lines of clauses since the last question, and `asked`
-- the literals of a question that has begun, and needs its 0. Each is asked of all clauses before it
abbrev pub questions_after : Formula → List ℕ → Option (List Lit) → List (List ℕ) → Option (List Question)
questions_after formula begun asked [] = if is_some asked then None else option_map (λ added. []) (clauses_in begun)
questions_after formula begun asked (line ∷ lines) =
    if belongs asked line
    then option_and_then (λ part. if part.1
    then option_and_then (λ added. first_of (formula ++ added) part.0 (questions_after (formula ++ added) [] None lines))
    (clauses_in begun)
    else questions_after formula begun (Some part.0) lines) (part_with asked line)
    else questions_after formula (begun ++ line ++ codes "\n") None lines

-- the same, where a question says this up to the lines that are left
abbrev pub questions_behind : Formula → List ℕ → List Lit → Bool → List (List ℕ) → Option (List Question)
questions_behind formula begun literals ended lines =
    if ended
    then option_and_then (λ added. first_of (formula ++ added) literals (questions_after (formula ++ added) [] None lines))
    (clauses_in begun)
    else questions_after formula begun (Some literals) lines

-- a question begins with the first line, and says this up to the lines that are left
abbrev pub AsksSoFar : List (List ℕ) → List Lit → Bool → List (List ℕ) → Type 0
AsksSoFar lines literals ended left = (formula : Formula) → (begun : List ℕ)
    → questions_after formula begun None lines ≡ questions_behind formula begun literals ended left

-- the byte of a carriage return, with which some systems end lines
abbrev pub carriage_return : ℕ
carriage_return = 13

-- the line says nothing: it is empty, maybe before a carriage return, or a comment
abbrev pub is_silent : List ℕ → Bool
is_silent line = (length line == 0) || begins carriage_return line || begins comment_byte line

-- the line is the header
abbrev pub is_header : List ℕ → Bool
is_header line = bytes_eq line (codes "p inccnf") || bytes_eq line (codes "p inccnf" ++ carriage_return ∷ [])

-- the questions that some lines ask: lines that say nothing may stand before the header
abbrev pub questions_in : List (List ℕ) → Option (List Question)
questions_in [] = None
questions_in (line ∷ lines) =
    if is_silent line then questions_in lines else if is_header line then questions_after [] [] None lines else None

-- the questions that a text asks, if it has the form
abbrev pub questions_of : List ℕ → Option (List Question)
questions_of text = questions_in (text_lines text)

-- what the questions assume, as clauses
abbrev pub cubes_asked : List Question → Formula
cubes_asked questions = map (λ question. question.assumed) questions

-- each of the questions is asked of clauses with which the formula begins
abbrev pub AreAskedOf : Formula → List Question → Type 0
AreAskedOf formula [] = ⊤
AreAskedOf formula (question ∷ more) = Extends question.formula formula × AreAskedOf formula more

-- the bytes of an input have the form
abbrev pub AsksQuestions : Option (List ℕ) → Type 0
AsksQuestions input = IfSome input (λ text. IsTrue (is_some (questions_of text)))

-- where an input asks questions, this holds of them
abbrev pub OfQuestions : Option (List ℕ) → (List Question → Type 0) → Type 0
OfQuestions input P = IfSome input (λ text. IfSome (questions_of text) P)

-- no variable is true but some of these
abbrev pub AreTrueAmong : List ℕ → Assignment → Type 0
AreTrueAmong variables a = (v : ℕ) → IsTrue (a v) → (k : ℕ) × (slice_get variables k ≡ Some v)

-- the text of a right reply, as far as this number of learned clauses tells: values that satisfy the formula and make
-- the literals true, if they are wanted, those of rising variables beside which none is true, or that there are none,
-- or that it is open, where the number is the limit, or the search was stopped
abbrev pub IsRightReply : Bool → ℕ → ℕ → Bool → Question → Verdict → List ℕ → Type 0
IsRightReply witness limit spent stop question Satisfiable text =
    (a : Assignment) × ((variables : List ℕ) × IsTrue (satisfies a question.formula)
    × IsTrue (makes_true a question.assumed) × IsRising variables × AreTrueAmong variables a
    × (text ≡ codes "s SATISFIABLE\n" ++ witness_text witness a variables))
IsRightReply witness limit spent stop question Unsatisfiable text =
    (¬ (IsSatisfiableUnder question.formula question.assumed)) × (text ≡ codes "s UNSATISFIABLE\n")
IsRightReply witness limit spent stop question Unknown text = (spent ≡ limit) × (text ≡ codes "s UNKNOWN\n")
IsRightReply witness limit spent stop question Stopped text = IsTrue stop × (text ≡ codes "s UNKNOWN\n")

-- a writer that held the one holds the other after a right reply
abbrev pub WritesReply : Bool → ℕ → ℕ → Bool → Question → Verdict → Option (List ℕ) → Option (List ℕ) → Type 0
WritesReply witness limit spent stop question verdict old new =
    (text : List ℕ) × IsRightReply witness limit spent stop question verdict text × Appends old new text

-- the text of right replies, one to each question in order: there are numbers of learned clauses, one for each, of which
-- none is above the limit, and whose sum is this
abbrev pub AreRightReplies : Bool → ℕ → ℕ → Bool → List Question → List ℕ → Type 0
AreRightReplies witness limit learned stop [] text = (text ≡ []) × (learned ≡ 0)
AreRightReplies witness limit learned stop (question ∷ more) text =
    (verdict : Verdict) × ((spent : ℕ) × ((others : ℕ) × ((first : List ℕ) × ((rest : List ℕ)
    × (text ≡ first ++ rest) × (learned ≡ spent + others) × (spent ≤ limit)
    × IsRightReply witness limit spent stop question verdict first
    × AreRightReplies witness limit others stop more rest))))

-- a writer that held the one holds the other after right replies to these questions
abbrev pub WritesReplies : Bool → ℕ → ℕ → Bool → List Question → Option (List ℕ) → Option (List ℕ) → Type 0
WritesReplies witness limit learned stop questions old new =
    (text : List ℕ) × AreRightReplies witness limit learned stop questions text × Appends old new text

-- one of the questions has an answer
abbrev pub IsAnySatisfiable : List Question → Type 0
IsAnySatisfiable [] = ⊥
IsAnySatisfiable (question ∷ more) = IsSatisfiableUnder question.formula question.assumed ⊎ IsAnySatisfiable more

-- none of the questions has an answer
abbrev pub AreNoneSatisfiable : List Question → Type 0
AreNoneSatisfiable [] = ⊤
AreNoneSatisfiable (question ∷ more) =
    (¬ (IsSatisfiableUnder question.formula question.assumed)) × AreNoneSatisfiable more

-- the verdict of all questions together: one is satisfiable, or there are some and none is; of the others nothing is said
abbrev pub IsRightOfAll : List Question → Verdict → Type 0
IsRightOfAll questions Satisfiable = IsAnySatisfiable questions
IsRightOfAll questions Unsatisfiable = (0 < length questions) × AreNoneSatisfiable questions
IsRightOfAll questions Unknown = ⊤
IsRightOfAll questions Stopped = ⊤

-- the verdict is that of a search that was stopped
abbrev pub is_stop : Verdict → Bool
is_stop Satisfiable = false
is_stop Unsatisfiable = false
is_stop Unknown = false
is_stop Stopped = true

-- the last verdict if it is that of a model, and else this one, which is open
abbrev pub model_or : Verdict → Verdict → Verdict
model_or Satisfiable other = Satisfiable
model_or Unsatisfiable other = other
model_or Unknown other = other
model_or Stopped other = other

-- the verdict of some questions, if there are some, and one more
abbrev pub verdict_with : Option Verdict → Verdict → Verdict
verdict_with None last = last
verdict_with (Some Satisfiable) last = Satisfiable
verdict_with (Some Unsatisfiable) last = last
verdict_with (Some Unknown) last = model_or last Unknown
verdict_with (Some Stopped) last = model_or last Stopped
