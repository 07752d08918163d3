-- What a text says, where a part of it has been read.
--
-- How it is proved: a parser that is pushed bytes. Define the meaning of the whole text by the parser and the rest of
-- the text. Each private contract says that this meaning stays the same for every rest. Put the word that has not ended
-- in front of the rest; a byte of a word is then `append_assoc`.
use Rattle.std.specs.Prelude.{◌≡◌, ℕ, ◌+◌, max, ◌==◌, ◌&&◌, ◌||◌, Bool, true, false, not, List, [], ◌∷◌, ◌++◌, length, map, nat_lt, if◌then◌else◌, codes, Option, Some, None, ⊤}
use Rattle.std.specs.List.{AllPass}
use Rattle.std.specs.Option.{option_map, option_and_then}
use Rattle.gipsat_cnf.specs.Prelude.{Clause, Formula, Lit}
use Rattle.gipsat_dimacs.specs.Texts.{Word, Problem, begins, comment_byte, end_byte, ends_line, is_blank, says, uncommented, clause_words, word_lines, number_of, item_of, variable_limit, clauses_after, variables_with, header_of, goes_on, has_comment, is_header, line_on, with_word}
use Rattle.gipsat_dimacs.specs.declared.rule.HeaderRule.{HeaderRule}
use Rattle.gipsat_dimacs.specs.declared.rule.HeaderRule.TheVariants.{Strict, Relaxed}
use Rattle.gipsat_dimacs.specs.declared.stage.Header.{Header}
use Rattle.gipsat_dimacs.specs.declared.stage.Stage.{Stage}
use Rattle.gipsat_dimacs.specs.declared.stage.Stage.TheVariants as stage
use Rattle.gipsat_cnf.specs.declared.dimacs.Item.{Item}
use Rattle.gipsat_dimacs.specs.declared.lines.LineParser.{LineParser}
use Rattle.gipsat_dimacs.specs.declared.parser.Parser.{Parser}
use Rattle.gipsat_dimacs.specs.declared.error.Stop.{Stop}
use Rattle.gipsat_dimacs.specs.declared.error.Stop.TheVariants.{Memory, Refused}

-- no clause may follow any more
abbrev pub is_full : HeaderRule → Header → Bool
is_full Strict h = h.left == 0
is_full Relaxed h = false

-- clauses are missing
abbrev pub is_short : HeaderRule → Header → Bool
is_short Strict h = nat_lt 0 h.left
is_short Relaxed h = false

-- the problem of these clauses and those before them, where there are `found` variables
abbrev pub problem_ended : HeaderRule → Header → Formula → ℕ → Formula → Option Problem
problem_ended Strict h before found clauses =
    if length clauses == h.left then Some (record { variables = h.variables; clauses = before ++ clauses }) else None
problem_ended Relaxed h before found clauses = Some (record { variables = found; clauses = before ++ clauses })

-- the problem, where these items are left, and the literals of `begun` stand before them
abbrev pub problem_of_rest : HeaderRule → Header → Formula → Clause → List (Option Item) → Option Problem
problem_of_rest rule h before begun items =
    option_and_then (λ clauses. problem_ended rule h before (variables_with h.variables items) clauses)
    (clauses_after begun items)

-- the same, where these words are left
abbrev pub problem_left : HeaderRule → Header → Formula → Clause → List Word → Option Problem
problem_left rule h before begun words =
    problem_of_rest rule h before begun (map (item_of (variable_limit rule h.variables)) words)

-- the header of a text that has none
abbrev pub no_header : Header
no_header = record { variables = 0; left = 0 }

-- the header after a literal: where its counts are hints, there are as many variables as were named
abbrev pub header_with_literal : HeaderRule → Header → Lit → Header
header_with_literal Strict h l = h
header_with_literal Relaxed h l = record { variables = max h.variables (l.variable + 1); left = h.left }

-- the problem after a header, where these words are left
abbrev pub problem_given : HeaderRule → Formula → Clause → List Word → Option (ℕ × ℕ) → Option Problem
problem_given rule before begun words None = None
problem_given rule before begun words (Some (variables, count)) =
    problem_left rule (record { variables = variables; left = count }) before begun words

-- the problem, where these words of a header have been read, and these lines come after them
abbrev pub problem_heading : HeaderRule → Formula → Clause → List Word → List (List Word) → Option Problem
problem_heading rule before begun header [] = problem_given rule before begun [] (header_of header)
problem_heading rule before begun header (line ∷ lines) =
    if goes_on header then problem_heading rule before begun (header ++ line) lines
    else problem_given rule before begun (clause_words (line ∷ lines)) (header_of header)

-- the problem, where this line says something, and these come after it
abbrev pub problem_first : HeaderRule → Formula → Clause → List Word → List (List Word) → Option Problem
problem_first rule before begun line lines =
    if is_header rule line then problem_heading rule before begun line lines
    else problem_left rule no_header before begun (clause_words (line ∷ lines))

-- the problem, where these lines are left, and none before them says anything
abbrev pub problem_opening : HeaderRule → Formula → Clause → List (List Word) → Option Problem
problem_opening rule before begun [] = problem_first rule before begun [] []
problem_opening rule before begun (line ∷ lines) =
    if says line then problem_first rule before begun line lines else problem_opening rule before begun lines

-- what the words of a header name after the number of variables
abbrev pub header_with : ℕ → List Word → Option (ℕ × ℕ)
header_with variables (clauses ∷ []) = option_map (λ n. (variables, n)) (number_of clauses)
header_with variables words = None

-- the problem, where only the number of clauses of a header is missing, and these words of the line are left
abbrev pub problem_counted : HeaderRule → Formula → Clause → ℕ → List Word → List (List Word) → Option Problem
problem_counted rule before begun variables [] [] = None
problem_counted rule before begun variables [] (line ∷ lines) = problem_counted rule before begun variables line lines
problem_counted rule before begun variables (word ∷ words) lines =
    problem_given rule before begun (clause_words lines) (header_with variables (word ∷ words))

-- the problem after a header, in whose last line no word may be left
abbrev pub problem_closed : HeaderRule → Header → Formula → Clause → List Word → List Word → Option Problem
problem_closed rule h before begun [] words = problem_left rule h before begun words
problem_closed rule h before begun (word ∷ more) words = None

-- the problem at a stage, where these words of the line are left, and these lines after it
abbrev pub problem_at : HeaderRule → Stage → Formula → Clause → List Word → List (List Word) → Option Problem
problem_at rule stage.Start before begun words lines = problem_opening rule before begun (words ∷ lines)
problem_at rule stage.Problem before begun words lines =
    problem_heading rule before begun (codes "p" ∷ words) lines
problem_at rule stage.Format before begun words lines =
    problem_heading rule before begun (codes "p" ∷ codes "cnf" ∷ words) lines
problem_at rule (stage.Variables n) before begun words lines = problem_counted rule before begun n words lines
problem_at rule (stage.Clauses h) before begun words lines =
    problem_closed rule h before begun words (clause_words lines)
problem_at rule (stage.Line h) before begun words lines =
    problem_left rule h before begun (clause_words (words ∷ lines))
problem_at rule (stage.Words h) before begun words lines =
    problem_left rule h before begun (uncommented words ++ clause_words lines)
problem_at rule (stage.Ended n) before begun words lines = Some (record { variables = n; clauses = before })

-- the same, where the line may be a comment
abbrev pub problem_here : HeaderRule → Bool → Stage → Formula → Clause → List (List Word) → Option Problem
problem_here rule in_comment stage before begun [] = None
problem_here rule true stage before begun (words ∷ lines) = problem_at rule stage before begun [] lines
problem_here rule false stage before begun (words ∷ lines) = problem_at rule stage before begun words lines

-- the problem that a text writes, where the parser has read all but this rest
abbrev pub problem_from : {S : Type 0} → (S → Formula) → Parser S → List ℕ → Option Problem
problem_from formula p rest =
    problem_here p.rule p.in_comment p.stage (formula p.clauses) p.clause.items (word_lines (p.word.items ++ rest))

-- the problem, where the word that was being read has ended
abbrev pub problem_next : {S : Type 0} → (S → Formula) → Parser S → List Word → List (List Word) → Option Problem
problem_next formula p words lines = problem_at p.rule p.stage (formula p.clauses) p.clause.items words lines

-- the same, where this is the stage
abbrev pub problem_staged : {S : Type 0} → (S → Formula) → Stage → Parser S → List Word → List (List Word)
    → Option Problem
problem_staged formula stage p words lines = problem_at p.rule stage (formula p.clauses) p.clause.items words lines

-- the byte may stand in a word
abbrev pub is_word_byte : ℕ → Bool
is_word_byte byte = if ends_line byte then false else not (is_blank byte)

-- no word of the line was read at this stage
abbrev pub begins_line : Stage → Bool
begins_line stage.Start = true
begins_line (stage.Line h) = true
begins_line other = false

-- a comment may begin behind this word at this stage: there is none in a header
abbrev pub takes_comment : HeaderRule → Stage → Word → Bool
takes_comment rule stage.Start word = (length word == 0) || not (is_header rule (word ∷ []))
takes_comment rule (stage.Line h) word = true
takes_comment rule (stage.Words h) word = true
takes_comment rule other word = false

-- the text has ended at this stage
abbrev pub is_ended : Stage → Bool
is_ended (stage.Ended n) = true
is_ended other = false

-- the word that is being read, if any, is one, and begins neither a comment nor the end; there is none in a comment
pub record IsWord (rule : HeaderRule) (stage : Stage) (in_comment : Bool) (word : Word) : Type 0 where
  pub bytes : AllPass is_word_byte word
  pub none : in_comment ≡ true → word ≡ []
  pub no_comment : takes_comment rule stage word ≡ true → has_comment word ≡ false
  pub no_comment_line : begins_line stage ≡ true → begins comment_byte word ≡ false
  pub no_end : begins_line stage ≡ true → begins end_byte word ≡ false

-- the byte begins a comment after what was read
abbrev pub begins_comment : ℕ → HeaderRule → Stage → Word → Bool
begins_comment byte rule stage word = (byte == comment_byte) && takes_comment rule stage word

-- the byte begins a line that ends the text
abbrev pub begins_end : ℕ → Word → Stage → Bool
begins_end byte word stage = (byte == end_byte) && (length word == 0) && begins_line stage

-- the word of a parser is such
abbrev pub IsReading : {S : Type 0} → Parser S → Type 0
IsReading p = IsWord p.rule p.stage p.in_comment p.word.items

-- whatever the rest of the text, it writes the same problem
abbrev pub SaysOn : {S : Type 0} → (S → Formula) → Parser S → List ℕ → Parser S → Type 0
SaysOn formula old bytes new =
    (rest : List ℕ) → problem_from formula old (bytes ++ rest) ≡ problem_from formula new rest

-- whatever the rest of the text, it has not the form
abbrev pub SaysNothing : {S : Type 0} → (S → Formula) → Parser S → List ℕ → Type 0
SaysNothing formula old bytes = (rest : List ℕ) → problem_from formula old (bytes ++ rest) ≡ None

-- whatever comes after the word, the text writes the same problem
abbrev pub EndsWord : {S : Type 0} → (S → Formula) → Parser S → Parser S → Type 0
EndsWord formula old new =
    (words : List Word) (lines : List (List Word))
    → problem_next formula old (with_word old.word.items words) lines ≡ problem_next formula new words lines

-- whatever comes after the word, the text has not the form
abbrev pub EndsNoWord : {S : Type 0} → (S → Formula) → Parser S → Type 0
EndsNoWord formula old =
    (words : List Word) (lines : List (List Word))
    → problem_next formula old (with_word old.word.items words) lines ≡ None

-- the same, where there is a word, and these are the stages before and after it
abbrev pub TakesWord : {S : Type 0} → (S → Formula) → Stage → Parser S → Stage → Parser S → Type 0
TakesWord formula s old t new =
    (words : List Word) (lines : List (List Word))
    → problem_staged formula s old (old.word.items ∷ words) lines ≡ problem_staged formula t new words lines

-- where there is a word at this stage, the text has not the form, whatever comes after it
abbrev pub TakesNoWord : {S : Type 0} → (S → Formula) → Stage → Parser S → Type 0
TakesNoWord formula s old =
    (words : List Word) (lines : List (List Word)) → problem_staged formula s old (old.word.items ∷ words) lines ≡ None

-- whatever comes after the end of a line, the text writes the same problem at the next stage
abbrev pub EndsLine : Stage → Stage → Type 0
EndsLine old new =
    (rule : HeaderRule) (before : Formula) (begun : Clause) (line : List Word) (lines : List (List Word))
    → problem_at rule old before begun [] (line ∷ lines) ≡ problem_at rule new before begun line lines

-- no line may end at the stage
abbrev pub EndsNowhere : Stage → Type 0
EndsNowhere stage =
    (rule : HeaderRule) (before : Formula) (begun : Clause) (lines : List (List Word))
    → problem_at rule stage before begun [] lines ≡ None

-- where the text was refused, this holds
abbrev pub OnRefusal : Type 0 → Stop → Type 0
OnRefusal P Memory = ⊤
OnRefusal P (Refused reason) = P

-- some of the bytes lead to this line, and with the next one nothing is said
pub record IsStopped {S : Type 0} (formula : S → Formula) (old : LineParser S) (bytes : List ℕ)
    (line : ℕ) : Type 0 where
  pub front : List ℕ
  pub byte : ℕ
  pub rest : List ℕ
  pub all : bytes ≡ front ++ byte ∷ rest
  pub number : line ≡ line_on old.line front
  pub nothing : SaysNothing formula old.parser (front ++ byte ∷ [])
