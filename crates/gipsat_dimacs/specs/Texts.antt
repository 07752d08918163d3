-- What a text in the DIMACS form says.
use Rattle.std.specs.Prelude.{◌≡◌, ℕ, ◌+◌, ◌-◌, ◌^◌, min, max, ◌==◌, ◌||◌, Bool, true, false, not, List, [], ◌∷◌, ◌++◌, length, filter, map, nat_lt, if◌then◌else◌, Option, Some, None}
use Rattle.std.specs.List.{list_any, slice_split}
use Rattle.std.specs.Option.{option_map, option_and_then}
use Rattle.std.specs.Str.{byte}
use Rattle.giputils_text.specs.Lines.{line_feed, pieces}
use Rattle.gipsat_cnf.specs.Formulas.{Clause, Formula}
pub use Rattle.gipsat_cnf.specs.Dimacs.{Word, greatest_number, number_of, literal_of, signed_item, begins, minus, item_of, header_of}
use Rattle.gipsat_dimacs.specs.declared.rule.HeaderRule.{HeaderRule}
use Rattle.gipsat_dimacs.specs.declared.rule.HeaderRule.TheVariants.{Strict, Relaxed}
use Rattle.gipsat_cnf.specs.declared.dimacs.Item.{Item}
use Rattle.gipsat_cnf.specs.declared.dimacs.Item.TheVariants.{Literal, End}

-- a formula, and how many variables its text has
pub record Problem : Type 0 where
  pub variables : ℕ
  pub clauses : Formula

-- the byte ends a line
abbrev pub ends_line : ℕ → Bool
ends_line byte = byte == line_feed

-- the byte stands between words: a space, a tab, a vertical tab, a form feed or a carriage return
abbrev pub is_blank : ℕ → Bool
is_blank byte = (byte == 32) || (byte == 9) || (byte == 11) || (byte == 12) || (byte == 13)

-- the words of a line: what stands between its blanks
abbrev pub words : List ℕ → List Word
words line = filter (λ word. nat_lt 0 (length word)) (slice_split is_blank line)

-- a `c`, with which a comment begins
abbrev pub comment_byte : ℕ
comment_byte = byte "c"

-- a `%`, which ends a text where a line begins with it
abbrev pub end_byte : ℕ
end_byte = byte "%"

-- a line with these words says something: it is not empty, and not a comment from its first word on
abbrev pub says : List Word → Bool
says [] = false
says (word ∷ more) = not (begins comment_byte word)

-- a line with these words ends the text, and is no part of it
abbrev pub ends_text : List Word → Bool
ends_text [] = false
ends_text (word ∷ more) = begins end_byte word

-- a comment begins in the word: it has a `c`
abbrev pub has_comment : Word → Bool
has_comment word = list_any (λ byte. byte == comment_byte) word

-- the bytes of a word before its first `c`
abbrev pub before_comment : Word → Word
before_comment [] = []
before_comment (byte ∷ word) = if byte == comment_byte then [] else byte ∷ before_comment word

-- some words with one before them, if it has a byte
abbrev pub with_word : Word → List Word → List Word
with_word [] words = words
with_word (byte ∷ word) words = (byte ∷ word) ∷ words

-- the words of a line before its comment, which the first `c` begins, wherever it stands in a word
abbrev pub uncommented : List Word → List Word
uncommented [] = []
uncommented (word ∷ more) = if has_comment word then with_word (before_comment word) [] else word ∷ uncommented more

-- the words of the clauses that these lines write
abbrev pub clause_words : List (List Word) → List Word
clause_words [] = []
clause_words (line ∷ lines) = if ends_text line then [] else uncommented line ++ clause_words lines

-- the words of each line of a text
abbrev pub word_lines : List ℕ → List (List Word)
word_lines text = map words (pieces line_feed text)

-- the greatest variable that a clause may name, where the header names so many
abbrev pub variable_limit : HeaderRule → ℕ → ℕ
variable_limit Strict variables = variables
variable_limit Relaxed variables = greatest_number

-- the clauses that some items write, each of which has its end; the literals of `begun` stand before them
abbrev pub clauses_after : Clause → List (Option Item) → Option Formula
clauses_after begun [] = if length begun == 0 then Some [] else None
clauses_after begun (None ∷ items) = None
clauses_after begun (Some (Literal l) ∷ items) = clauses_after (begun ++ l ∷ []) items
clauses_after begun (Some End ∷ items) = option_map (λ clauses. begun ∷ clauses) (clauses_after [] items)

-- how many variables there are: so many, or more where one of these items names a greater one
abbrev pub variables_with : ℕ → List (Option Item) → ℕ
variables_with variables [] = variables
variables_with variables (None ∷ items) = variables_with variables items
variables_with variables (Some (Literal l) ∷ items) = variables_with (max variables (l.variable + 1)) items
variables_with variables (Some End ∷ items) = variables_with variables items

-- the problem of these clauses after a header of so many variables and clauses, where there are `found` variables
abbrev pub problem_with : HeaderRule → ℕ → ℕ → ℕ → Formula → Option Problem
problem_with Strict variables count found clauses =
    if length clauses == count then Some (record { variables = variables; clauses = clauses }) else None
problem_with Relaxed variables count found clauses = Some (record { variables = found; clauses = clauses })

-- the problem that some items write after such a header
abbrev pub problem_of_items : HeaderRule → ℕ → ℕ → List (Option Item) → Option Problem
problem_of_items rule variables count items =
    option_and_then (λ clauses. problem_with rule variables count (variables_with variables items) clauses)
    (clauses_after [] items)

-- the problem that some words write after a header
abbrev pub problem_after : HeaderRule → List Word → Option (ℕ × ℕ) → Option Problem
problem_after rule words None = None
problem_after rule words (Some (variables, count)) =
    problem_of_items rule variables count (map (item_of (variable_limit rule variables)) words)

-- a `p`, with which a header begins
abbrev pub header_byte : ℕ
header_byte = byte "p"

-- this first line that says something is taken as a header: each one is where the counts hold, else one that begins so
abbrev pub is_header : HeaderRule → List Word → Bool
is_header Strict line = true
is_header Relaxed [] = false
is_header Relaxed (word ∷ more) = begins header_byte word

-- a header of these words goes on in the next line: it has `p cnf` or `p cnf VARIABLES`, and no more
abbrev pub goes_on : List Word → Bool
goes_on (p ∷ cnf ∷ []) = true
goes_on (p ∷ cnf ∷ variables ∷ []) = true
goes_on words = false

-- the problem that a header, of which these words have been read, and the lines after them write
abbrev pub problem_headed : HeaderRule → List Word → List (List Word) → Option Problem
problem_headed rule header [] = problem_after rule [] (header_of header)
problem_headed rule header (line ∷ lines) =
    if goes_on header then problem_headed rule (header ++ line) lines
    else problem_after rule (clause_words (line ∷ lines)) (header_of header)

-- the problem that a first line that says something and those after it write; no header is one of no counts
abbrev pub problem_begun : HeaderRule → List Word → List (List Word) → Option Problem
problem_begun rule line lines =
    if is_header rule line then problem_headed rule line lines
    else problem_after rule (clause_words (line ∷ lines)) (Some (0, 0))

-- the problem that some lines write: lines that say nothing may stand before the first that says something
abbrev pub problem_in : HeaderRule → List (List Word) → Option Problem
problem_in rule [] = problem_begun rule [] []
problem_in rule (line ∷ lines) = if says line then problem_begun rule line lines else problem_in rule lines

-- the problem that a text writes by a rule, if it has the form
abbrev pub problem_by : HeaderRule → List ℕ → Option Problem
problem_by rule text = problem_in rule (word_lines text)

-- the problem that a text writes where the counts of its header hold
abbrev pub problem_of : List ℕ → Option Problem
problem_of text = problem_by Strict text

-- the number of the line after a byte: a line end leads to the next one, as far as numbers go
abbrev pub line_after : ℕ → ℕ → ℕ
line_after line byte = if ends_line byte then min (line + 1) (2 ^ 64 - 1) else line

-- the number of the line after some bytes
abbrev pub line_on : ℕ → List ℕ → ℕ
line_on line [] = line
line_on line (byte ∷ bytes) = line_on (line_after line byte) bytes

-- no text that goes on with the same byte after `front` has the form; or `front` is all of it, and has not the form
abbrev pub IsRefusedAfter : HeaderRule → List ℕ → List ℕ → Type 0
IsRefusedAfter rule front [] = problem_by rule front ≡ None
IsRefusedAfter rule front (byte ∷ rest) = (more : List ℕ) → problem_by rule (front ++ byte ∷ more) ≡ None

-- a text is refused after some of its bytes, which lead to the line of this number; lines count from 1
abbrev pub IsRefusedBy : HeaderRule → List ℕ → ℕ → Type 0
IsRefusedBy rule text line =
    (front : List ℕ) × (rest : List ℕ) × (text ≡ front ++ rest) × (line ≡ line_on 1 front)
    × IsRefusedAfter rule front rest
