-- Clauses in texts of the DIMACS form: what their words say, and how a clause is written.
use Rattle.std.specs.Prelude.{ℕ, ◌+◌, ◌-◌, ◌==◌, ◌&&◌, Bool, true, false, List, [], ◌∷◌, ◌++◌, length, drop, nat_lt, nat_le, slice_index, if◌then◌else◌, codes, decimal, Option, Some, None}
use Rattle.std.specs.Option.{option_map, option_and_then}
use Rattle.std.specs.Str.{all_ascii_digits, byte, bytes_eq}
use Rattle.std.specs.Str.Parse.{digits_value}
use Rattle.gipsat_cnf.specs.Formulas.{Clause}
use Rattle.gipsat_cnf.specs.Literals.{Lit}
use Rattle.gipsat_cnf.specs.declared.dimacs.Item.{Item}
use Rattle.gipsat_cnf.specs.declared.dimacs.Item.TheVariants.{Literal, End}

-- some bytes in a row
abbrev pub Word : Type 0
Word = List ℕ

-- the greatest number that a text may name
abbrev pub greatest_number : ℕ
greatest_number = 2147483647

-- the number that a word of decimal digits writes, up to the greatest
abbrev pub number_of : Word → Option ℕ
number_of word =
    if nat_lt 0 (length word) && all_ascii_digits word && nat_le (digits_value 10 word) greatest_number
    then Some (digits_value 10 word) else None

-- variable n of a text that has so many, or its negation; the formula counts its variables from 0
abbrev pub literal_of : ℕ → Bool → ℕ → Option Item
literal_of variables positive n =
    if nat_le n variables then Some (Literal (record { variable = n - 1; positive = positive })) else None

-- what a number with this sign says: 0 ends a clause, any other is a literal
abbrev pub signed_item : ℕ → Bool → ℕ → Option Item
signed_item variables positive n = if n == 0 then Some End else literal_of variables positive n

-- the word begins with this byte
abbrev pub begins : ℕ → Word → Bool
begins byte word = slice_index word 0 == byte

-- a minus, which stands before a negation
abbrev pub minus : ℕ
minus = byte "-"

-- what a word of a clause says, where there are so many variables: a number, or a minus and a number
abbrev pub item_of : ℕ → Word → Option Item
item_of variables word =
    if begins minus word
    then option_and_then (signed_item variables false) (number_of (drop 1 word))
    else option_and_then (signed_item variables true) (number_of word)

-- the numbers of variables and of clauses that the words of a header name: `p cnf VARIABLES CLAUSES`
abbrev pub header_of : List Word → Option (ℕ × ℕ)
header_of (p ∷ cnf ∷ variables ∷ clauses ∷ []) =
    if bytes_eq p (codes "p") && bytes_eq cnf (codes "cnf")
    then option_and_then (λ v. option_map (λ n. (v, n)) (number_of clauses)) (number_of variables) else None
header_of words = None

-- the literal of a variable that has this value: variable k of a formula is k + 1 in a text
abbrev pub literal_word : Bool → ℕ → Word
literal_word value k = if value then decimal (k + 1) else byte "-" ∷ decimal (k + 1)

-- a literal in a text, and a space behind it
abbrev pub literal_text : Lit → List ℕ
literal_text l = literal_word l.positive l.variable ++ codes " "

-- a clause in a line, with a 0 behind its literals
abbrev pub clause_line : Clause → List ℕ
clause_line [] = codes "0\n"
clause_line (l ∷ clause) = literal_text l ++ clause_line clause
