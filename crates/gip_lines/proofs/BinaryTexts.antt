-- A line of bits is their binary text.
use Rattle.std.proofs.Common.{◌≡◌, ◌≢◌, ℕ, Bool, true, false, cond, List, [], ◌∷◌, length, reverse, map, refl, ap, sym, ◌∙◌, arith, Option, Some, None, ltb-true}
use Rattle.std.specs.Prelude.{◌&&◌, nat_lt, codes, MatchOption}
use Rattle.std.specs.List.{list_all}
use Rattle.std.specs.Str.{bytes_eq}
use Rattle.std.proofs.lemmas.Bool.{and_parts}
use Rattle.std.proofs.lemmas.List.{length-map, length-reverse}
use Rattle.std.proofs.lemmas.Slice.Eq.{bytes_eq-Decides}
use Rattle.giputils_bits.specs.Text.{bit_glyph, binary_text, is_binary_digit, IsNoBinaryText}
use Rattle.giputils_bits.proofs.BinaryTexts.{is_one, digits_are_text, text_digits, text_writes, no_brackets}
use Rattle.gip_lines.specs.Vectors.Lines.{bits_of_line}
use Rattle.gip_lines.specs.Vectors.Replies.{LinesAreBinaryTexts}

some_digit : (b : Bool) (bits : List Bool) → nat_lt 0 (length (binary_text (b ∷ bits))) ≡ true
some_digit b bits = grind (arith, length-map (reverse (b ∷ bits)) bit_glyph, length-reverse (b ∷ bits))

bits_of_text : (bits : List Bool) → bits_of_line (binary_text bits) ≡ Some bits
bits_of_text [] = refl
bits_of_text (b ∷ bits) = rw (no_brackets (reverse (b ∷ bits)), some_digit b bits, text_digits b bits) (ap Some (text_writes b bits))

line_writes : (line : List ℕ) (bits : List Bool) → bits_of_line line ≡ Some bits → line ≡ binary_text bits
line_writes line bits e =
    let by_case : (brackets digits : Bool) → bytes_eq line (codes "[]") ≡ brackets → (nat_lt 0 (length line) && list_all is_binary_digit line) ≡ digits
    → cond brackets (Some []) (cond digits (Some (map is_one (reverse line))) None) ≡ Some bits → line ≡ binary_text bits =
    λ brackets digits. elim brackets as (λ b. bytes_eq line (codes "[]") ≡ b → (nat_lt 0 (length line) && list_all is_binary_digit line) ≡ digits
    → cond b (Some []) (cond digits (Some (map is_one (reverse line))) None) ≡ Some bits → line ≡ binary_text bits) [
      | true ↦ λ same _ f.
          let none : bits ≡ [] = cc in
          rw none ((bytes_eq-Decides line (codes "[]")).0 same)
      | false ↦ elim digits as (λ d. bytes_eq line (codes "[]") ≡ false → (nat_lt 0 (length line) && list_all is_binary_digit line) ≡ d
          → cond d (Some (map is_one (reverse line))) None ≡ Some bits → line ≡ binary_text bits) [
            | true ↦ λ _ all f.
                let (some, every) = and_parts (nat_lt 0 (length line)) (list_all is_binary_digit line) all in
                let same : map is_one (reverse line) ≡ bits = cc in
                let not_empty : length line ≢ 0 = λ none. absurd (omega (arith, ltb-true 0 (length line) some, none)) in
                digits_are_text line not_empty every ∙ ap binary_text same
            | false ↦ λ _ _ f. cc
          ]
    ] in
    by_case (bytes_eq line (codes "[]")) (nat_lt 0 (length line) && list_all is_binary_digit line) refl refl e

pub lines_are_binary_texts : LinesAreBinaryTexts
lines_are_binary_texts line bits = (line_writes line bits, λ e. rw e (bits_of_text bits))

-- what a read of binary text tells is what a line writes
pub read_is_form : (line : List ℕ) (said : Option (List Bool)) → MatchOption said (IsNoBinaryText line) (λ bits. line ≡ binary_text bits) → said ≡ bits_of_line line
read_is_form line (Some bits) is = sym (ap bits_of_line is ∙ bits_of_text bits)
read_is_form line None no_text =
    elim (bits_of_line line) as (λ said. bits_of_line line ≡ said → None ≡ said) [
      | None ↦ λ _. refl
      | Some bits ↦ λ e. absurd (no_text bits (line_writes line bits e))
    ] refl
