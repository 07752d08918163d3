-- Binary texts and the lists that they write.
use Rattle.std.proofs.Common.{◌≡◌, ◌≢◌, ℕ, Bool, true, false, ◌==◌, List, [], ◌∷◌, ◌++◌, length, map, reverse, refl, ap, sym, ◌∙◌, arith, eqb-true}
use Rattle.std.specs.Prelude.{codes}
use Rattle.std.specs.List.{list_all}
use Rattle.std.specs.Str.{bytes_eq}
use Rattle.std.proofs.lemmas.Bool.{and_parts, false≢true}
use Rattle.std.proofs.lemmas.List.{map-append, length-map, reverse-append, reverse-reverse, length-reverse}
use Rattle.giputils_bits.specs.Text.{bit_glyph, binary_text, is_binary_digit, places_written, IsNoBinaryText}

-- the bit that a digit writes
abbrev pub is_one : ℕ → Bool
is_one digit = digit == 49

pub map-reverse : {X Y : Type 0} (f : X → Y) (xs : List X) → map f (reverse xs) ≡ reverse (map f xs)
map-reverse f [] = refl
map-reverse f (x ∷ xs) =
    ap (map f) (reverse-append (x ∷ []) xs) ∙ map-append f (reverse xs) (x ∷ []) ∙ ap (λ l. l ++ f x ∷ []) (map-reverse f xs)
    ∙ sym (reverse-append (f x ∷ []) (map f xs))

glyph-is_one : (digit : ℕ) → is_binary_digit digit ≡ true → bit_glyph (is_one digit) ≡ digit
glyph-is_one digit binary =
    elim (digit == 49) as (λ b. (digit == 49) ≡ b → bit_glyph b ≡ digit) [
      | true ↦ λ e. sym (eqb-true digit 49 e)
      | false ↦ λ e. grind arith
    ] refl

glyphs-are_ones : (text : List ℕ) → list_all is_binary_digit text ≡ true → map bit_glyph (map is_one text) ≡ text
glyphs-are_ones [] all = refl
glyphs-are_ones (digit ∷ text) all =
    let (first, others) = and_parts (is_binary_digit digit) (list_all is_binary_digit text) all in
    rw (glyph-is_one digit first, glyphs-are_ones text others) refl

is_one-glyph : (bits : List Bool) → map is_one (map bit_glyph bits) ≡ bits
is_one-glyph [] = refl
is_one-glyph (true ∷ bits) = ap (λ l. true ∷ l) (is_one-glyph bits)
is_one-glyph (false ∷ bits) = ap (λ l. false ∷ l) (is_one-glyph bits)

glyphs-are_binary : (bits : List Bool) → list_all is_binary_digit (map bit_glyph bits) ≡ true
glyphs-are_binary [] = refl
glyphs-are_binary (true ∷ bits) = glyphs-are_binary bits
glyphs-are_binary (false ∷ bits) = glyphs-are_binary bits

text_of_digits : (text : List ℕ) (bits : List Bool) → length text ≢ 0 → list_all is_binary_digit text ≡ true
    → places_written text ≡ bits → text ≡ binary_text bits
text_of_digits text [] some all e =
    absurd (omega (arith, some, ap length e, length-map (reverse text) is_one, length-reverse text))
text_of_digits text (b ∷ bits) some all e =
    sym (ap (λ l. map bit_glyph (reverse l)) (sym e) ∙ ap (λ l. map bit_glyph (reverse l)) (map-reverse is_one text)
    ∙ ap (map bit_glyph) (reverse-reverse (map is_one text)) ∙ glyphs-are_ones text all)

-- digits are the binary text of the places that they write
pub digits_are_text : (text : List ℕ) → length text ≢ 0 → list_all is_binary_digit text ≡ true → text ≡ binary_text (places_written text)
digits_are_text text some all = text_of_digits text (places_written text) some all refl

-- the binary text of a list that has a place has digits alone, which write the list
pub text_digits : (b : Bool) (bits : List Bool) → list_all is_binary_digit (binary_text (b ∷ bits)) ≡ true
text_digits b bits = glyphs-are_binary (reverse (b ∷ bits))

pub text_writes : (b : Bool) (bits : List Bool) → places_written (binary_text (b ∷ bits)) ≡ b ∷ bits
text_writes b bits = ap (map is_one) (sym (map-reverse bit_glyph (reverse (b ∷ bits)))) ∙ is_one-glyph (reverse (reverse (b ∷ bits))) ∙ reverse-reverse (b ∷ bits)

-- what is neither brackets nor digits alone is no text
pub no_text : (text : List ℕ) → bytes_eq text (codes "[]") ≡ false → list_all is_binary_digit text ≡ false → IsNoBinaryText text
no_text text other none [] e = false≢true (sym other ∙ ap (λ t. bytes_eq t (codes "[]")) e)
no_text text other none (b ∷ bits) e = false≢true (sym none ∙ ap (list_all is_binary_digit) e ∙ text_digits b bits)

pub no_empty_text : (text : List ℕ) → length text ≡ 0 → IsNoBinaryText text
no_empty_text text none [] e = absurd (omega (arith, none, ap length e))
no_empty_text text none (b ∷ bits) e =
    absurd (omega (arith, none, ap length e, length-map (reverse (b ∷ bits)) bit_glyph, length-reverse (b ∷ bits)))

-- bits that stand first are no brackets
pub no_brackets : (bits : List Bool) → bytes_eq (map bit_glyph bits) (codes "[]") ≡ false
no_brackets [] = refl
no_brackets (true ∷ bits) = refl
no_brackets (false ∷ bits) = refl
