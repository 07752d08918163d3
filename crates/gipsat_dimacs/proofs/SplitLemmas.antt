-- The words and lines of a text from its front.
use Rattle.std.proofs.Common.{◌≡◌, ◌∷◌, [], ◌++◌, ℕ, Bool, true, false, cond, List, map, refl, ap, ◌∙◌, arith, append-nil, get_or, length, nat_lt}
use Rattle.std.proofs.lemmas.List.Splits.{slice_split-cons_no, slice_split_none, slice_split_at}
use Rattle.std.proofs.lemmas.List.Elements.{All-head, All-tail}
use Rattle.std.specs.List.{All, AllPass, slice_split, onto_first}
use Rattle.std.specs.Prelude.{filter}
use Rattle.gipsat_dimacs.specs.Texts.{Word, ends_line, is_blank, words, word_lines, with_word}
use Rattle.gipsat_dimacs.specs.Parsers.{is_word_byte}

-- there is a first part
pub slice_split-first : {X : Type 0} (p : X → Bool) (xs : List X)
    → (first : List X) × (more : List (List X)) × (slice_split p xs ≡ first ∷ more)
slice_split-first p [] = ([], [], refl)
slice_split-first {X} p (x ∷ xs) =
    let (first, more, e) = slice_split-first p xs in
    elim (p x) as
    (λ v. (f : List X) × (m : List (List X)) ×
    (cond v ([] ∷ slice_split p xs) (onto_first x (slice_split p xs)) ≡ f ∷ m)) [
      | true ↦ ([], slice_split p xs, refl)
      | false ↦ (x ∷ first, more, ap (onto_first x) e)
    ]

-- what does not split goes into the first part
pub slice_split-front : {X : Type 0} (p : X → Bool) (xs ys first : List X) (more : List (List X))
    → All (λ x. p x ≡ false) xs
    → slice_split p ys ≡ first ∷ more → slice_split p (xs ++ ys) ≡ (xs ++ first) ∷ more
slice_split-front p [] ys first more h e = e
slice_split-front p (x ∷ xs) ys first more h e =
    slice_split-cons_no p x (xs ++ ys) (All-head (λ y. p y ≡ false) x xs h)
    ∙ ap (onto_first x) (slice_split-front p xs ys first more (All-tail (λ y. p y ≡ false) x xs h) e)

-- a byte of a word ends no word and no line
in_no_blank : (byte : ℕ) → is_word_byte byte ≡ true → is_blank byte ≡ false
in_no_blank byte e = grind arith

in_line : (byte : ℕ) → is_word_byte byte ≡ true → ends_line byte ≡ false
in_line byte e = grind arith

blank_in_line : (byte : ℕ) → is_blank byte ≡ true → ends_line byte ≡ false
blank_in_line byte e = grind arith

-- the parts that are words
abbrev kept : List Word → List Word
kept parts = filter (λ word. nat_lt 0 (length word)) parts

kept-word : (word : Word) (parts : List Word) → kept (word ∷ parts) ≡ with_word word (kept parts)
kept-word [] parts = refl
kept-word (byte ∷ word) parts = grind arith

with_word-cons : (word : Word) (byte : ℕ) (rest : Word) (words : List Word)
    → with_word (word ++ byte ∷ rest) words ≡ (word ++ byte ∷ rest) ∷ words
with_word-cons [] byte rest words = refl
with_word-cons (first ∷ word) byte rest words = refl

module _ (word : Word) (plain : AllPass is_word_byte word) where
  no_blank : All (λ x. is_blank x ≡ false) word
  no_blank k d within = in_no_blank (get_or word k d) (plain k d within)

  no_end : All (λ x. ends_line x ≡ false) word
  no_end k d within = in_line (get_or word k d) (plain k d within)

  -- the words of a line that ends after a word
  pub words-end : words word ≡ with_word word []
  words-end = ap kept (slice_split_none is_blank word no_blank) ∙ kept-word word []

  -- a blank ends the word
  pub words-blank : (byte : ℕ) (line : List ℕ) → is_blank byte ≡ true
      → words (word ++ byte ∷ line) ≡ with_word word (words line)
  words-blank byte line blank =
      ap kept (slice_split_at is_blank word byte line no_blank blank) ∙ kept-word word (slice_split is_blank line)

  -- a line ends after the word
  pub word_lines-end : (rest : List ℕ) → word_lines (word ++ 10 ∷ rest) ≡ with_word word [] ∷ word_lines rest
  word_lines-end rest =
      ap (map words) (slice_split_at ends_line word 10 rest no_end refl) ∙ ap (λ line. line ∷ word_lines rest) words-end

  -- so does the text
  pub word_lines-last : word_lines (word ++ []) ≡ with_word word [] ∷ []
  word_lines-last =
      ap word_lines (append-nil word) ∙ ap (map words) (slice_split_none ends_line word no_end)
      ∙ ap (λ line. line ∷ []) words-end

  -- a blank ends it within the line
  pub word_lines-blank : (byte : ℕ) (rest : List ℕ) → is_blank byte ≡ true
      → (line : List Word) × (lines : List (List Word)) × (word_lines rest ≡ line ∷ lines)
      × (word_lines (word ++ byte ∷ rest) ≡ with_word word line ∷ lines)
  word_lines-blank byte rest blank =
      let (first, more, e) = slice_split-first ends_line rest in
      let after : slice_split ends_line (byte ∷ rest) ≡ (byte ∷ first) ∷ more =
      slice_split-cons_no ends_line byte rest (blank_in_line byte blank) ∙ ap (onto_first byte) e in
      let all = slice_split-front ends_line word (byte ∷ rest) (byte ∷ first) more no_end after in (
        words first,
        map words more,
        ap (map words) e,
        ap (map words) all
            ∙ ap (λ line. line ∷ map words more) (words-blank byte first blank),
      )

-- the lines after the first are the same, whatever stands in the first
pub word_lines-more : (byte : ℕ) (rest : List ℕ) → ends_line byte ≡ false
    → (line : List Word) × (first : List Word) × (lines : List (List Word)) × (word_lines rest ≡ line ∷ lines)
    × (word_lines (byte ∷ rest) ≡ first ∷ lines)
word_lines-more byte rest other =
    let (first, more, e) = slice_split-first ends_line rest in
    let after : slice_split ends_line (byte ∷ rest) ≡ (byte ∷ first) ∷ more =
    slice_split-cons_no ends_line byte rest other ∙ ap (onto_first byte) e in
    (words first, words (byte ∷ first), map words more, ap (map words) e, ap (map words) after)

-- a byte of a word that stands behind some of a word belongs to it
words-cons : (word : Word) (byte : ℕ) (line : List ℕ) → AllPass is_word_byte word → is_blank byte ≡ false
    → (rest : Word) × (more : List Word) × (words (word ++ byte ∷ line) ≡ (word ++ byte ∷ rest) ∷ more)
words-cons word byte line plain other =
    let (first, more, e) = slice_split-first is_blank line in
    let after : slice_split is_blank (byte ∷ line) ≡ (byte ∷ first) ∷ more =
    slice_split-cons_no is_blank byte line other ∙ ap (onto_first byte) e in
    let all = slice_split-front is_blank word (byte ∷ line) (byte ∷ first) more (no_blank word plain) after in
    (first, kept more, ap kept all ∙ kept-word (word ++ byte ∷ first) more ∙ with_word-cons word byte first (kept more))

pub word_lines-cons : (word : Word) (byte : ℕ) (rest : List ℕ) → AllPass is_word_byte word → is_word_byte byte ≡ true
    → (line : List Word) × (end : Word) × (words : List Word) × (lines : List (List Word))
    × (word_lines rest ≡ line ∷ lines)
    × (word_lines (word ++ byte ∷ rest) ≡ ((word ++ byte ∷ end) ∷ words) ∷ lines)
word_lines-cons word byte rest plain in_word =
    let (first, more, e) = slice_split-first ends_line rest in
    let after : slice_split ends_line (byte ∷ rest) ≡ (byte ∷ first) ∷ more =
    slice_split-cons_no ends_line byte rest (in_line byte in_word) ∙ ap (onto_first byte) e in
    let all = slice_split-front ends_line word (byte ∷ rest) (byte ∷ first) more (no_end word plain) after in
    let (end, others, f) = words-cons word byte first plain (in_no_blank byte in_word) in (
      words first,
      end,
      others,
      map words more,
      ap (map words) e,
      ap (map words) all
          ∙ ap (λ line. line ∷ map words more) f,
    )

pub word_lines-first : (rest : List ℕ) → (line : List Word) × (lines : List (List Word))
    × (word_lines rest ≡ line ∷ lines)
word_lines-first rest =
    let (first, more, e) = slice_split-first ends_line rest in
    (words first, map words more, ap (map words) e)
