-- What the lines of a text say, as far as they have been read.
use Rattle.std.proofs.Common.{◌≡◌, ℕ, ◌+◌, List, [], ◌∷◌, ◌++◌, length, map, refl, ap, ◌∙◌, arith, Option, Some, None, is_none, is_some, true, not, length-append, ◌<◌, cond, nat_lt}
use Rattle.std.proofs.lemmas.List.{length-map}
use Rattle.std.specs.Option.{option_map}
use Rattle.std.specs.List.{position, prefix_len, filter_map, list_all}
use Rattle.gip_lines.specs.Texts.{readings, first_other, said_in, HasForm}
use Rattle.giputils_text.specs.Lines.{text_lines}

module _ {L : Type 0} where
  -- the line after some lines of the form has another one
  prefix_of_some : (lines : List L) (more : List (Option L)) → prefix_len (λ x. not (is_none x)) (map Some lines ++ None ∷ more) ≡ length lines
  prefix_of_some [] more = refl
  prefix_of_some (line ∷ lines) more = omega (arith, prefix_of_some lines more)

  -- all lines have the form, and say this
  all_some : (lines : List L) → list_all is_some (map Some lines) ≡ true
  all_some [] = refl
  all_some (line ∷ lines) = all_some lines

  -- what they say is all that there is to say
  filter_map_some : (lines : List L) → filter_map (λ reading. reading) (map Some lines) ≡ lines
  filter_map_some [] = refl
  filter_map_some (line ∷ lines) = ap (λ more. line ∷ more) (filter_map_some lines)

-- a first place is the one that is found
found : (n m len : ℕ) → n ≡ m → m < len → ◌≡◌ {A = Option ℕ} (cond (nat_lt n len) (Some n) None) (Some m)
found n m len e within = grind arith

-- the first line of another form stands after those of the form
position_none : {L : Type 0} (lines : List L) (more : List (Option L)) → position is_none (map Some lines ++ None ∷ more) ≡ Some (length lines)
position_none {L} lines more =
    let all : List (Option L) = map Some lines ++ None ∷ more in
    let within : length lines < length all = omega (arith, length-append (map Some lines) (None ∷ more), length-map lines (λ line. Some line)) in
    found _ _ _ (prefix_of_some lines more) within

module _ {L : Type 0} (form : List ℕ → Option L) where
  -- so it is the first other line of the text
  pub first_other-at : (text rest line after : List ℕ) (lines : List L)
      → readings form text ≡ map Some lines ++ readings form rest → text_lines rest ≡ line ∷ text_lines after → form line ≡ None
      → first_other form text ≡ Some (length lines + 1)
  first_other-at text rest line after lines e f h =
      let reading : readings form rest ≡ None ∷ readings form after = ap (map form) f ∙ ap (λ o. o ∷ readings form after) h in
      let all : readings form text ≡ map Some lines ++ None ∷ readings form after = e ∙ ap (λ r. map Some lines ++ r) reading in
      ap (λ r. option_map (λ i. i + 1) (position is_none r)) all ∙ ap (option_map (λ i. i + 1)) (position_none lines (readings form after))

  pub HasForm-read : (text : List ℕ) (lines : List L) → readings form text ≡ map Some lines → HasForm form text
  HasForm-read text lines e = ap (list_all is_some) e ∙ all_some lines

  pub said_in-read : (text : List ℕ) (lines : List L) → readings form text ≡ map Some lines → said_in form text ≡ lines
  said_in-read text lines e = ap (filter_map (λ reading. reading)) e ∙ filter_map_some lines
