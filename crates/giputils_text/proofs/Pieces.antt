-- The pieces of a text from its front.
use Rattle.std.proofs.Common.{◌≡◌, ◌<◌, ◌≤◌, ◌∷◌, [], length, ℕ, ◌+◌, ◌==◌, Bool, true, false, cond, List, take, drop, refl, ap, sym, subst, arith, Some, None, Option, nat_lt}
use Rattle.std.proofs.lemmas.List.Elements.{All-from_get_or}
use Rattle.std.proofs.lemmas.List.Splits.{slice_split_first, slice_split_none}
use Rattle.std.proofs.lemmas.List.Sums.{fails_before_first, position_or_len_is}
use Rattle.std.proofs.lemmas.List.Quantifiers.{position-Some}
use Rattle.std.specs.List.{onto_first, position, position_or_len}
use Rattle.giputils_text.specs.Lines.{line_feed, pieces, text_lines}

-- a text has a first piece
pub pieces-cons : (byte : ℕ) (text : List ℕ) → (first : List ℕ) × (more : List (List ℕ)) × (pieces byte text ≡ first ∷ more)
pieces-cons byte [] = ([], [], refl)
pieces-cons byte (b ∷ bs) =
    let (first, more, e) = pieces-cons byte bs in
    elim (b == byte) as (λ v. (f : List ℕ) × (m : List (List ℕ)) × (cond v ([] ∷ pieces byte bs) (onto_first b (pieces byte bs)) ≡ f ∷ m)) [
      | true ↦ ([], pieces byte bs, refl)
      | false ↦ (b ∷ first, more, ap (onto_first b) e)
    ]

-- where the byte stands first at a place, a piece ends there
pub pieces-at : (byte : ℕ) (text : List ℕ) (at : ℕ) → position (λ b. b == byte) text ≡ Some at → pieces byte text ≡ take at text ∷ pieces byte (drop (at + 1) text)
pieces-at byte text at e =
    let p : ℕ → Bool = λ b. b == byte in
    let (within, here, before) = position-Some p text at 0 e in
    let same : position_or_len p text ≡ at = position_or_len_is p text at 0 (omega arith) before (λ _. here) in
    subst (λ k. pieces byte text ≡ take k text ∷ pieces byte (drop (k + 1) text)) same (slice_split_first p text 0 (subst (λ k. k < length text) (sym same) within))

-- a first place that is none is past the end
past_from_none : (n len : ℕ) → ◌≡◌ {A = Option ℕ} (cond (nat_lt n len) (Some n) None) None → len ≤ n
past_from_none n len e = grind arith

-- where the byte stands nowhere, the text is one piece
pub pieces-none : (byte : ℕ) (text : List ℕ) → position (λ b. b == byte) text ≡ None → pieces byte text ≡ text ∷ []
pieces-none byte text e =
    let p : ℕ → Bool = λ b. b == byte in
    let past : length text ≤ position_or_len p text = past_from_none _ _ e in
    slice_split_none p text (All-from_get_or (λ x. p x ≡ false) text 0 (λ k within. fails_before_first p text k 0 (omega arith)))

-- a text with some byte begins with its first piece as a line, where a line feed ends it
pub text_lines-at : (text line rest : List ℕ) → pieces line_feed text ≡ line ∷ pieces line_feed rest → text_lines text ≡ line ∷ text_lines rest
text_lines-at text line rest e =
    let (first, more, f) = pieces-cons line_feed rest in
    rw (e, f) refl
