-- Claims, and the numbers of properties, that are read one after the other, as a loop does.
use Rattle.std.proofs.Common.{◌≡◌, ℕ, Bool, true, false, List, [], ◌∷◌, ◌++◌, Option, Some, None, refl, sym, ap, ◌∙◌, append_assoc}
use Rattle.gipmc_aiger.specs.Prelude.{◌>>=◌, Claimed, behind_end, claim_of, claim_view, claims_from, claims_view, is_end, is_passed, places_of, properties_of}
use Rattle.std.proofs.lemmas.List.{map-append}
use Rattle.std.specs.Prelude.{◌==◌, if◌then◌else◌, length, not}
use Rattle.giputils_text.proofs.Pieces.{pieces-cons}
use Rattle.giputils_text.specs.Lines.{pieces}
use Rattle.gipmc_aiger.specs.declared.claims.Claim.{Claim}

-- what was read before, and what is still read
abbrev pub with_front : {X : Type 0} → List X → Option (List X) → Option (List X)
with_front front read = read >>= λ others. Some (front ++ others)

regroup : {X : Type 0} (front : List X) (x : X) (read : Option (List X))
    → with_front front (read >>= λ others. Some (x ∷ others)) ≡ with_front (front ++ x ∷ []) read
regroup {X} front x (Some others) = ap (λ (xs : List X). Some xs) (simp append_assoc)
regroup front x None = refl

-- a line that does not end an answer is passed over within it
pub within_more : (letter other latches inputs : ℕ) (line : List ℕ) (lines : List (List ℕ)) → is_end line ≡ false
    → claims_from letter other latches inputs true (line ∷ lines) ≡ claims_from letter other latches inputs true lines
within_more letter other latches inputs line lines more = ap (λ b. claims_from letter other latches inputs (not b) lines) more

by_end : (letter other latches inputs : ℕ) (line : List ℕ) (lines : List (List ℕ)) (b : Bool) → is_end line ≡ b
    → claims_from letter other latches inputs true lines ≡ claims_from letter other latches inputs false (behind_end lines)
    → claims_from letter other latches inputs true (line ∷ lines) ≡ claims_from letter other latches inputs false (behind_end (line ∷ lines))
by_end letter other latches inputs line lines true is same =
    ap (λ b. claims_from letter other latches inputs (not b) lines) is
    ∙ sym (ap (λ b. claims_from letter other latches inputs false (if b then lines else behind_end lines)) is)
by_end letter other latches inputs line lines false is same =
    ap (λ b. claims_from letter other latches inputs (not b) lines) is ∙ same
    ∙ sym (ap (λ b. claims_from letter other latches inputs false (if b then lines else behind_end lines)) is)

-- within an answer the claims are those behind its end
within_end : (letter other latches inputs : ℕ) (lines : List (List ℕ))
    → claims_from letter other latches inputs true lines ≡ claims_from letter other latches inputs false (behind_end lines)
within_end letter other latches inputs [] = refl
within_end letter other latches inputs (line ∷ lines) =
    by_end letter other latches inputs line lines (is_end line) refl (within_end letter other latches inputs lines)

-- one claim more
pub claims_view-more : (old new : List Claim) (claim : Claim) → new ≡ old ++ claim ∷ []
    → claims_view new ≡ claims_view old ++ claim_view claim ∷ []
claims_view-more old new claim same = rw same (map-append claim_view old (claim ∷ []))

-- the properties that a line names behind an empty piece
pub properties-behind : (letter : ℕ) (line front words : List ℕ) → pieces letter line ≡ front ∷ pieces letter words
    → (length front == 0) ≡ true → properties_of letter line ≡ places_of (pieces letter words)
properties-behind letter line front words parts empty =
    let (word, more, same) = pieces-cons letter words in
    rw (parts, same, empty) refl

module _ (front : List Claimed) (letter other latches inputs : ℕ) (lines : List (List ℕ)) (total : Option (List Claimed))
    (so_far : with_front front (claims_from letter other latches inputs false lines) ≡ total) (line : List ℕ) (after rest : List (List ℕ))
    (first : lines ≡ line ∷ after) (behind : rest ≡ behind_end after) where
  pub passes : is_passed other line after ≡ true → with_front front (claims_from letter other latches inputs false rest) ≡ total
  passes passed =
      let one : with_front front (claims_from letter other latches inputs false lines)
      ≡ with_front front (claims_from letter other latches inputs false rest) =
      rw (first, passed, within_end letter other latches inputs after, behind) refl in
      sym one ∙ so_far

  pub goes_on : (claim : Claimed) → is_passed other line after ≡ false → claim_of letter latches inputs lines ≡ Some claim
      → with_front (front ++ claim ∷ []) (claims_from letter other latches inputs false rest) ≡ total
  goes_on claim more h =
      let here = rw first at h in
      let one : with_front front (claims_from letter other latches inputs false lines)
      ≡ with_front (front ++ claim ∷ []) (claims_from letter other latches inputs false rest) =
      rw (first, more, here, within_end letter other latches inputs after, behind)
      (regroup front claim (claims_from letter other latches inputs false (behind_end after))) in
      sym one ∙ so_far
