-- Which clauses stay, by flags.
use Rattle.std.proofs.Common.{◌≡◌, ℕ, ◌+◌, ◌<◌, ◌≤◌, List, length, set, arith, ⊎_elim, Bool, true, false, ap, sym, ◌∙◌}
use Rattle.std.specs.Prelude.{slice_index_or}
use Rattle.std.proofs.lemmas.Bool.{false≢true, cases_eq, cases_lt}
use Rattle.std.proofs.lemmas.List.{get_or-set_same, get_or-set_other, get_or_past}
use Rattle.gipsat_kernel.specs.Kernel.{OriginalStay}

-- of the first clauses, each original one stays
abbrev pub FirstStay : List Bool → List Bool → ℕ → Type 0
FirstStay flags stays i = (k : ℕ) → k < i → slice_index_or flags k false ≡ true → slice_index_or stays k true ≡ true

pub FirstStay-none : (flags stays : List Bool) → FirstStay flags stays 0
FirstStay-none flags stays k less flagged = absurd (omega (arith, less))

pub FirstStay-derived : (flags stays : List Bool) (i : ℕ) → slice_index_or flags i false ≡ false → FirstStay flags stays i
    → FirstStay flags stays (i + 1)
FirstStay-derived flags stays i derived is k less flagged =
    ⊎_elim (λ earlier. is k earlier flagged)
    (λ later.
    let same : k ≡ i = omega (arith, less, later) in
    absurd (false≢true (sym derived ∙ ap (λ p. slice_index_or flags p false) (sym same) ∙ flagged)))
    (cases_lt k i)

pub FirstStay-set : (flags stays : List Bool) (i : ℕ) → i < length stays → FirstStay flags stays i → FirstStay flags (set stays i true) (i + 1)
FirstStay-set flags stays i within is k less flagged =
    ⊎_elim (λ same. ap (λ p. slice_index_or (set stays i true) p true) same ∙ get_or-set_same stays i true true within)
    (λ other. get_or-set_other stays i k true true other ∙ is k (below k other less) flagged)
    (cases_eq k i)
  where
    below : (k : ℕ) → (k ≡ i → ⊥) → k < i + 1 → k < i
    below k other less = ⊎_elim (λ earlier. earlier) (λ later. absurd (other (omega (arith, less, later)))) (cases_lt k i)

pub OriginalStay-all : (flags stays : List Bool) (i : ℕ) → length stays ≤ i → FirstStay flags stays i → OriginalStay flags stays
OriginalStay-all flags stays i all is k flagged =
    ⊎_elim (λ within. is k (omega (arith, within, all)) flagged) (λ past. get_or_past stays k true past) (cases_lt k (length stays))
