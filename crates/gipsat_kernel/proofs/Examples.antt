-- Worked examples of the definitions: accepted and refused ones.
use Rattle.std.proofs.Common.{◌≡◌, ℕ, List, true, false, [], ◌∷◌, refl, zero}
use Rattle.std.proofs.lemmas.Bool.{false≢true}
use Rattle.gipsat_cnf.specs.Literals.{Lit}
use Rattle.gipsat_kernel.specs.Kernel.{OriginalStay, original_among}
use Rattle.gipsat_kernel.specs.Marks.{is_marked}
use Rattle.gipsat_kernel.specs.Occurrences.{ids_at}
use Rattle.gipsat_kernel.specs.declared.occurrences.Ids.{Ids}

abbrev yes : ℕ → Lit
yes v = record { variable = v; positive = true }

abbrev not_ : ℕ → Lit
not_ v = record { variable = v; positive = false }

marked : is_marked (false ∷ true ∷ []) (yes 0) ≡ true
marked = refl

not_marked : is_marked (false ∷ true ∷ []) (not_ 0) ≡ false
not_marked = refl

without_a_flag : is_marked (false ∷ true ∷ []) (yes 1) ≡ false
without_a_flag = refl

-- of three clauses the second was derived
original_ones : original_among (true ∷ false ∷ true ∷ []) ((yes 0 ∷ []) ∷ (yes 1 ∷ []) ∷ [] ∷ []) ≡ (yes 0 ∷ []) ∷ [] ∷ []
original_ones = refl

original_refused : OriginalStay (true ∷ false ∷ []) (false ∷ true ∷ []) → ⊥
original_refused all = false≢true (all zero refl)

-- the clauses with the negation of 0 have the ids 2 and 3, and those with 0 itself the id 4
abbrev noted : List Ids
noted = record { start = 2; end = 4 } ∷ record { start = 4; end = 5 } ∷ []

noted_ids : ids_at noted (not_ 0) ≡ record { start = 2; end = 4 }
noted_ids = refl

without_an_entry : ids_at noted (yes 1) ≡ record { start = 0; end = 0 }
without_an_entry = refl
