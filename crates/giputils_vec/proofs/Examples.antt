-- The definitions, computed on worked examples.
use Rattle.std.specs.Prelude.{◌≡◌, ℕ, zero, suc, ◌<◌, pos, negsuc, [], ◌∷◌, Some, None, slice_index_or, refl}
use Rattle.std.proofs.Common.{arith}
use Rattle.giputils_vec.specs.Others.{option_of}
use Rattle.giputils_vec.specs.Gvec.{swap_remove, FilledTo, IsPlace}

-- options kept in one number

the_greatest_number_is_none : option_of 255 255 ≡ None
the_greatest_number_is_none = refl

any_other_number_is_itself : option_of 255 254 ≡ Some 254
any_other_number_is_itself = refl

-- vectors

the_last_item_takes_the_place : swap_remove {X = ℕ} (4 ∷ 2 ∷ 3 ∷ 1 ∷ []) 1 ≡ 4 ∷ 1 ∷ 3 ∷ []
the_last_item_takes_the_place = refl

of_one_item_nothing_is_left : swap_remove {X = ℕ} (9 ∷ []) 0 ≡ []
of_one_item_nothing_is_left = refl

two_zeros : (k d : ℕ) → k < 2 → slice_index_or (0 ∷ 0 ∷ []) k d ≡ 0
two_zeros zero d below = refl
two_zeros (suc zero) d below = refl
two_zeros (suc (suc k)) d below = absurd (omega arith)

defaults_fill_up : FilledTo {X = ℕ} (λ n. n ≡ 0) 5 (4 ∷ 1 ∷ 3 ∷ []) (4 ∷ 1 ∷ 3 ∷ 0 ∷ 0 ∷ [])
defaults_fill_up = record { fill = 0 ∷ 0 ∷ []; items = refl; len = refl; defaults = two_zeros }

a_signed_index_names_its_place : IsPlace (pos 2) 3
a_signed_index_names_its_place = (refl, omega arith)

a_negative_index_names_none : IsPlace (negsuc 0) 3 → ⊥
a_negative_index_names_none is_place = cc
