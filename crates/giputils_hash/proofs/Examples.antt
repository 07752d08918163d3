-- The definitions, computed on worked examples.
use Rattle.std.specs.Prelude.{◌≡◌, ℕ, true, [], ◌∷◌, Some, None, nat_eq, refl}
use Rattle.std.specs.List.{IsDistinct}
use Rattle.std.proofs.Common.{arith}
use Rattle.std.proofs.lemmas.Bool.Decides.{nat_tests}
use Rattle.giputils_hash.specs.Hash.{get, last_value, contains, PutsValue, TakesKey, PutsMember, TakesMember, HasUniqueKeys, IsMapOf, IsSetOf}

the_last_value_stands : last_value {V = ℕ} nat_eq ((1, 5) ∷ (2, 6) ∷ (1, 7) ∷ []) 1 ≡ Some 7
the_last_value_stands = refl

an_absent_key_has_no_value : last_value {V = ℕ} nat_eq ((1, 5) ∷ (2, 6) ∷ (1, 7) ∷ []) 3 ≡ None
an_absent_key_has_no_value = refl

a_key_has_its_value : get {V = ℕ} nat_eq ((2, 6) ∷ (1, 7) ∷ []) 1 ≡ Some 7
a_key_has_its_value = refl

a_set_has_its_member : contains nat_eq (3 ∷ []) 3 ≡ true
a_set_has_its_member = refl

a_key_stands_once : HasUniqueKeys {V = ℕ} nat_eq ((1, 7) ∷ (1, 5) ∷ []) → ⊥
unfolding IsDistinct
a_key_stands_once unique = cc

of_three_pairs_two_stand : IsMapOf {V = ℕ} nat_eq ((1, 5) ∷ (2, 6) ∷ (1, 7) ∷ []) ((1, 7) ∷ (2, 6) ∷ [])
unfolding IsDistinct
of_three_pairs_two_stand = (λ k. grind (arith, nat_tests), ((refl, tt), (tt, tt)))

the_first_value_does_not : IsMapOf {V = ℕ} nat_eq ((1, 5) ∷ (1, 7) ∷ []) ((1, 5) ∷ []) → ⊥
the_first_value_does_not is_map = let first = is_map.0 1 in cc

of_two_equal_items_one_stands : IsSetOf nat_eq (3 ∷ 3 ∷ []) (3 ∷ [])
unfolding IsDistinct
of_two_equal_items_one_stands = (λ k. grind (arith, nat_tests), (tt, tt))

an_item_is_put_into_a_set : PutsMember nat_eq 3 (4 ∷ []) (4 ∷ 3 ∷ [])
an_item_is_put_into_a_set q = grind (arith, nat_tests)

the_others_stay_members : PutsMember nat_eq 3 (4 ∷ []) (3 ∷ []) → ⊥
the_others_stay_members puts = let lost = puts 4 in cc

an_item_is_taken_out_of_a_set : TakesMember nat_eq 3 (4 ∷ 3 ∷ []) (4 ∷ [])
an_item_is_taken_out_of_a_set q = grind (arith, nat_tests)

a_value_is_put_at_a_key : PutsValue {V = ℕ} nat_eq 1 7 ((1, 5) ∷ (2, 6) ∷ []) ((1, 7) ∷ (2, 6) ∷ [])
a_value_is_put_at_a_key q = grind (arith, nat_tests)

a_key_is_taken_out : TakesKey {V = ℕ} nat_eq 1 ((1, 5) ∷ (2, 6) ∷ []) ((2, 6) ∷ [])
a_key_is_taken_out q = grind (arith, nat_tests)
