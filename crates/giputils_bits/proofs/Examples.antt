-- The definitions, computed on worked examples.
use Rattle.std.specs.Prelude.{◌≡◌, ◌≢◌, zero, suc, ◌+◌, ◌-◌, ◌^◌, Bool, true, false, List, [], ◌∷◌, ◌++◌, drop, length, replicate, take, codes, refl}
use Rattle.std.proofs.Common.{arith, ap, get_or}
use Rattle.giputils_bits.specs.Prelude.{HasNoneFrom, HasOne, IsNextOne, IsNoBinaryText, and_of, binary_text, digits_of, hex_text, negated_if, not_of, one_of, or_of, places_written, true_count, true_places, value_of, with_word, words_of, xor_of}
use Rattle.giputils_bits.proofs.BinaryTexts.{no_text, no_empty_text}
use Rattle.std.specs.Fmt.{digits}

-- numbers of lists

no_place_is_zero : value_of [] ≡ 0
no_place_is_zero = refl

the_first_place_is_the_lowest : value_of (true ∷ false ∷ []) ≡ 1
the_first_place_is_the_lowest = refl

true_places_are_powers_of_two : value_of (true ∷ false ∷ true ∷ true ∷ false ∷ []) ≡ 2 ^ 0 + 2 ^ 2 + 2 ^ 3
true_places_are_powers_of_two = refl

sixty_four_true_places : value_of (replicate 64 true) ≡ 18446744073709551615
sixty_four_true_places = refl

-- digits of numbers

digits_of_twelve : digits_of 5 12 ≡ false ∷ false ∷ true ∷ true ∷ false ∷ []
unfolding digits_of
digits_of_twelve = refl

digits_are_cut_at_the_length : value_of (digits_of 10 12345) ≡ 57
unfolding digits_of
digits_are_cut_at_the_length = refl

digits_past_a_number_are_false : digits_of 3 1 ≡ one_of 3
unfolding digits_of
digits_past_a_number_are_false = refl

no_digit : digits_of 0 7 ≡ []
unfolding digits_of
no_digit = refl

-- words of lists

no_place_has_no_word : words_of [] ≡ []
unfolding words_of
no_place_has_no_word = refl

one_place_has_a_word : words_of (true ∷ []) ≡ 1 ∷ []
unfolding words_of
one_place_has_a_word = refl

sixty_three_places : words_of (replicate 63 true) ≡ 9223372036854775807 ∷ []
unfolding words_of
sixty_three_places = refl

sixty_four_places_have_one_word : words_of (replicate 64 true) ≡ 18446744073709551615 ∷ []
unfolding words_of
sixty_four_places_have_one_word = refl

one_place_more_has_a_word_more : words_of (replicate 65 true) ≡ 18446744073709551615 ∷ 1 ∷ []
unfolding words_of
one_place_more_has_a_word_more = refl

two_words : words_of (digits_of 64 7 ++ digits_of 64 9) ≡ 7 ∷ 9 ∷ []
unfolding words_of digits_of
two_words = refl

a_hundred_and_thirty_places : words_of (one_of 130) ≡ 1 ∷ 0 ∷ 0 ∷ []
unfolding words_of
a_hundred_and_thirty_places = refl

-- a word put anew

a_word_of_three_places : with_word 0 6 (replicate 3 true) ≡ false ∷ true ∷ true ∷ []
unfolding digits_of
a_word_of_three_places = refl

digits_past_the_list_are_left_out : with_word 1 7 (replicate 65 false) ≡ replicate 64 false ++ true ∷ []
unfolding digits_of
digits_past_the_list_are_left_out = refl

other_words_stay : with_word 0 0 (replicate 66 true) ≡ replicate 64 false ++ (true ∷ true ∷ [])
unfolding digits_of
other_words_stay = refl

-- ranges

a_range_is_set : take 1 (replicate 5 false) ++ (replicate (3 - 1) true ++ drop 3 (replicate 5 false)) ≡ false ∷ true ∷ true ∷ false ∷ false ∷ []
a_range_is_set = refl

an_empty_range_sets_nothing : take 2 (true ∷ false ∷ true ∷ []) ++ (replicate (2 - 2) false ++ drop 2 (true ∷ false ∷ true ∷ [])) ≡ true ∷ false ∷ true ∷ []
an_empty_range_sets_nothing = refl

true_places_of_a_range : true_count (take (4 - 1) (drop 1 (true ∷ true ∷ false ∷ true ∷ true ∷ []))) ≡ 2
true_places_of_a_range = refl

-- shifts

to_the_left : take 4 (replicate 1 false ++ (true ∷ false ∷ true ∷ true ∷ [])) ≡ false ∷ true ∷ false ∷ true ∷ []
to_the_left = refl

a_place_to_the_left_doubles_the_number : value_of (take 4 (replicate 1 false ++ (true ∷ true ∷ false ∷ false ∷ []))) ≡ 6
a_place_to_the_left_doubles_the_number = refl

to_the_right : take 4 (drop 1 (true ∷ false ∷ true ∷ true ∷ []) ++ replicate 1 false) ≡ false ∷ true ∷ true ∷ false ∷ []
to_the_right = refl

far_to_the_right : take 2 (drop 3 (true ∷ true ∷ []) ++ replicate 3 false) ≡ false ∷ false ∷ []
far_to_the_right = refl

-- false places

false_places : true_places 0 (not_of (true ∷ false ∷ true ∷ false ∷ [])) ≡ 1 ∷ 3 ∷ []
false_places = refl

-- what is no list of words

a_word_too_many : words_of (replicate 64 true) ≢ 18446744073709551615 ∷ 0 ∷ []
unfolding words_of
a_word_too_many e = absurd (omega (arith, ap length e))

a_true_place_past_the_length : words_of (true ∷ []) ≢ 3 ∷ []
unfolding words_of
a_true_place_past_the_length e = cc

words_in_the_other_order : words_of (digits_of 64 7 ++ digits_of 64 9) ≢ 9 ∷ 7 ∷ []
unfolding words_of digits_of
words_in_the_other_order e = cc

-- logic

and_of_five : and_of (true ∷ false ∷ true ∷ true ∷ false ∷ []) (true ∷ true ∷ true ∷ false ∷ false ∷ []) ≡ true ∷ false ∷ true ∷ false ∷ false ∷ []
and_of_five = refl

or_of_five : or_of (true ∷ false ∷ true ∷ true ∷ false ∷ []) (true ∷ true ∷ true ∷ false ∷ false ∷ []) ≡ true ∷ true ∷ true ∷ true ∷ false ∷ []
or_of_five = refl

xor_of_five : xor_of (true ∷ false ∷ true ∷ true ∷ false ∷ []) (true ∷ true ∷ true ∷ false ∷ false ∷ []) ≡ false ∷ true ∷ false ∷ true ∷ false ∷ []
xor_of_five = refl

not_of_five : not_of (true ∷ false ∷ true ∷ true ∷ false ∷ []) ≡ false ∷ true ∷ false ∷ false ∷ true ∷ []
not_of_five = refl

not_of_ones_has_no_true_place : not_of (replicate 65 true) ≡ replicate 65 false
not_of_ones_has_no_true_place = refl

a_node_of_four : and_of (negated_if true (true ∷ true ∷ false ∷ false ∷ [])) (negated_if false (true ∷ false ∷ true ∷ false ∷ [])) ≡ false ∷ false ∷ true ∷ false ∷ []
a_node_of_four = refl

an_input_stays_where_nothing_is_told : negated_if false (true ∷ []) ≢ not_of (true ∷ [])
an_input_stays_where_nothing_is_told e = cc

-- true places

-- the list of the text 01101
abbrev five : List Bool
five = true ∷ false ∷ true ∷ true ∷ false ∷ []

three_of_five : true_count five ≡ 3
three_of_five = refl

none_of_none : true_count [] ≡ 0
none_of_none = refl

all_of_sixty_five : true_count (replicate 65 true) ≡ 65
all_of_sixty_five = refl

true_places_rise : true_places 0 five ≡ 0 ∷ 2 ∷ 3 ∷ []
true_places_rise = refl

true_places_are_numbered_from_the_start : true_places 64 five ≡ 64 ∷ 66 ∷ 67 ∷ []
true_places_are_numbered_from_the_start = refl

the_next_of_five_from_one : IsNextOne five 1 2
the_next_of_five_from_one = record { past = omega arith; holds = refl; least = λ k from before. let e : k ≡ 1 = omega arith in rw e refl }

the_next_is_the_least : ¬ (IsNextOne five 1 3)
the_next_is_the_least next = let never = next.least 2 (omega arith) (omega arith) in cc

none_of_five_from_four : HasNoneFrom five 4
none_of_five_from_four zero from = absurd (omega arith)
none_of_five_from_four (suc zero) from = absurd (omega arith)
none_of_five_from_four (suc (suc zero)) from = absurd (omega arith)
none_of_five_from_four (suc (suc (suc zero))) from = absurd (omega arith)
none_of_five_from_four (suc (suc (suc (suc zero)))) from = refl
none_of_five_from_four (suc (suc (suc (suc (suc k))))) from = refl

one_of_five_is_true : HasOne five
one_of_five_is_true = (3, refl)

none_of_zeros_is_true : ¬ (HasOne (false ∷ []))
none_of_zeros_is_true (zero, e) = cc
none_of_zeros_is_true (suc i, e) = cc

-- texts

no_place_has_brackets : binary_text [] ≡ codes "[]"
no_place_has_brackets = refl

the_last_place_comes_first : binary_text (true ∷ false ∷ true ∷ true ∷ false ∷ []) ≡ codes "01101"
the_last_place_comes_first = refl

the_last_digit_is_the_first_place : places_written (codes "01101") ≡ true ∷ false ∷ true ∷ true ∷ false ∷ []
the_last_digit_is_the_first_place = refl

no_place_has_brackets_in_hexadecimal : hex_text false [] ≡ codes "[]"
no_place_has_brackets_in_hexadecimal = refl

zeros_have_one_digit : hex_text false (replicate 65 false) ≡ codes "0x0"
zeros_have_one_digit = refl

ten_places : hex_text false (digits_of 10 12345) ≡ codes "0x39"
unfolding digits_of digits
ten_places = refl

a_zero_last_word_has_a_digit : hex_text false (digits_of 128 12345) ≡ codes "0x00000000000003039"
unfolding digits_of digits
a_zero_last_word_has_a_digit = refl

inner_words_have_sixteen_digits : hex_text false (digits_of 64 7 ++ digits_of 64 1) ≡ codes "0x10000000000000007"
unfolding digits_of digits
inner_words_have_sixteen_digits = refl

small_letters : hex_text false (replicate 65 true) ≡ codes "0x1ffffffffffffffff"
unfolding digits
small_letters = refl

capital_letters : hex_text true (replicate 65 true) ≡ codes "0x1FFFFFFFFFFFFFFFF"
unfolding digits
capital_letters = refl

two_lists_of_one_text : hex_text false (digits_of 128 18446744073709551615) ≡ hex_text false (digits_of 70 18446744073709551615)
unfolding digits_of digits
two_lists_of_one_text = refl

-- what is no text

the_first_place_first : binary_text (true ∷ false ∷ true ∷ true ∷ false ∷ []) ≢ codes "10110"
the_first_place_first e = absurd (omega (arith, ap (λ t. get_or t 0 0) e))

another_digit : IsNoBinaryText (codes "012")
another_digit = no_text (codes "012") refl refl

no_byte_at_all : IsNoBinaryText []
no_byte_at_all = no_empty_text [] refl

inner_words_without_zeros : hex_text false (digits_of 64 7 ++ digits_of 64 1) ≢ codes "0x17"
unfolding digits_of digits
inner_words_without_zeros e = cc

a_leading_zero : hex_text false (digits_of 10 12345) ≢ codes "0x039"
unfolding digits_of digits
a_leading_zero e = cc
