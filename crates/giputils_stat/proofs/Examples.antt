-- The definitions, computed on worked examples.
use Rattle.std.specs.Prelude.{◌≡◌, ℕ, ◌*◌, ◌^◌, ◌-◌, true, false, [], ◌∷◌, refl, codes}
use Rattle.std.specs.Fmt.{digits}
use Rattle.circular_buffer.specs.Buffer.{keep_last}
use Rattle.giputils_stat.specs.Decimals.{is_nearest, rounded, decimal, ratio, seconds}
use Rattle.giputils_stat.specs.Tally.{no_terms, with_term, with_terms, tally_of, no_outcomes, with_success, with_failure, with_outcomes, tries}
use Rattle.giputils_stat.specs.Texts.{average_text, average_duration_text, counted_duration_text, success_rate_text}
use Rattle.giputils_stat.specs.Due.{is_due}

-- the nearest whole number

two_thirds_is_nearest_to_one : is_nearest 2 3 1 ≡ true
two_thirds_is_nearest_to_one = refl

it_is_not_cut_off : is_nearest 2 3 0 ≡ false
it_is_not_cut_off = refl

a_half_goes_down_to_an_even_number : rounded 5 2 ≡ 2
a_half_goes_down_to_an_even_number = refl

a_half_goes_up_to_an_even_number : rounded 7 2 ≡ 4
a_half_goes_up_to_an_even_number = refl

a_half_does_not_always_go_up : is_nearest 5 2 3 ≡ false
a_half_does_not_always_go_up = refl

a_whole_number_is_itself : rounded 12 3 ≡ 4
a_whole_number_is_itself = refl

-- decimals

two_thirds : decimal 2 3 6 ≡ codes "0.666667"
unfolding digits
two_thirds = refl

no_part_of_one : decimal 0 1 6 ≡ codes "0.000000"
unfolding digits
no_part_of_one = refl

a_carry_goes_into_the_whole_part : decimal 9999995 10000000 6 ≡ codes "1.000000"
unfolding digits
a_carry_goes_into_the_whole_part = refl

one_millionth_keeps_its_zeros : decimal 1 1000000 6 ≡ codes "0.000001"
unfolding digits
one_millionth_keeps_its_zeros = refl

the_greatest_number : decimal (2 ^ 64 - 1) 1 6 ≡ codes "18446744073709551615.000000"
unfolding digits
the_greatest_number = refl

by_nothing_there_is_no_number : ratio 1 0 6 ≡ codes "NaN"
by_nothing_there_is_no_number = refl

-- seconds

half_a_hundredth_goes_down_to_an_even_one : seconds 1005000000 2 ≡ codes "1.00s"
unfolding digits
half_a_hundredth_goes_down_to_an_even_one = refl

half_a_hundredth_goes_up_to_an_even_one : seconds 1015000000 2 ≡ codes "1.02s"
unfolding digits
half_a_hundredth_goes_up_to_an_even_one = refl

the_longest_duration : seconds (2 ^ 64 * 1000000000 - 1) 6 ≡ codes "18446744073709551616.000000s"
unfolding digits
the_longest_duration = refl

-- the texts of the statistics

average_of_1_1_0 : average_text (with_term (with_term (with_term no_terms 1) 1) 0) ≡ codes "0.666667"
unfolding digits
average_of_1_1_0 = refl

average_of_nothing : average_text no_terms ≡ codes "NaN"
average_of_nothing = refl

average_of_one_and_two_seconds : average_duration_text (with_term (with_term no_terms 1000000000) 2000000000) ≡ codes "1.500000000s"
unfolding digits
average_of_one_and_two_seconds = refl

average_duration_of_nothing : average_duration_text no_terms ≡ codes "None"
average_duration_of_nothing = refl

an_average_duration_is_rounded_down : average_duration_text (with_terms (with_term no_terms 1) (with_term no_terms 2)) ≡ codes "0.000000001s"
unfolding digits
an_average_duration_is_rounded_down = refl

one_and_two_seconds : counted_duration_text (with_term (with_term no_terms 1000000000) 2000000000) ≡ codes "2 times in 3.000000s"
unfolding digits
one_and_two_seconds = refl

fifteen_hundred_nanoseconds : counted_duration_text (with_term no_terms 1500) ≡ codes "1 times in 0.000002s"
unfolding digits
fifteen_hundred_nanoseconds = refl

one_success_of_800 : success_rate_text (record { successes = 1; failures = 799 }) ≡ codes "success: 1, fail: 799, success rate: 0.12%"
unfolding digits
one_success_of_800 = refl

nothing_tried : success_rate_text no_outcomes ≡ codes "success: 0, fail: 0, success rate: NaN%"
unfolding digits
nothing_tried = refl

every_try_counts : tries (with_outcomes (with_success no_outcomes) (with_failure (with_failure no_outcomes))) ≡ 3
every_try_counts = refl

-- the last numbers

the_first_of_four_goes : keep_last {X = ℕ} 3 (1 ∷ 2 ∷ 3 ∷ 4 ∷ []) ≡ 2 ∷ 3 ∷ 4 ∷ []
the_first_of_four_goes = refl

the_tally_of_a_list_is_that_of_its_terms : tally_of (1 ∷ 1 ∷ 0 ∷ []) ≡ with_term (with_term (with_term no_terms 1) 1) 0
the_tally_of_a_list_is_that_of_its_terms = refl

-- when a message is due

not_a_nanosecond_early : is_due (record { last = 0; interval = 10000000000 }) 9999999999 ≡ false
not_a_nanosecond_early = refl

due_after_the_interval : is_due (record { last = 0; interval = 10000000000 }) 10000000000 ≡ true
due_after_the_interval = refl

a_moment_before_the_last_is_no_time_after_it : is_due (record { last = 10000000000; interval = 5000000000 }) 5000000000 ≡ false
a_moment_before_the_last_is_no_time_after_it = refl

with_no_interval_always_due : is_due (record { last = 10000000000; interval = 0 }) 5000000000 ≡ true
with_no_interval_always_due = refl
