-- The definitions on worked examples, computed by the check.
use Rattle.std.specs.Prelude.{◌≡◌, ℕ, List, [], ◌∷◌, ◌++◌, codes, Option, Some, None, refl, true, false, replicate}
use Rattle.std.specs.Fmt.{digits}
use Rattle.gip_lines.specs.Fault.{fault_text, fault_status}
use Rattle.std.specs.Str.{bytes_eq}
use Rattle.gip_lines.specs.Vectors.Replies.{bits_reply, bits_text}
use Rattle.gip_lines.specs.Vectors.Lines.{bits_of_line, bits_of_lines, first_line_without_bits}
use Rattle.gip_lines.specs.Scripts.Lines.{pairs_of, line_of, lines_of, first_other_line}
use Rattle.gip_lines.specs.Scripts.Replies.{start_ranks, ranks_with, greatest, without, script_text}
use Rattle.gip_lines.specs.declared.fault.GipFault.TheVariants as fault
use Rattle.gip_lines.specs.declared.scripts.lines.Line.TheVariants.{Push, Pop, Len, Clear, Rank, Ranks, Up, Down}
use Rattle.giputils_text.specs.Lines.{line_feed, space, pieces, text_lines}
use Rattle.giputils_text.specs.Numbers.{number_up_to}

-- a text of some lines, each with a line feed
abbrev text_of : List (List ℕ) → List ℕ
text_of [] = []
text_of (line ∷ lines) = line ++ line_feed ∷ text_of lines

-- ---- texts and lines

a_space_at_the_end_begins_an_empty_piece : pieces space (codes "a ") ≡ codes "a" ∷ [] ∷ []
a_space_at_the_end_begins_an_empty_piece = refl

a_line_feed_at_the_end_begins_no_line : text_lines (codes "a" ++ line_feed ∷ []) ≡ codes "a" ∷ []
a_line_feed_at_the_end_begins_no_line = refl

a_last_line_needs_no_line_feed : text_lines (codes "a" ++ line_feed ∷ codes "b") ≡ codes "a" ∷ codes "b" ∷ []
a_last_line_needs_no_line_feed = refl

an_empty_text_has_no_line : lines_of [] ≡ []
an_empty_text_has_no_line = refl

a_lone_line_feed_ends_an_empty_line : first_other_line (line_feed ∷ []) ≡ Some 1
a_lone_line_feed_ends_an_empty_line = refl

an_empty_line_has_another_form : first_other_line (codes "pop" ++ line_feed ∷ line_feed ∷ codes "pop") ≡ Some 2
an_empty_line_has_another_form = refl

-- ---- the form of a line

push_names_its_key : line_of (codes "push 15") ≡ Some (Push 15)
push_names_its_key = refl

pop_len_and_clear_name_none : lines_of (text_of (codes "pop" ∷ codes "len" ∷ codes "clear" ∷ [])) ≡ Pop ∷ Len ∷ Clear ∷ []
pop_len_and_clear_name_none = refl

leading_zeros_are_allowed : line_of (codes "push 003") ≡ Some (Push 3)
leading_zeros_are_allowed = refl

a_number_may_be_the_greatest : number_up_to 15 (codes "15") ≡ Some 15
a_number_may_be_the_greatest = refl

a_number_is_not_above_the_greatest : number_up_to 15 (codes "16") ≡ None
a_number_is_not_above_the_greatest = refl

rank_names_a_key_and_its_rank : line_of (codes "rank 15 4294967295") ≡ Some (Rank 15 4294967295)
rank_names_a_key_and_its_rank = refl

up_and_down_name_their_key : lines_of (text_of (codes "up 3" ∷ codes "down 4" ∷ [])) ≡ Up 3 ∷ Down 4 ∷ []
up_and_down_name_their_key = refl

a_rank_past_the_greatest_is_refused : line_of (codes "rank 0 4294967296") ≡ None
a_rank_past_the_greatest_is_refused = refl

rank_without_a_rank_is_refused : line_of (codes "rank 0") ≡ None
rank_without_a_rank_is_refused = refl

rank_of_two_ranks_is_refused : line_of (codes "rank 0 1 2") ≡ None
rank_of_two_ranks_is_refused = refl

pairs_stand_in_order : pairs_of (codes "0" ∷ codes "7" ∷ codes "1" ∷ codes "8" ∷ []) ≡ Some ((0, 7) ∷ (1, 8) ∷ [])
pairs_stand_in_order = refl

a_key_without_its_rank_is_no_pair : pairs_of (codes "0" ∷ codes "7" ∷ codes "1" ∷ []) ≡ None
a_key_without_its_rank_is_no_pair = refl

-- the ranks given by `ranks 0 1 1 0`
abbrev given_to_two : List (Option ℕ)
given_to_two = Some 1 ∷ Some 0 ∷ None ∷ None ∷ None ∷ None ∷ None ∷ None ∷ None ∷ None ∷ None ∷ None ∷ None ∷ None ∷ None ∷ None ∷ []

ranks_gives_each_key_its_rank : line_of (codes "ranks 0 1 1 0") ≡ Some (Ranks given_to_two)
ranks_gives_each_key_its_rank = refl

of_one_key_the_last_pair_stands : line_of (codes "ranks 1 9 0 1 1 0") ≡ Some (Ranks given_to_two)
of_one_key_the_last_pair_stands = refl

ranks_names_sixteen_pairs : line_of (codes "ranks 0 9 1 9 2 9 3 9 4 9 5 9 6 9 7 9 8 9 9 9 10 9 11 9 12 9 13 9 0 1 1 0")
    ≡ Some (Ranks (Some 1 ∷ Some 0 ∷ Some 9 ∷ Some 9 ∷ Some 9 ∷ Some 9 ∷ Some 9 ∷ Some 9 ∷ Some 9 ∷ Some 9 ∷ Some 9 ∷ Some 9 ∷ Some 9
    ∷ Some 9 ∷ None ∷ None ∷ []))
ranks_names_sixteen_pairs = refl

seventeen_pairs_are_refused : line_of (codes "ranks 0 9 1 9 2 9 3 9 4 9 5 9 6 9 7 9 8 9 9 9 10 9 11 9 12 9 13 9 14 9 0 1 1 0") ≡ None
seventeen_pairs_are_refused = refl

ranks_without_a_pair_is_refused : line_of (codes "ranks") ≡ None
ranks_without_a_pair_is_refused = refl

ranks_of_a_key_alone_is_refused : line_of (codes "ranks 1") ≡ None
ranks_of_a_key_alone_is_refused = refl

ranks_of_three_numbers_is_refused : line_of (codes "ranks 1 2 3") ≡ None
ranks_of_three_numbers_is_refused = refl

ranks_of_a_greater_key_is_refused : line_of (codes "ranks 0 1 16 0") ≡ None
ranks_of_a_greater_key_is_refused = refl

two_spaces_are_refused : line_of (codes "push  3") ≡ None
two_spaces_are_refused = refl

a_space_at_the_end_is_refused : line_of (codes "pop ") ≡ None
a_space_at_the_end_is_refused = refl

a_space_at_the_front_is_refused : line_of (codes " pop") ≡ None
a_space_at_the_front_is_refused = refl

a_sign_is_refused : line_of (codes "push +3") ≡ None
a_sign_is_refused = refl

push_without_a_key_is_refused : line_of (codes "push") ≡ None
push_without_a_key_is_refused = refl

push_of_two_keys_is_refused : line_of (codes "push 3 4") ≡ None
push_of_two_keys_is_refused = refl

a_carriage_return_is_refused : line_of (codes "push 3" ++ 13 ∷ []) ≡ None
a_carriage_return_is_refused = refl

other_bytes_than_ascii_are_refused : line_of (255 ∷ []) ≡ None
other_bytes_than_ascii_are_refused = refl

capital_letters_are_refused : line_of (codes "POP") ≡ None
capital_letters_are_refused = refl

-- ---- the replies

no_key_is_the_greatest_of_none : greatest start_ranks [] ≡ None
no_key_is_the_greatest_of_none = refl

the_greatest_key_may_stand_anywhere : greatest start_ranks (2 ∷ 5 ∷ 3 ∷ []) ≡ Some 5
the_greatest_key_may_stand_anywhere = refl

the_other_keys_stay_in_order : without 5 (2 ∷ 5 ∷ 3 ∷ []) ≡ 2 ∷ 3 ∷ []
the_other_keys_stay_in_order = refl

-- the script that the README shows
abbrev readme_script : List ℕ
readme_script = text_of (codes "push 3" ∷ codes "push 2" ∷ codes "push 4" ∷ codes "push 5" ∷ codes "push 1"
    ∷ codes "pop" ∷ codes "pop" ∷ codes "len" ∷ codes "clear" ∷ codes "pop" ∷ [])

readme_script_has_the_form : first_other_line readme_script ≡ None
readme_script_has_the_form = refl

readme_script_has_its_replies : script_text (lines_of readme_script) []
    ≡ text_of (codes "ok" ∷ codes "ok" ∷ codes "ok" ∷ codes "ok" ∷ codes "ok" ∷ codes "5" ∷ codes "4" ∷ codes "3" ∷ codes "ok"
    ∷ codes "none" ∷ [])
unfolding digits
readme_script_has_its_replies = refl

a_refused_push_holds_nothing : script_text (Push 7 ∷ Pop ∷ Len ∷ []) (true ∷ [])
    ≡ text_of (codes "memory" ∷ codes "none" ∷ codes "0" ∷ [])
unfolding digits
a_refused_push_holds_nothing = refl

a_push_of_a_held_key_asks_for_nothing : script_text (Push 7 ∷ Push 7 ∷ Len ∷ []) (false ∷ true ∷ [])
    ≡ text_of (codes "ok" ∷ codes "ok" ∷ codes "1" ∷ [])
unfolding digits
a_push_of_a_held_key_asks_for_nothing = refl

no_keys_are_counted_at_first : script_text (Len ∷ []) [] ≡ text_of (codes "0" ∷ [])
unfolding digits
no_keys_are_counted_at_first = refl

-- ---- ranks

the_greatest_rank_goes_first : greatest (5 ∷ 9 ∷ 4 ∷ []) (0 ∷ 1 ∷ 2 ∷ []) ≡ Some 1
the_greatest_rank_goes_first = refl

of_one_rank_the_greatest_goes_first : greatest (5 ∷ 0 ∷ 5 ∷ []) (0 ∷ 1 ∷ 2 ∷ []) ≡ Some 2
of_one_rank_the_greatest_goes_first = refl

a_changed_rank_counts_at_once : script_text (Rank 0 5 ∷ Push 0 ∷ Push 1 ∷ Rank 1 9 ∷ Pop ∷ Pop ∷ []) []
    ≡ text_of (codes "ok" ∷ codes "ok" ∷ codes "ok" ∷ codes "ok" ∷ codes "1" ∷ codes "0" ∷ [])
unfolding digits
a_changed_rank_counts_at_once = refl

-- a rank may be given to a key that is not held, and counts once it is
ranks_outlast_their_keys : script_text (Up 3 ∷ Down 3 ∷ Rank 3 7 ∷ Len ∷ Push 3 ∷ Push 4 ∷ Pop ∷ []) []
    ≡ text_of (codes "ok" ∷ codes "ok" ∷ codes "ok" ∷ codes "0" ∷ codes "ok" ∷ codes "ok" ∷ codes "3" ∷ [])
unfolding digits
ranks_outlast_their_keys = refl

clear_keeps_the_ranks : script_text (Rank 0 5 ∷ Clear ∷ Push 0 ∷ Push 1 ∷ Pop ∷ []) []
    ≡ text_of (codes "ok" ∷ codes "ok" ∷ codes "ok" ∷ codes "ok" ∷ codes "0" ∷ [])
unfolding digits
clear_keeps_the_ranks = refl

ranks_are_given_in_their_places : ranks_with (Some 9 ∷ None ∷ Some 0 ∷ []) (1 ∷ 2 ∷ 3 ∷ []) ≡ 9 ∷ 2 ∷ 0 ∷ []
ranks_are_given_in_their_places = refl

-- two ranks change at once, and all keys come out by the new ones
abbrev ranks_script : List ℕ
ranks_script = text_of (codes "rank 0 10" ∷ codes "rank 1 8" ∷ codes "rank 2 2" ∷ codes "rank 3 6" ∷ codes "push 0" ∷ codes "push 1"
    ∷ codes "push 2" ∷ codes "push 3" ∷ codes "ranks 0 1 1 0" ∷ codes "pop" ∷ codes "pop" ∷ codes "pop" ∷ codes "pop" ∷ [])

ranks_script_has_its_replies : script_text (lines_of ranks_script) []
    ≡ text_of (codes "ok" ∷ codes "ok" ∷ codes "ok" ∷ codes "ok" ∷ codes "ok" ∷ codes "ok" ∷ codes "ok" ∷ codes "ok" ∷ codes "ok"
    ∷ codes "3" ∷ codes "2" ∷ codes "0" ∷ codes "1" ∷ [])
unfolding digits
ranks_script_has_its_replies = refl

-- ---- lines of bits

the_last_bit_is_written_first : bits_of_line (codes "01101") ≡ Some (true ∷ false ∷ true ∷ true ∷ false ∷ [])
the_last_bit_is_written_first = refl

brackets_write_no_bit : bits_of_line (codes "[]") ≡ Some []
brackets_write_no_bit = refl

zeros_in_front_count : bits_of_line (codes "000") ≡ Some (false ∷ false ∷ false ∷ [])
zeros_in_front_count = refl

an_empty_line_writes_no_bits : bits_of_line [] ≡ None
an_empty_line_writes_no_bits = refl

another_digit_is_refused : bits_of_line (codes "012") ≡ None
another_digit_is_refused = refl

a_space_is_refused : bits_of_line (codes "0 1") ≡ None
a_space_is_refused = refl

digits_in_brackets_are_refused : bits_of_line (codes "[0]") ≡ None
digits_in_brackets_are_refused = refl

a_prefix_is_refused : bits_of_line (codes "0b1") ≡ None
a_prefix_is_refused = refl

the_first_line_without_bits_is_told : first_line_without_bits (text_of (codes "0" ∷ codes "012" ∷ codes "x" ∷ [])) ≡ Some 2
the_first_line_without_bits_is_told = refl

each_line_writes_its_bits : bits_of_lines (text_of (codes "10" ∷ codes "[]" ∷ [])) ≡ (false ∷ true ∷ []) ∷ [] ∷ []
each_line_writes_its_bits = refl

-- ---- the texts of bits

bits_have_their_texts_and_their_number : bits_text (bits_of_lines (text_of (codes "01101" ∷ codes "[]" ∷ codes "000" ∷ [])))
    ≡ text_of (codes "01101 0xd 5" ∷ codes "[] [] 0" ∷ codes "000 0x0 3" ∷ [])
unfolding digits
bits_have_their_texts_and_their_number = refl

-- a 1 and 64 zeros
abbrev long_line : List ℕ
long_line = codes "1" ++ replicate 64 48

a_bit_past_a_word_counts : bits_text (bits_of_lines long_line) ≡ text_of ((long_line ++ codes " 0x10000000000000000 65") ∷ [])
unfolding digits
a_bit_past_a_word_counts = refl

bits_from_first_to_last_are_refused : bytes_eq (bits_reply (true ∷ false ∷ [])) (codes "10 0x1 2") ≡ false
unfolding digits
bits_from_first_to_last_are_refused = refl

capital_digits_are_refused : bytes_eq (bits_reply (false ∷ true ∷ false ∷ true ∷ [])) (codes "1010 0xA 4") ≡ false
unfolding digits
capital_digits_are_refused = refl

a_reply_left_out_is_refused : bytes_eq (bits_text ((true ∷ []) ∷ [] ∷ [])) (text_of (codes "1 0x1 1" ∷ [])) ≡ false
unfolding digits
a_reply_left_out_is_refused = refl

-- ---- the faults

a_fault_of_a_line_tells_its_number : fault_text (fault.Line 12) ≡ codes "line 12: refused"
unfolding digits
a_fault_of_a_line_tells_its_number = refl

a_fault_of_the_input_tells_no_line : fault_text fault.Input ≡ codes "input: refused"
a_fault_of_the_input_tells_no_line = refl

the_status_tells_what_was_given_from_the_machine : (fault_status (fault.Line 12) ≡ 2) × (fault_status fault.Memory ≡ 1)
the_status_tells_what_was_given_from_the_machine = (refl, refl)
