-- The definitions, computed on worked examples.
use Rattle.std.specs.Prelude.{◌≡◌, ℕ, zero, suc, ◌-◌, ◌<◌, ◌≤◌, Bool, true, false, List, [], ◌∷◌, ◌++◌, replicate, slice_index_or, Some, None, refl}
use Rattle.std.specs.Borrow.{Bor}
use Rattle.std.proofs.Common.{arith, sym}
use Rattle.std.proofs.lemmas.Bool.{false≢true}
use Rattle.giputils_bits.specs.declared.bitvec.error.BitVecError.TheVariants.{TooLong, Memory}
use Rattle.giputils_bits.specs.declared.run.BitCall.TheVariants.{Push, PushWord, SetBit, GetBit, Clear, Extend, Len, ToUsize, IsZero, IsOne, Bool as BoolCall, TryBool, Put, Flip, Fill, Negate, CountOnes, Any, All, NextOne, Truncate, Resize, Pop}
use Rattle.giputils_bits.specs.declared.run.BitReply.TheVariants.{Done, Refused, Skipped, Bit, MaybeBit, Number, Place}
use Rattle.giputils_bits.specs.Prelude.{Answers, CanRefuseWord, StopsAt, digits_of, max_len, words_of}

-- a list, lent
abbrev lent : List Bool → Bor (List Bool)
lent bits = record { ref_ptr = (0, 0); now = bits }

-- runs

a_run : Answers {A = ℕ} []
    (Push true ∷ BoolCall ∷ GetBit 1 ∷ Clear ∷ PushWord 5 ∷ Len ∷ ToUsize ∷ IsOne ∷ TryBool ∷ SetBit 0 false ∷ IsZero ∷ BoolCall ∷ [])
    (Done ∷ Bit true ∷ Skipped ∷ Done ∷ Done ∷ Number 64 ∷ Number 5 ∷ Bit false ∷ MaybeBit None ∷ Done ∷ Bit false ∷ Skipped ∷ [])
    (digits_of 64 4)
unfolding digits_of words_of
a_run = (omega arith, (refl, (refl, (refl, (omega arith, (refl, (refl, (refl, (refl, (refl, (refl, (refl, refl))))))))))))

a_word_wherever_the_bits_end : Answers {A = ℕ} [] (Push true ∷ PushWord 5 ∷ Len ∷ ToUsize ∷ []) (Done ∷ Done ∷ Number 65 ∷ Number 11 ∷ []) (true ∷ digits_of 64 5)
unfolding digits_of words_of
a_word_wherever_the_bits_end = (omega arith, (omega arith, (refl, (refl, refl))))

a_run_of_a_set : Answers {A = ℕ} (false ∷ true ∷ [])
    (Put 0 true ∷ Put 2 true ∷ Flip 1 ∷ CountOnes ∷ Resize 3 true ∷ Negate ∷ Any ∷ All ∷ Pop ∷ Truncate 1 ∷ Fill true ∷ [])
    (Bit false ∷ Skipped ∷ Done ∷ Number 1 ∷ Done ∷ Done ∷ Bit true ∷ Bit false ∷ MaybeBit (Some false) ∷ Done ∷ Done ∷ [])
    (true ∷ [])
a_run_of_a_set = (refl, (refl, (refl, (refl, (record {}, (refl, (refl, (refl, (refl, (refl, (refl, refl)))))))))))

the_least_true_place_is_answered : Answers {A = ℕ} (false ∷ true ∷ []) (NextOne 0 ∷ []) (Place (Some 1) ∷ []) (false ∷ true ∷ [])
the_least_true_place_is_answered = (record { past = omega arith; holds = refl; least = only_first }, refl)
  where
    only_first : (k : ℕ) → 0 ≤ k → k < 1 → slice_index_or (false ∷ true ∷ []) k false ≡ false
    only_first zero from below = refl
    only_first (suc k) from below = absurd (omega (arith, below))

some_items_are_kept : Answers {A = ℕ} (replicate 64 false) (Extend (lent (true ∷ true ∷ [])) ∷ []) (Refused Memory 0 ∷ []) (replicate 64 false)
some_items_are_kept = ((omega arith, (omega arith, omega arith)), refl)

-- where a call is refused

a_full_word_may_be_refused_another : StopsAt 128 Memory
a_full_word_may_be_refused_another = (omega arith, refl)

the_greatest_length_ends_all : StopsAt max_len TooLong
the_greatest_length_ends_all = refl

a_length_below_the_greatest_is_not_too_long : ¬ (StopsAt 128 TooLong)
a_length_below_the_greatest_is_not_too_long stops = absurd (omega (arith, stops))

a_word_after_a_place_may_be_refused : CanRefuseWord 3 Memory
a_word_after_a_place_may_be_refused = (omega arith, omega arith)

the_first_word_is_not_refused : ¬ (CanRefuseWord 0 Memory)
the_first_word_is_not_refused refused = absurd (omega (arith, refused.0))

a_word_past_the_greatest_length : CanRefuseWord (max_len - 63) TooLong
a_word_past_the_greatest_length = omega arith

-- what is no run

a_read_past_the_end_is_skipped : ¬ (Answers {A = ℕ} [] (GetBit 0 ∷ []) (Bit false ∷ []) [])
a_read_past_the_end_is_skipped run = let never = run.0 in cc

a_place_is_not_passed_over : ¬ (Answers {A = ℕ} (true ∷ []) (NextOne 0 ∷ []) (Place None ∷ []) (true ∷ []))
a_place_is_not_passed_over run = false≢true (sym (run.0 0 (omega arith)))

a_shorter_length_is_not_refused : ¬ (Answers {A = ℕ} (true ∷ []) (Resize 0 true ∷ []) (Refused Memory 0 ∷ []) (true ∷ []))
a_shorter_length_is_not_refused run = absurd (omega (arith, run.0.2))

a_call_whose_condition_holds_is_made : ¬ (Answers {A = ℕ} (true ∷ []) (BoolCall ∷ []) (Skipped ∷ []) (true ∷ []))
a_call_whose_condition_holds_is_made run = let never = run.0 in cc

nothing_is_refused_within_a_word : ¬ (Answers {A = ℕ} [] (Push true ∷ []) (Refused Memory 0 ∷ []) [])
nothing_is_refused_within_a_word run = absurd (omega (arith, run.0.0.0))

nothing_is_refused_within_a_later_word : ¬ (Answers {A = ℕ} (replicate 70 false) (Push true ∷ []) (Refused Memory 0 ∷ []) (replicate 70 false))
nothing_is_refused_within_a_later_word run = absurd (omega (arith, run.0.0.1))

not_all_items_are_kept_at_a_refusal : ¬ (Answers {A = ℕ} (replicate 64 false) (Extend (lent (true ∷ [])) ∷ []) (Refused Memory 1 ∷ []) (replicate 64 false ++ true ∷ []))
not_all_items_are_kept_at_a_refusal run = absurd (omega (arith, run.0.0))

a_reply_too_few : ¬ (Answers {A = ℕ} [] (Push true ∷ Len ∷ []) (Done ∷ []) (true ∷ []))
a_reply_too_few run = run.1
