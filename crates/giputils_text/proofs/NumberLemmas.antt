-- The number that a whole word writes.
use Rattle.std.proofs.Common.{◌≡◌, ◌<◌, ◌≤◌, ◌^◌, ℕ, true, false, List, length, refl, arith, if◌then◌else◌, Result, Ok, Err, Some, None, inl, inr}
use Rattle.std.proofs.cmp.Tests.{cases_Bool}
use Rattle.std.proofs.lemmas.Bool.{and_parts}
use Rattle.std.proofs.lemmas.Bool.Decides.{nat_tests}
use Rattle.std.proofs.lemmas.Str.Parse.{numerals_by_value, tells_all_ascii_digits}
use Rattle.std.specs.Prelude.{◌&&◌, nat_lt}
use Rattle.std.specs.Result.{result_ok}
use Rattle.std.specs.Str.{all_ascii_digits}
use Rattle.std.specs.Str.Parse.{digits_value, without_leading_plus, IsNumeral, ParsesUnsigned}
use Rattle.giputils_text.specs.Numbers.{number_of, number_up_to}

-- a word with another byte writes none
pub number_up_to-other : (greatest : ℕ) (word : List ℕ) → all_ascii_digits word ≡ false
    → number_up_to greatest word ≡ None
number_up_to-other greatest word e = grind arith

-- nor does one of too great a value
pub number_up_to-large : (greatest : ℕ) (word : List ℕ) → greatest < digits_value 10 word
    → number_up_to greatest word ≡ None
number_up_to-large greatest word large = grind arith

-- any other word of digits writes its value
pub number_up_to-small : (greatest : ℕ) (word : List ℕ) → 0 < length word → all_ascii_digits word ≡ true
    → digits_value 10 word ≤ greatest → number_up_to greatest word ≡ Some (digits_value 10 word)
number_up_to-small greatest word some digits small = grind arith

-- the number of a word is at most the greatest
pub number_up_to-at_most : (greatest : ℕ) (word : List ℕ) (n : ℕ) → number_up_to greatest word ≡ Some n → n ≤ greatest
number_up_to-at_most greatest word n e = grind arith

number-some : (ds : List ℕ) (n : ℕ) → 0 < length ds → all_ascii_digits ds ≡ true → digits_value 10 ds < 2 ^ 64
    → n ≡ digits_value 10 ds
    → Some n ≡ (if nat_lt 0 (length ds) && all_ascii_digits ds && nat_lt (digits_value 10 ds) (2 ^ 64)
    then Some (digits_value 10 ds) else None)
number-some ds n some digits small is = grind arith

number-none : (ds : List ℕ) → ¬ (IsNumeral 10 ds × (digits_value 10 ds < 2 ^ 64))
    → None ≡ (if nat_lt 0 (length ds) && all_ascii_digits ds && nat_lt (digits_value 10 ds) (2 ^ 64)
    then Some (digits_value 10 ds) else None)
number-none ds refused =
    let some = nat_lt 0 (length ds) in
    let digits = all_ascii_digits ds in
    let small = nat_lt (digits_value 10 ds) (2 ^ 64) in
    elim (cases_Bool (some && digits && small)) [
      | inl all ↦
          let (front, is_small) = and_parts (some && digits) small all in
          let (is_some, are_digits) = and_parts some digits front in
          let model = numerals_by_value (λ ds. all_ascii_digits ds ≡ true) tells_all_ascii_digits in
          absurd (refused ((grind (arith, nat_tests), model.to ds are_digits), grind (arith, nat_tests)))
      | inr other ↦ rw other refl
    ]

-- the number that `parse` reads is `number_of`
pub number_of-read : {E : Type 0} (word : List ℕ) (r : Result ℕ E) → ParsesUnsigned 64 10 word r
    → result_ok r ≡ number_of word
number_of-read word (Ok n) h =
    number-some (without_leading_plus word) n h.0.0.0
    ((numerals_by_value (λ ds. all_ascii_digits ds ≡ true) tells_all_ascii_digits).from _ h.0.0.1) h.0.1 h.1
number_of-read word (Err e) h = number-none (without_leading_plus word) h
