-- The word so far is digits alone, and they write a number that is small enough.
use Rattle.std.proofs.Common.{◌≡◌, ◌≤◌, true, take}
use Rattle.std.specs.Str.{all_ascii_digits}
use Rattle.std.specs.Str.Parse.{digits_value}
use Rattle.giputils_text.proofs.numbers.number.Given as goal

abbrev pub invariant-loop-digit : goal.invariant-loop-digit
invariant-loop-digit l = record {
  digits : all_ascii_digits (take l.digit-index l.word) ≡ true;
  value : l.value ≡ digits_value 10 (take l.digit-index l.word);
  small : l.value ≤ l.greatest;
}
