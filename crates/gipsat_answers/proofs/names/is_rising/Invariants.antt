-- The numbers so far rise, and the next one has to be greater.
use Rattle.std.proofs.Common.{◌≡◌, ◌<◌, ℕ, Some}
use Rattle.std.specs.Prelude.{slice_get}
use Rattle.gipsat_answers.proofs.names.is_rising.Given as goal

abbrev pub invariant-loop-number : goal.invariant-loop-number
invariant-loop-number l = record {
  least : (i m : ℕ) → i < l.number-index → slice_get l.numbers i ≡ Some m → m < l.least;
  rising : (i j m n : ℕ) → i < j → j < l.number-index → slice_get l.numbers i ≡ Some m → slice_get l.numbers j ≡ Some n → m < n;
}
