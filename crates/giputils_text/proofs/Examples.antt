-- Worked examples of numbers.
use Rattle.std.proofs.Common.{◌≡◌, refl, codes, Some, None}
use Rattle.giputils_text.specs.Numbers.{number_of}

number-plus : number_of (codes "+07") ≡ Some 7
number-plus = refl

number-greatest : number_of (codes "18446744073709551615") ≡ Some 18446744073709551615
number-greatest = refl

refused-minus : number_of (codes "-7") ≡ None
refused-minus = refl
