-- What a bit vector feeds a hasher.
use Rattle.std.proofs.Common.{◌≡◌, ℕ, ◌%◌, Bool, true, List, ◌++◌, length, ap, refl}
use Rattle.std.specs.Bool.{beq}
use Rattle.std.specs.Cmp.{booleans_Decides}
use Rattle.std.specs.Cmp.Lexicographic.{pointwise}
use Rattle.std.specs.List.{flat_map}
use Rattle.std.specs.Hash as fed
use Rattle.std.proofs.lemmas.Slice.Eq.{slice_eq-Decides}
use Rattle.giputils_bits.specs.Bits.{words_of}

-- the words in order, and then how many places the last one has in use, where 0 stands for all or for no word
abbrev pub hash_input_of : List Bool → List (List ℕ)
hash_input_of bs = flat_map fed.u64 (words_of bs) ++ fed.usize (length bs % 64)

-- equal lists feed a hasher the same
pub hash_input_respects : (xs ys : List Bool) → pointwise beq xs ys ≡ true → hash_input_of xs ≡ hash_input_of ys
hash_input_respects xs ys e =
    ap hash_input_of ((slice_eq-Decides booleans_Decides xs ys (pointwise beq xs ys) refl).0 e)
