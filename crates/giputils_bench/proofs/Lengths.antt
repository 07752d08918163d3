-- What is joined or negated keeps its length.
use Rattle.std.proofs.Common.{◌≡◌, ◌∙◌, ℕ, Bool, ◌&&◌, List, length, ap, sym}
use Rattle.giputils_bits.specs.Logic.{zip_with, and_of, not_of, negated_if}
use Rattle.giputils_bits.proofs.Logic.{length-zip_with, length-not_of, length-negated_if}

-- a list that is joined with another, place by place
pub length-joined : (f : Bool → Bool → Bool) (xs ys joined : List Bool) (n : ℕ) → joined ≡ zip_with f xs ys → length xs ≡ n → length ys ≡ n → length joined ≡ n
length-joined f xs ys joined n is first second = ap length is ∙ length-zip_with f xs ys (first ∙ sym second) ∙ first

-- a list that is negated
pub length-negated : (xs negated : List Bool) (n : ℕ) → negated ≡ not_of xs → length xs ≡ n → length negated ≡ n
length-negated xs negated n is first = ap length is ∙ length-not_of xs ∙ first

-- two lists that are joined by `and`, each negated where that is told
pub length-conjoined : (not_a not_b : Bool) (xs ys conjoined : List Bool) (n : ℕ) → conjoined ≡ and_of (negated_if not_a xs) (negated_if not_b ys)
    → length xs ≡ n → length ys ≡ n → length conjoined ≡ n
length-conjoined not_a not_b xs ys conjoined n is first second =
    length-joined ◌&&◌ (negated_if not_a xs) (negated_if not_b ys) conjoined n is (length-negated_if not_a xs ∙ first) (length-negated_if not_b ys ∙ second)
