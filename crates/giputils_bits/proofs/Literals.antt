-- The values of a node of an and-inverter graph: `and` of two lists, each of them negated or not.
use Rattle.std.proofs.Common.{◌≡◌, ℕ, ◌<◌, Bool, false, ◌&&◌, List, length, get_or, sym, ◌∙◌, arith}
use Rattle.giputils_bits.specs.Logic.{and_of, negated_if, xor}
use Rattle.giputils_bits.proofs.Logic.{get_or-zip_with, length-negated_if, get_or-negated_if}

alike : (p q : Bool) (a b : List Bool) → length a ≡ length b → length (negated_if p a) ≡ length (negated_if q b)
alike p q a b long = length-negated_if p a ∙ long ∙ sym (length-negated_if q b)

-- its value at a place
pub get_or-and_of_literals : (p q : Bool) (a b : List Bool) (i : ℕ) → i < length a → length a ≡ length b
    → get_or (and_of (negated_if p a) (negated_if q b)) i false ≡ (xor (get_or a i false) p && xor (get_or b i false) q)
get_or-and_of_literals p q a b i inside long =
    get_or-zip_with ◌&&◌ (negated_if p a) (negated_if q b) i (omega (arith, length-negated_if p a)) (alike p q a b long)
    ∙ rw (get_or-negated_if p a i inside, get_or-negated_if q b i (omega (arith, long)))
