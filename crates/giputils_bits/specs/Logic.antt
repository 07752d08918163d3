-- Logic on lists of booleans, place by place, and its laws.
use Rattle.std.specs.Prelude.{◌≡◌, Bool, true, false, ◌&&◌, ◌||◌, not, List, map, length, replicate}
use Rattle.std.specs.List.{zip}

-- at each place what f makes of both lists
abbrev pub zip_with : (Bool → Bool → Bool) → List Bool → List Bool → List Bool
zip_with f xs ys = map (λ p. f p.0 p.1) (zip xs ys)

-- whether one of two is true, and the other isn't
abbrev pub xor : Bool → Bool → Bool
xor true y = not y
xor false y = y

-- each place is true where both, one at least, or one alone of the places is
abbrev pub and_of : List Bool → List Bool → List Bool
and_of = zip_with ◌&&◌

abbrev pub or_of : List Bool → List Bool → List Bool
or_of = zip_with ◌||◌

abbrev pub xor_of : List Bool → List Bool → List Bool
xor_of = zip_with xor

-- each place negated
abbrev pub not_of : List Bool → List Bool
not_of = map not

-- the list, or each place of it negated where that is told
abbrev pub negated_if : Bool → List Bool → List Bool
negated_if true bs = not_of bs
negated_if false bs = bs

-- De Morgan's laws
abbrev pub DeMorgan : Type 0
DeMorgan =
    ((xs ys : List Bool) → not_of (and_of xs ys) ≡ or_of (not_of xs) (not_of ys))
    × ((xs ys : List Bool) → not_of (or_of xs ys) ≡ and_of (not_of xs) (not_of ys))

-- a list that is negated twice is as it was
abbrev pub DoubleNot : Type 0
DoubleNot = (xs : List Bool) → not_of (not_of xs) ≡ xs

-- xor of a list with itself has no true place
abbrev pub XorWithItself : Type 0
XorWithItself = (xs : List Bool) → xor_of xs xs ≡ replicate (length xs) false
