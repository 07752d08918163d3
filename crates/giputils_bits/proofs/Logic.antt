-- Laws of logic on lists of booleans.
--
-- How it is proved: `bits.iter().filter(..).count()` needs a bound on the items: a function with `requires { length
-- bits.now < 2 ^ 32 }` closes. For lengths through logic use `length-zip_with` and `length-not_of`.
use Rattle.std.proofs.Common.{◌≡◌, ℕ, ◌<◌, Bool, true, false, ◌&&◌, ◌||◌, not, List, [], ◌∷◌, length, get_or, drop, replicate, ◌↔◌, refl, sym, ap, ◌∙◌, arith, inl, inr}
use Rattle.std.specs.List.{zip}
use Rattle.std.proofs.lemmas.List.{length-map, length-replicate, get_or-map, get_or-replicate, get_or_past}
use Rattle.std.proofs.lemmas.Bool.{cases_lt, false≢true}
use Rattle.std.proofs.lemmas.Slice.Zip.{length-zip, get_or-zip}
use Rattle.giputils_bits.specs.Logic.{zip_with, xor, and_of, or_of, not_of, negated_if, DeMorgan, DoubleNot, XorWithItself}

-- ---- lists, place by place
pub length-zip_with : (f : Bool → Bool → Bool) (xs ys : List Bool) → length xs ≡ length ys → length (zip_with f xs ys) ≡ length xs
length-zip_with f xs ys e = length-map (zip xs ys) _ ∙ omega (arith, length-zip xs ys)

pub get_or-zip_with : (f : Bool → Bool → Bool) (xs ys : List Bool) (i : ℕ) → i < length xs → length xs ≡ length ys → get_or (zip_with f xs ys) i false ≡ f (get_or xs i false) (get_or ys i false)
get_or-zip_with f xs ys i l m =
    get_or-map (λ p. f p.0 p.1) (zip xs ys) i (false, false) false (omega (arith, length-zip xs ys)) ∙ ap (λ p. f p.0 p.1) (get_or-zip xs ys i (false, false) l (omega arith))

-- place by place, also past both lists, where f makes false of two false places
pub get_or-zip_with_all : (f : Bool → Bool → Bool) (xs ys : List Bool) (i : ℕ) → f false false ≡ false → length xs ≡ length ys
    → get_or (zip_with f xs ys) i false ≡ f (get_or xs i false) (get_or ys i false)
get_or-zip_with_all f xs ys i zeros long = elim (cases_lt i (length xs)) [
  | inl l ↦ get_or-zip_with f xs ys i l long
  | inr m ↦ rw (get_or_past (zip_with f xs ys) i false (omega (arith, length-zip_with f xs ys long)), get_or_past xs i false m, get_or_past ys i false (omega (arith, long))) (sym zeros)
]

-- a list of false places, also past its end
pub get_or-falses : (n i : ℕ) → get_or (replicate n false) i false ≡ false
get_or-falses n i = elim (cases_lt i n) [
  | inl l ↦ get_or-replicate n i false false l
  | inr m ↦ get_or_past (replicate n false) i false (omega (arith, length-replicate n false))
]

pub length-not_of : (xs : List Bool) → length (not_of xs) ≡ length xs
length-not_of xs = length-map xs not

pub get_or-not_of : (xs : List Bool) (i : ℕ) → i < length xs → get_or (not_of xs) i false ≡ not (get_or xs i false)
get_or-not_of xs i l = get_or-map not xs i false false l

pub xor_true : (b : Bool) → xor b true ≡ not b
xor_true true = refl
xor_true false = refl

pub xor_false : (b : Bool) → xor b false ≡ b
xor_false true = refl
xor_false false = refl

-- a list that is negated where that is told
pub length-negated_if : (told : Bool) (xs : List Bool) → length (negated_if told xs) ≡ length xs
length-negated_if true xs = length-not_of xs
length-negated_if false xs = refl

pub get_or-negated_if : (told : Bool) (xs : List Bool) (i : ℕ) → i < length xs → get_or (negated_if told xs) i false ≡ xor (get_or xs i false) told
get_or-negated_if true xs i l = get_or-not_of xs i l ∙ sym (xor_true (get_or xs i false))
get_or-negated_if false xs i l = sym (xor_false (get_or xs i false))

-- ---- De Morgan
not_and : (x y : Bool) → not (x && y) ≡ (not x || not y)
not_and true y = refl
not_and false y = refl

not_or : (x y : Bool) → not (x || y) ≡ (not x && not y)
not_or true y = refl
not_or false y = refl

pub not_of-and_of : (xs ys : List Bool) → not_of (and_of xs ys) ≡ or_of (not_of xs) (not_of ys)
not_of-and_of [] ys = refl
not_of-and_of (x ∷ xs) [] = refl
not_of-and_of (x ∷ xs) (y ∷ ys) = rw (not_and x y, not_of-and_of xs ys) refl

pub not_of-or_of : (xs ys : List Bool) → not_of (or_of xs ys) ≡ and_of (not_of xs) (not_of ys)
not_of-or_of [] ys = refl
not_of-or_of (x ∷ xs) [] = refl
not_of-or_of (x ∷ xs) (y ∷ ys) = rw (not_or x y, not_of-or_of xs ys) refl

pub de_morgan : DeMorgan
de_morgan = (not_of-and_of, not_of-or_of)

-- ---- double negation, and xor with itself
not_not : (x : Bool) → not (not x) ≡ x
not_not true = refl
not_not false = refl

pub double_not : DoubleNot
double_not [] = refl
double_not (x ∷ xs) = rw (not_not x, double_not xs) refl

xor_same : (x : Bool) → xor x x ≡ false
xor_same true = refl
xor_same false = refl

pub xor_with_itself : XorWithItself
xor_with_itself [] = refl
xor_with_itself (x ∷ xs) = rw (xor_same x, xor_with_itself xs) refl

pub not_of_none : (xs : List Bool) → length xs ≡ 0 → not_of xs ≡ xs
not_of_none [] e = refl
not_of_none (x ∷ xs) e = absurd (omega (arith, e))

-- a list without a place
pub empty_is_none : (bs : List Bool) → length bs ≡ 0 → bs ≡ []
empty_is_none [] e = refl
empty_is_none (b ∷ bs) e = absurd (omega (arith, e))

-- ---- sets
within_from_none : (xs ys : List Bool) → length xs ≡ length ys → zip_with (λ x y. x && not y) xs ys ≡ replicate (length xs) false → and_of xs ys ≡ xs
within_from_none [] ys long none = refl
within_from_none (x ∷ xs) [] long none = absurd (omega (arith, long))
within_from_none (true ∷ xs) (true ∷ ys) long none = ap (λ zs. true ∷ zs) (within_from_none xs ys (omega (arith, long)) (ap (drop 1) none))
within_from_none (true ∷ xs) (false ∷ ys) long none = absurd (false≢true (sym (ap (λ zs. get_or zs 0 false) none)))
within_from_none (false ∷ xs) (y ∷ ys) long none = ap (λ zs. false ∷ zs) (within_from_none xs ys (omega (arith, long)) (ap (drop 1) none))

none_from_within : (xs ys : List Bool) → length xs ≡ length ys → and_of xs ys ≡ xs → zip_with (λ x y. x && not y) xs ys ≡ replicate (length xs) false
none_from_within [] ys long within = refl
none_from_within (x ∷ xs) [] long within = absurd (omega (arith, long))
none_from_within (true ∷ xs) (true ∷ ys) long within = ap (λ zs. false ∷ zs) (none_from_within xs ys (omega (arith, long)) (ap (drop 1) within))
none_from_within (true ∷ xs) (false ∷ ys) long within = absurd (false≢true (ap (λ zs. get_or zs 0 false) within))
none_from_within (false ∷ xs) (y ∷ ys) long within = ap (λ zs. false ∷ zs) (none_from_within xs ys (omega (arith, long)) (ap (drop 1) within))

-- what of one list is not in another
pub zip_with-not : (xs ys : List Bool) → zip_with (λ x y. x && not y) xs ys ≡ and_of xs (not_of ys)
zip_with-not [] ys = refl
zip_with-not (x ∷ xs) [] = refl
zip_with-not (x ∷ xs) (y ∷ ys) = ap (λ zs. (x && not y) ∷ zs) (zip_with-not xs ys)

-- a list is within another exactly where nothing of it is outside
pub is_within : (xs ys : List Bool) → length xs ≡ length ys → (zip_with (λ x y. x && not y) xs ys ≡ replicate (length xs) false) ↔ (and_of xs ys ≡ xs)
is_within xs ys long = (within_from_none xs ys long, none_from_within xs ys long)
