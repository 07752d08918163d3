-- How many literals are true: where lists are joined, and at most as many as there are.
use Rattle.std.proofs.Common.{◌≡◌, ◌+◌, ◌≤◌, Bool, true, false, cond, List, [], ◌∷◌, ◌++◌, length, refl, arith}
use Rattle.gipsat_cnf.specs.Prelude.{Assignment, Lit, is_true}
use Rattle.gipsat_encodings.specs.Counts.{count_true}
use Rattle.gipsat_encodings.specs.Gates.{differ, parity}

pub count-append : (a : Assignment) (xs ys : List Lit) → count_true a (xs ++ ys) ≡ count_true a xs + count_true a ys
count-append a [] ys = omega arith
count-append a (l ∷ xs) ys = let rest = count-append a xs ys in omega (arith, rest)

one_at_most : (x : Bool) → cond x 1 0 ≤ 1
one_at_most true = omega arith
one_at_most false = omega arith

-- no more are true than there are
pub count-length : (a : Assignment) (literals : List Lit) → count_true a literals ≤ length literals
count-length a [] = omega arith
count-length a (l ∷ literals) =
    let rest = count-length a literals in
    let one = one_at_most (is_true a l) in
    omega (arith, rest, one)

differ-of : (x y z : Bool) → differ x (differ y z) ≡ differ (differ x y) z
differ-of true true true = refl
differ-of true true false = refl
differ-of true false true = refl
differ-of true false false = refl
differ-of false true true = refl
differ-of false true false = refl
differ-of false false true = refl
differ-of false false false = refl

differ-false : (x y : Bool) → differ x false ≡ differ false x
differ-false true y = refl
differ-false false y = refl

-- one literal more behind the others
pub parity-push : (a : Assignment) (literals : List Lit) (l : Lit) → parity a (literals ++ l ∷ []) ≡ differ (parity a literals) (is_true a l)
parity-push a [] l = differ-false (is_true a l) true
parity-push a (m ∷ literals) l = rw (parity-push a literals l) (differ-of (is_true a m) (parity a literals) (is_true a l))
