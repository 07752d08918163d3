-- Tests on lists of which each item comes of another list.
use Rattle.std.proofs.Common.{◌≡◌, ℕ, zero, suc, ◌+◌, ◌<◌, ◌&&◌, Bool, true, false, List, [], ◌∷◌, ◌++◌, length, map, get_or, IsTrue, arith, refl, sym, ap, subst, ◌∙◌}
use Rattle.std.specs.Bool.{beq}
use Rattle.std.specs.List.{All, Contains, list_all}
use Rattle.std.proofs.Math.ListN.{get_or-map}
use Rattle.std.proofs.lemmas.Bool.{and_from, and_parts}
use Rattle.std.proofs.lemmas.List.{length-map}
use Rattle.std.proofs.lemmas.List.Elements.{All-head, All-push, All-tail, Contains-get_or}

pub is_same : (x : Bool) → beq x true ≡ x
is_same true = refl
is_same false = refl

-- what passes a test everywhere in a list passes it at an element
passes : {X : Type 0} (test : X → Bool) (xs : List X) (x : X) → IsTrue (list_all test xs) → Contains xs x → IsTrue (test x)
passes test [] x all (k, within, at) = absurd (omega (arith, within))
passes test (y ∷ ys) x all (zero, within, at) = subst (λ z. IsTrue (test z)) at (and_parts (test y) (list_all test ys) all).0
passes test (y ∷ ys) x all (suc k, within, at) =
    passes test ys x (and_parts (test y) (list_all test ys) all).1 (k, omega (arith, within), at)

-- a test that is another one after a change passes wherever the other one does
pub all_renamed : {X : Type 0} (rename : X → X) (own other : X → Bool) (xs ys : List X) → ((x : X) → own x ≡ other (rename x))
    → All (λ x. Contains ys (rename x)) xs → IsTrue (list_all other ys) → IsTrue (list_all own xs)
all_renamed rename own other [] ys same within all = refl
all_renamed rename own other (x ∷ xs) ys same within all =
    and_from (own x) (list_all own xs)
    (subst IsTrue (sym (same x)) (passes other ys (rename x) all (All-head (λ z. Contains ys (rename z)) x xs within)))
    (all_renamed rename own other xs ys same (All-tail (λ z. Contains ys (rename z)) x xs within) all)

-- a test that a change does not alter passes after it
pub all_changed : {X : Type 0} (test : X → Bool) (change : X → X) (xs : List X) → ((x : X) → test (change x) ≡ test x)
    → list_all test (map change xs) ≡ list_all test xs
all_changed test change [] same = refl
all_changed test change (x ∷ xs) same =
    ap (λ b. b && list_all test (map change xs)) (same x) ∙ ap (λ b. test x && b) (all_changed test change xs same)

-- a test that a change does not alter passes at those that come of the change
pub all_merged : {X : Type 0} (test : X → Bool) (change : X → X) (small whole : List X) → ((x : X) → test (change x) ≡ test x)
    → All (Contains (map change whole)) small → IsTrue (list_all test whole) → IsTrue (list_all test small)
all_merged test change small whole same within all =
    all_renamed (λ x. x) test test small (map change whole) (λ x. refl) within
    (subst IsTrue (sym (all_changed test change whole same)) all)

-- where a list is another one after renaming, each of the other one's is in it under its name
pub all_contained : {X : Type 0} (rename : X → X) (own whole : List X) → map rename own ≡ whole
    → All (λ x. Contains whole (rename x)) own
all_contained rename own whole same k d less =
    let long : k < length (map rename own) = omega (arith, less, length-map own rename) in
    subst (λ xs. Contains xs (rename (get_or own k d))) same
    (subst (Contains (map rename own)) (get_or-map rename own k d) (Contains-get_or (map rename own) k (rename d) long))

-- one more that stands for one of the whole list
pub all_more : {X : Type 0} (rename : X → X) (own whole : List X) (x : X) (k : ℕ) (d : X) → All (λ y. Contains whole (rename y)) own
    → k < length whole → rename x ≡ get_or whole k d → All (λ y. Contains whole (rename y)) (own ++ x ∷ [])
all_more rename own whole x k d all less is =
    All-push (λ y. Contains whole (rename y)) own x all (subst (Contains whole) (sym is) (Contains-get_or whole k d less))

-- one more that comes of one of the whole list
pub all_more_changed : {X : Type 0} (change : X → X) (left whole : List X) (x y : X) (k : ℕ) (d : X)
    → All (Contains (map change whole)) left → k < length whole → y ≡ get_or whole k d → x ≡ change y
    → All (Contains (map change whole)) (left ++ x ∷ [])
all_more_changed change left whole x y k d all less here is =
    all_more (λ z. z) left (map change whole) x k (change d) all (omega (arith, less, length-map whole change))
    (is ∙ ap change here ∙ sym (get_or-map change whole k d))
