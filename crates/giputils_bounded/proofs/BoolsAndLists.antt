-- Small facts on tests and lists that std does not have.
use Rattle.std.proofs.Common.{◌≡◌, ℕ, ◌<◌, Bool, true, false, ◌&&◌, ◌||◌, not, List, [], ◌∷◌, ◌++◌, length, map, take, drop, refl, ap, sym, ◌∙◌, ⊎_elim, arith}
use Rattle.std.specs.Prelude.{◌==◌, filter}
use Rattle.std.specs.List.{list_all, AllByRecursion}
use Rattle.std.proofs.Math.Bool.{and-true}
use Rattle.std.proofs.Math.Seq.{take-append_seam}
use Rattle.std.proofs.lemmas.Bool.{and_from, cases_Bool, false≢true}

-- ---- tests

-- what is implied by a test that holds
pub implied_by : (a b : Bool) → (not a || b) ≡ true → a ≡ true → b ≡ true
implied_by true b h holds = h
implied_by false b h holds = absurd (false≢true holds)

-- what is implied by two tests that hold
pub implied_by_both : (a b c : Bool) → (not (a && b) || c) ≡ true → a ≡ true → b ≡ true → c ≡ true
implied_by_both true true c h ha hb = h
implied_by_both true false c h ha hb = absurd (false≢true hb)
implied_by_both false b c h ha hb = absurd (false≢true ha)

-- what follows from a test that may fail is implied by it
pub implied_from : (a b : Bool) → (a ≡ true → b ≡ true) → (not a || b) ≡ true
implied_from true b follows = follows refl
implied_from false b follows = refl

-- of two tests of which one holds, the other where the one does not
pub other_of : (a b : Bool) → (a || b) ≡ true → a ≡ false → b ≡ true
other_of true b h fails = absurd (false≢true (sym fails))
other_of false b h fails = h

-- a test, or another one without it, where the other follows from it
pub or-and_not : (a b : Bool) → (a ≡ true → b ≡ true) → (a || (b && not a)) ≡ b
or-and_not true b follows = sym (follows refl)
or-and_not false b follows = and-true b

-- a test is one of two without the other, where that fails with it
pub and_not-or : (a b : Bool) → (a ≡ true → b ≡ false) → b ≡ ((a || b) && not a)
and_not-or true b fails = fails refl
and_not-or false b fails = sym (and-true b)

-- a test is itself without another, where it fails with that
pub and_not-itself : (a b : Bool) → (a ≡ true → b ≡ false) → b ≡ (b && not a)
and_not-itself true b fails = rw (fails refl) refl
and_not-itself false b fails = sym (and-true b)

-- ---- lists

module _ {X : Type 0} where
  -- there are items where the test for none fails
  pub length-positive : (xs : List X) → (length xs == 0) ≡ false → 0 < length xs
  length-positive [] e = absurd (false≢true (sym e))
  length-positive (x ∷ xs) e = omega arith

  -- what follows of each item that is kept
  pub list_all-filter : (p q : X → Bool) → ((x : X) → p x ≡ true → q x ≡ true) → (xs : List X) → list_all q (filter p xs) ≡ true
  list_all-filter p q follows [] = refl
  list_all-filter p q follows (x ∷ xs) =
      ⊎_elim (λ kept. rw kept (and_from (q x) (list_all q (filter p xs)) (follows x kept) (list_all-filter p q follows xs)))
      (λ dropped. rw dropped (list_all-filter p q follows xs)) (cases_Bool (p x))

  -- what holds of each image
  pub AllByRecursion-map : {Y : Type 0} (f : X → Y) (P : Y → Type 0) (xs : List X) → AllByRecursion (λ x. P (f x)) xs → AllByRecursion P (map f xs)
  AllByRecursion-map f P [] each = tt
  AllByRecursion-map f P (x ∷ xs) each = (each.0, AllByRecursion-map f P xs each.1)

  -- what a Vec of n items has after a write of as many through its slice
  pub take-rewritten : (n : ℕ) (xs ws : List X) → n ≡ length ws → take n (ws ++ drop (length ws) xs) ≡ ws
  take-rewritten n xs ws e = ap (λ (m : ℕ). take m (ws ++ drop (length ws) xs)) e ∙ take-append_seam ws (drop (length ws) xs)
