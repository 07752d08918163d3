-- What a refused call leaves of the clauses of sums: those of the first places, and those of bounds.
use Rattle.std.proofs.Common.{◌≡◌, ℕ, zero, suc, ◌+◌, ◌<◌, ◌≤◌, Bool, true, false, not, List, [], ◌∷◌, ◌++◌, length, Option, IsTrue, refl, sym, ap, ◌∙◌, arith}
use Rattle.std.specs.Prelude.{min}
use Rattle.gipsat_cnf.specs.Prelude.{Adds, AllBelow, AreBelow, Assignment, Formula, Lit, satisfies}
use Rattle.gipsat_cnf.proofs.Encodings.{AddsPart-none}
use Rattle.gipsat_cnf.proofs.Places.{none_some, same_some}
use Rattle.gipsat_encodings.specs.Extending.{AddsSome, RestsBelow}
use Rattle.gipsat_encodings.specs.Outputs.{AreFresh, AreSums, SaySums, SaysSum, SumsPart, reached, value_or}
use Rattle.gipsat_encodings.proofs.Agreeing.{AreBelow-more, RestsBelow-more}
use Rattle.gipsat_encodings.proofs.Extending.{plain}
use Rattle.gipsat_encodings.proofs.Leaving.{AddsSome-adds, AddsSome-of, AddsSome-then, AreBelow-joined, AreBelow-left, AreBelow-right}
use Rattle.gipsat_encodings.proofs.Reaching.{AreFresh-below, SaysSum-agreeing, reached-agreeing}

-- what the sums say at a place rests on the variables of the outputs
rests-at : (up : Bool) (left right sums : List Lit) (i j n : ℕ) → AreBelow n (left ++ right ++ sums) → RestsBelow n (λ a. SaysSum up left right sums a i j)
rests-at up left right sums i j n below a b same =
    let both = AreBelow-left n (left ++ right) sums below in
    SaysSum-agreeing n a b up left right sums i j same
    (AreBelow-left n left right both) (AreBelow-right n left right both) (AreBelow-right n (left ++ right) sums below)

rests-all : (up : Bool) (left right sums : List Lit) (n : ℕ) → AreBelow n (left ++ right ++ sums) → RestsBelow n (SaySums up left right sums)
rests-all up left right sums n below a b same say i i_within j j_within = rests-at up left right sums i j n below a b same (say i i_within j j_within)

-- the first places of a row
pub AddsSome-row : (up : Bool) (left right sums : List Lit) (i j : ℕ) (f g : Formula) → j ≤ length right + 1
    → Adds (λ a. AllBelow j (SaysSum up left right sums a i)) f g
    → AddsSome (left ++ right ++ sums) (λ a. AllBelow (length right + 1) (SaysSum up left right sums a i)) f g
AddsSome-row up left right sums i j f g within adds =
    AddsSome-adds (left ++ right ++ sums) (λ a. AllBelow j (SaysSum up left right sums a i)) (λ a. AllBelow (length right + 1) (SaysSum up left right sums a i))
    f g (λ a all k less. all k (omega (arith, less, within)))
    (λ n below a b same all k less. rests-at up left right sums i k n below a b same (all k less)) adds

-- the first rows, and a part of the next one
pub AddsSome-rows : (up : Bool) (left right sums : List Lit) (i : ℕ) (f g h : Formula) → i < length left + 1
    → Adds (λ a. AllBelow i (λ k. AllBelow (length right + 1) (SaysSum up left right sums a k))) f g
    → AddsSome (left ++ right ++ sums) (λ a. AllBelow (length right + 1) (SaysSum up left right sums a i)) g h
    → AddsSome (left ++ right ++ sums) (SaySums up left right sums) f h
AddsSome-rows up left right sums i f g h within adds next =
    let all = left ++ right ++ sums in
    AddsSome-then all (SaySums up left right sums) f g h
    (AddsSome-adds all (λ a. AllBelow i (λ k. AllBelow (length right + 1) (SaysSum up left right sums a k))) (SaySums up left right sums) f g
    (λ a say k less. say k (omega (arith, less, within)))
    (λ n below a b same say k less j j_less. rests-at up left right sums k j n below a b same (say k less j j_less)) adds)
    (AddsSome-of all (λ a. AllBelow (length right + 1) (SaysSum up left right sums a i)) (SaySums up left right sums) g h (λ a say. say i within) next)

-- variables in order
abbrev fresh_from : ℕ → ℕ → List Lit
fresh_from n zero = []
fresh_from n (suc len) = plain n ∷ fresh_from (suc n) len

fresh_from-length : (n len : ℕ) → length (fresh_from n len) ≡ len
fresh_from-length n zero = refl
fresh_from-length n (suc len) = ap suc (fresh_from-length (suc n) len)

fresh_from-fresh : (n len : ℕ) → AreFresh n (fresh_from n len)
fresh_from-fresh n zero k l at = none_some l at
fresh_from-fresh n (suc len) zero l at = sym (same_some (plain n) l at) ∙ ap plain (omega arith)
fresh_from-fresh n (suc len) (suc k) l at = fresh_from-fresh (suc n) len k l at ∙ ap plain (omega arith)

-- no clause of sums is added
pub SumsPart-none : (up down : Bool) (size n m : ℕ) (left right : List Lit) (f : Formula) → n ≤ m → SumsPart up down size n m left right f f
SumsPart-none up down size n m left right f rises =
    let len = min (length left + length right) size in
    record {
      sums = fresh_from n len;
      sized = fresh_from-length n len;
      fresh = fresh_from-fresh n len;
      part = AddsPart-none (AreSums up down left right (fresh_from n len)) f;
      speaks = λ left_below right_below speaks. RestsBelow-more n m (λ a. IsTrue (satisfies a f)) rises speaks;
    }

SumsPart-some : (up down : Bool) (size n m : ℕ) (left right sums : List Lit) (f g : Formula) → length sums ≡ min (length left + length right) size
    → AreFresh n sums → m ≡ n + length sums → AddsSome (left ++ right ++ sums) (AreSums up down left right sums) f g
    → SumsPart up down size n m left right f g
SumsPart-some up down size n m left right sums f g sized fresh last some = record {
  sums = sums;
  sized = sized;
  fresh = fresh;
  part = some.part;
  speaks = λ left_below right_below speaks. some.speaks m
      (AreBelow-joined m (left ++ right) sums
      (AreBelow-joined m left right (AreBelow-more n m left (omega (arith, last)) left_below) (AreBelow-more n m right (omega (arith, last)) right_below))
      (AreBelow-more (n + length sums) m sums (omega (arith, last)) (AreFresh-below n sums fresh)))
      (RestsBelow-more n m (λ a. IsTrue (satisfies a f)) (omega (arith, last)) speaks);
}

-- a part of those that lead up
pub SumsPart-up : (up down : Bool) (size n m : ℕ) (left right sums : List Lit) (f g : Formula) → length sums ≡ min (length left + length right) size
    → AreFresh n sums → m ≡ n + length sums → AddsSome (left ++ right ++ sums) (λ a. IsTrue up → SaySums true left right sums a) f g
    → SumsPart up down size n m left right f g
SumsPart-up up down size n m left right sums f g sized fresh last some =
    SumsPart-some up down size n m left right sums f g sized fresh last
    (AddsSome-of (left ++ right ++ sums) (λ a. IsTrue up → SaySums true left right sums a) (AreSums up down left right sums) f g (λ a are. are.0) some)

-- those that lead up, and a part of those that lead down
pub SumsPart-down : (up down : Bool) (size n m : ℕ) (left right sums : List Lit) (f g h : Formula) → length sums ≡ min (length left + length right) size
    → AreFresh n sums → m ≡ n + length sums → Adds (λ a. IsTrue up → SaySums true left right sums a) f g
    → AddsSome (left ++ right ++ sums) (λ a. IsTrue down → SaySums false left right sums a) g h → SumsPart up down size n m left right f h
SumsPart-down up down size n m left right sums f g h sized fresh last adds some =
    let all = left ++ right ++ sums in
    SumsPart-some up down size n m left right sums f h sized fresh last
    (AddsSome-then all (AreSums up down left right sums) f g h
    (AddsSome-adds all (λ a. IsTrue up → SaySums true left right sums a) (AreSums up down left right sums) f g (λ a are. are.0)
    (λ n below a b same say is_up. rests-all true left right sums n below a b same (say is_up)) adds)
    (AddsSome-of all (λ a. IsTrue down → SaySums false left right sums a) (AreSums up down left right sums) g h (λ a are. are.1) some))

-- of two bounds the one is added
pub AddsSome-bounds : (outputs : List Lit) (least most : ℕ) (p : Option Lit) (f g : Formula)
    → ((a : Assignment) → value_or true a p ≡ reached a outputs least) → Adds (λ a. IsTrue true → IsTrue true → IsTrue (value_or true a p)) f g
    → AddsSome outputs (λ a. IsTrue (reached a outputs least) × IsTrue (not (reached a outputs (suc most)))) f g
AddsSome-bounds outputs least most p f g says adds =
    AddsSome-adds outputs (λ a. IsTrue true → IsTrue true → IsTrue (value_or true a p))
    (λ a. IsTrue (reached a outputs least) × IsTrue (not (reached a outputs (suc most)))) f g (λ a both first second. says a ∙ both.0)
    (λ n below a b same is first second. says b ∙ sym (reached-agreeing n a b outputs least same below) ∙ sym (says a) ∙ is first second) adds
