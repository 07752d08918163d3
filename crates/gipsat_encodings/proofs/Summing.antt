-- What sums of outputs say, and that they can say exactly what is true.
use Rattle.std.proofs.Common.{◌≡◌, ℕ, zero, suc, ◌+◌, ◌-◌, ◌<◌, ◌≤◌, Bool, true, false, cond, not, List, [], ◌∷◌, ◌++◌, length, IsTrue, refl, sym, subst, arith, ⊎_elim}
use Rattle.std.specs.Prelude.{min}
use Rattle.std.proofs.lemmas.Bool.{cases_Bool, cases_lt, false≢true}
use Rattle.std.proofs.lemmas.List.{length-append}
use Rattle.gipsat_cnf.specs.Prelude.{Adds, AreBelow, Assignment, Formula, Lit, is_true, satisfies}
use Rattle.gipsat_encodings.specs.Counts.{count_true}
use Rattle.gipsat_encodings.specs.Extending.{AgreeBelow, DefinesPart, SpeaksBelow}
use Rattle.gipsat_encodings.specs.Outputs.{AreFresh, AreSums, Counts, SayAtLeast, SayAtMost, SaySums, SumsPart, reached}
use Rattle.gipsat_encodings.proofs.Agreeing.{AgreeBelow-both, AgreeBelow-refl, AreBelow-more, SpeaksBelow-adds, count-agreeing}
use Rattle.gipsat_encodings.proofs.Counting.{count-append, count-length}
use Rattle.gipsat_encodings.proofs.Extending.{changed-below}
use Rattle.gipsat_encodings.proofs.Reaching.{AreFresh-below, SayAtLeast-agreeing, SayAtLeast-counting, SayAtMost-agreeing, SayAtMost-counting, SaySums-agreeing, counting, not-false-is, not-true-is, reached-past, unreached}

-- Some outputs of a number of literals, of which c are true.
record AreOf (size n c : ℕ) (outputs : List Lit) : Type 0 where
  pub sized : length outputs ≡ min n size
  pub within : c ≤ n

are-of : (a : Assignment) (size : ℕ) (literals outputs : List Lit) → length outputs ≡ min (length literals) size
    → AreOf size (length literals) (count_true a literals) outputs
are-of a size literals outputs sized = record { sized = sized; within = count-length a literals }

-- the sums say as many as both parts, or more
sum-at_least : (a : Assignment) (size n m c d : ℕ) (left right sums : List Lit) → AreOf size n c left → AreOf size m d right
    → length sums ≡ min (length left + length right) size → SaySums true left right sums a → SayAtLeast left c a → SayAtLeast right d a
    → SayAtLeast sums (c + d) a
sum-at_least a size n m c d left right sums of_left of_right sized say from_left from_right i within less =
    ⊎_elim
    (λ above. at c (i - c) (omega arith) (omega arith) (omega arith) (omega arith) (omega arith))
    (λ most. at i 0 (omega arith) (omega arith) (omega arith) (omega arith) (omega arith))
    (cases_lt c i)
  where
    at : (x y : ℕ) → x + y ≡ i → x ≤ length left → y ≤ length right → x ≤ c → y ≤ d → IsTrue (reached a sums i)
    at x y is x_within y_within x_less y_less =
        subst (λ k. IsTrue (reached a sums k)) is
        (say x (omega arith) y (omega arith) (omega arith) (from_left x x_within x_less) (from_right y y_within y_less))

-- the sums say as many as both parts, or less
sum-at_most : (a : Assignment) (size n m c d : ℕ) (left right sums : List Lit) → AreOf size n c left → AreOf size m d right
    → length sums ≡ min (length left + length right) size → SaySums false left right sums a → SayAtMost left c a → SayAtMost right d a
    → SayAtMost sums (c + d) a
sum-at_most a size n m c d left right sums of_left of_right sized say from_left from_right i within is =
    ⊎_elim
    (λ above. ⊎_elim
    (λ more. absurd (at (length left) (i - 1 - length left) (omega arith) (omega arith) (omega arith) (omega arith) (omega arith)))
    (λ few. absurd (at (i - 1 - d) d (omega arith) (omega arith) (omega arith) (omega arith) (omega arith)))
    (cases_lt (length left) (i - 1 - d)))
    (λ most. most)
    (cases_lt (c + d) i)
  where
    at : (x y : ℕ) → suc (x + y) ≡ i → x ≤ length left → y ≤ length right → c ≤ x → d ≤ y → ⊥
    at x y same x_within y_within x_from y_from =
        not-true-is (reached a sums (suc (x + y)))
        (say x (omega arith) y (omega arith) (omega arith)
        (not-false-is (reached a left (suc x)) (unreached a left c x from_left x_from))
        (not-false-is (reached a right (suc y)) (unreached a right d y from_right y_from)))
        (subst (λ k. IsTrue (reached a sums k)) (sym same) is)

-- outputs that do not say more than i are of no more, where they could
few-of : (a : Assignment) (size n c i : ℕ) (outputs : List Lit) → AreOf size n c outputs → SayAtLeast outputs c a → i ≤ length outputs → i < size
    → IsTrue (not (reached a outputs (suc i))) → c ≤ i
few-of a size n c i outputs of say within small off =
    let sized = of.sized in
    let all = of.within in
    ⊎_elim
    (λ above. ⊎_elim
    (λ inside. absurd (not-true-is (reached a outputs (suc i)) off (say (suc i) (omega arith) (omega arith))))
    (λ past. absurd (omega arith)) (cases_lt i (length outputs)))
    (λ most. most) (cases_lt i c)

-- sums that say exactly what both parts say are sums
exact-sums : (a : Assignment) (up : Bool) (size n m c d : ℕ) (left right sums : List Lit) → AreOf size n c left → AreOf size m d right
    → length sums ≡ min (length left + length right) size → SayAtLeast left c a → SayAtMost left c a → SayAtLeast right d a → SayAtMost right d a
    → SayAtLeast sums (c + d) a → SayAtMost sums (c + d) a → SaySums up left right sums a
exact-sums a true size n m c d left right sums of_left of_right sized ll lm rl rm sl sm i i_within j j_within within from_left from_right =
    let x = lm i (omega arith) from_left in
    let y = rm j (omega arith) from_right in
    sl (i + j) within (omega (arith, x, y))
exact-sums a false size n m c d left right sums of_left of_right sized ll lm rl rm sl sm i i_within j j_within within from_left from_right =
    ⊎_elim
    (λ inside.
    let x = few-of a size n c i left of_left ll (omega arith) (omega arith) from_left in
    let y = few-of a size m d j right of_right rl (omega arith) (omega arith) from_right in
    not-false-is (reached a sums (suc (i + j))) (unreached a sums (c + d) (i + j) sm (omega (arith, x, y))))
    (λ past. not-false-is (reached a sums (suc (i + j))) (reached-past a sums (i + j) past)) (cases_lt (i + j) (length sums))

-- each model is one of the grown formula in which fresh sums say exactly what both parts say, by other values
both-exact : (up down : Bool) (size n k l : ℕ) (xs ys left right sums : List Lit) (f g h : Formula) → AreBelow n xs → AreBelow n ys
    → Counts up down size n k xs left f g → Counts up down size k l ys right g h → AreFresh l sums
    → length sums ≡ min (length left + length right) size → SpeaksBelow n f → (a : Assignment) → IsTrue (satisfies a f)
    → (d : Assignment) × AgreeBelow n a d × IsTrue (satisfies d h) × AreSums up down left right sums d
    × SayAtLeast sums (count_true d (xs ++ ys)) d × SayAtMost sums (count_true d (xs ++ ys)) d
both-exact up down size n k l xs ys left right sums f g h xs_below ys_below first then fresh sized speaks a sat =
    let first_rises = first.rises in
    let then_rises = then.rises in
    let of_left = λ (a : Assignment). are-of a size xs left first.sized in
    let of_right = λ (a : Assignment). are-of a size ys right then.sized in
    let (b, a_b, sat_b, ll, lm) = first.complete speaks a sat in
    let (c, b_c, sat_c, rl, rm) = then.complete (first.speaks speaks) b sat_b in
    let many = count_true c xs + count_true c ys in
    let d = counting l many c in
    let c_d = changed-below l c _ in
    let sat_d = then.speaks (first.speaks speaks) c d c_d sat_c in
    let b_d = AgreeBelow-both k l b c d then_rises b_c c_d in
    let xs_same = count-agreeing n b d xs (AgreeBelow-both n k b d d first_rises (λ v less. b_d v (omega (arith, less, first_rises))) (AgreeBelow-refl k d)) xs_below in
    let ys_same = count-agreeing n c d ys (λ v less. c_d v (omega (arith, less, first_rises, then_rises))) ys_below in
    let xs_count = count-agreeing n c d xs (λ v less. c_d v (omega (arith, less, first_rises, then_rises))) xs_below in
    let all : many ≡ count_true d xs + count_true d ys = omega (arith, xs_count, ys_same) in
    let sl = subst (λ x. SayAtLeast sums x d) all (SayAtLeast-counting l many c sums fresh) in
    let sm = subst (λ x. SayAtMost sums x d) all (SayAtMost-counting l many c sums fresh) in
    let exact = λ (way : Bool). exact-sums d way size (length xs) (length ys) (count_true d xs) (count_true d ys) left right sums (of_left d) (of_right d) sized
    (SayAtLeast-agreeing k b d left _ _ b_d first.below xs_same ll) (SayAtMost-agreeing k b d left _ _ b_d first.below xs_same lm)
    (SayAtLeast-agreeing l c d right _ _ c_d then.below ys_same rl) (SayAtMost-agreeing l c d right _ _ c_d then.below ys_same rm) sl sm in (
      d,
      AgreeBelow-both n k a b d first_rises a_b b_d,
      sat_d,
      (λ is_up. exact true, λ is_down. exact false),
      subst (λ x. SayAtLeast sums x d) (sym (count-append d xs ys)) sl,
      subst (λ x. SayAtMost sums x d) (sym (count-append d xs ys)) sm,
    )

-- outputs of two lists, and sums of them, are outputs of both lists
pub Counts-sums : (up down : Bool) (size n k l m : ℕ) (xs ys left right sums : List Lit) (f g h i : Formula) → AreBelow n xs → AreBelow n ys
    → Counts up down size n k xs left f g → Counts up down size k l ys right g h → AreFresh l sums
    → length sums ≡ min (length left + length right) size → m ≡ l + length sums → Adds (AreSums up down left right sums) h i
    → Counts up down size n m (xs ++ ys) sums f i
Counts-sums up down size n k l m xs ys left right sums f g h i xs_below ys_below first then fresh sized last adds =
    let first_rises = first.rises in
    let then_rises = then.rises in
    let first_sized = first.sized in
    let then_sized = then.sized in
    let of_left = λ (a : Assignment). are-of a size xs left first_sized in
    let of_right = λ (a : Assignment). are-of a size ys right then_sized in
    let left_below : AreBelow m left = AreBelow-more k m left (omega arith) first.below in
    let right_below : AreBelow m right = AreBelow-more l m right (omega arith) then.below in
    let sums_below : AreBelow m sums = AreBelow-more (l + length sums) m sums (omega arith) (AreFresh-below l sums fresh) in
    record {
      rises = omega arith;
      sized = let both = length-append xs ys in omega (arith, both);
      below = sums_below;
      at_least = λ a sat is_up.
          let (mid, are) = (adds a).0 sat in
          subst (λ c. SayAtLeast sums c a) (sym (count-append a xs ys))
          (sum-at_least a size (length xs) (length ys) (count_true a xs) (count_true a ys) left right sums (of_left a) (of_right a) sized (are.0 is_up)
          (first.at_least a (then.keeps a mid) is_up) (then.at_least a mid is_up));
      at_most = λ a sat is_down.
          let (mid, are) = (adds a).0 sat in
          subst (λ c. SayAtMost sums c a) (sym (count-append a xs ys))
          (sum-at_most a size (length xs) (length ys) (count_true a xs) (count_true a ys) left right sums (of_left a) (of_right a) sized (are.1 is_down)
          (first.at_most a (then.keeps a mid) is_down) (then.at_most a mid is_down));
      keeps = λ a sat. first.keeps a (then.keeps a ((adds a).0 sat).0);
      complete = λ speaks a sat.
          let (d, same, was, are, sl, sm) =
          both-exact up down size n k l xs ys left right sums f g h xs_below ys_below first then fresh sized speaks a sat
          in
          (d, same, (adds d).1 (was, are), sl, sm);
      speaks = λ speaks.
          SpeaksBelow-adds l m (AreSums up down left right sums) h i (omega arith) adds
          (λ a b same are. (
            λ is_up. SaySums-agreeing m a b true left right sums same left_below right_below sums_below (are.0 is_up),
            λ is_down. SaySums-agreeing m a b false left right sums same left_below right_below sums_below (are.1 is_down),
          )) (then.speaks (first.speaks speaks));
    }

-- outputs of two lists, and a part of sums of them, leave the models as they were
pub DefinesPart-sums : (up down : Bool) (size n k l m : ℕ) (xs ys left right : List Lit) (f g h i : Formula) → AreBelow n xs → AreBelow n ys
    → Counts up down size n k xs left f g → Counts up down size k l ys right g h → l ≤ m → SumsPart up down size l m left right h i
    → DefinesPart n m f i
DefinesPart-sums up down size n k l m xs ys left right f g h i xs_below ys_below first then rises some =
    let first_rises = first.rises in
    let then_rises = then.rises in
    record {
      up = omega arith;
      sound = λ a sat. (first.keeps a (then.keeps a ((some.part a).0 sat)), tt);
      complete = λ speaks a sat asked.
          let (d, same, was, are, sl, sm) =
          both-exact up down size n k l xs ys left right some.sums f g h xs_below ys_below first then some.fresh some.sized speaks a sat
          in
          (d, same, (some.part d).1 was are);
      speaks = λ speaks. some.speaks (AreBelow-more k l left then_rises first.below) then.below (then.speaks (first.speaks speaks));
    }

-- so do outputs of one list
pub DefinesPart-counts : (up down : Bool) (size n m : ℕ) (literals outputs : List Lit) (f g : Formula) → Counts up down size n m literals outputs f g
    → DefinesPart n m f g
DefinesPart-counts up down size n m literals outputs f g counts = record {
  up = counts.rises;
  sound = λ a sat. (counts.keeps a sat, tt);
  complete = λ speaks a sat asked. let (b, same, is, say_least, say_most) = counts.complete speaks a sat in (b, same, is);
  speaks = counts.speaks;
}

-- a literal counts itself, and no literal counts none
pub Counts-few : (up down : Bool) (size n : ℕ) (literals : List Lit) (f : Formula) → 0 < size → length literals < 2 → AreBelow n literals
    → Counts up down size n n literals literals f f
Counts-few up down size n literals f some few below = record {
  rises = omega arith;
  sized = omega (arith, some, few);
  below = below;
  at_least = λ a sat is_up. one-at_least a literals few;
  at_most = λ a sat is_down. one-at_most a literals few;
  keeps = λ a sat. sat;
  complete = λ speaks a sat. (a, AgreeBelow-refl n a, sat, one-at_least a literals few, one-at_most a literals few);
  speaks = λ speaks. speaks;
}
  where
    one-at_least : (a : Assignment) (literals : List Lit) → length literals < 2 → SayAtLeast literals (count_true a literals) a
    one-at_least a literals few zero within less = refl
    one-at_least a [] few (suc i) within less = absurd (omega (arith, within))
    one-at_least a (l ∷ []) few (suc zero) within less =
        ⊎_elim (λ is. is) (λ no. absurd (none (is_true a l) no less)) (cases_Bool (is_true a l))
      where
        none : (x : Bool) → x ≡ false → 1 ≤ cond x 1 0 + 0 → ⊥
        none true off less = false≢true (sym off)
        none false off less = omega (arith, less)
    one-at_least a (l ∷ []) few (suc (suc i)) within less = absurd (omega (arith, within))
    one-at_least a (l ∷ m ∷ rest) few (suc i) within less = absurd (omega (arith, few))

    one-at_most : (a : Assignment) (literals : List Lit) → length literals < 2 → SayAtMost literals (count_true a literals) a
    one-at_most a literals few zero within is = omega arith
    one-at_most a [] few (suc i) within is = absurd (omega (arith, within))
    one-at_most a (l ∷ []) few (suc zero) within is = rw is (omega arith)
    one-at_most a (l ∷ []) few (suc (suc i)) within is = absurd (omega (arith, within))
    one-at_most a (l ∷ m ∷ rest) few (suc i) within is = absurd (omega (arith, few))
