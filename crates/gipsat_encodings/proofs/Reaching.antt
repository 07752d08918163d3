-- What outputs say: at a place, past their end, and by two assignments that agree.
use Rattle.std.proofs.Common.{◌≡◌, ℕ, zero, suc, ◌+◌, ◌-◌, ◌<◌, ◌≤◌, Bool, true, false, not, ltb, List, [], ◌∷◌, length, refl, sym, ap, subst, ◌∙◌, arith, ⊎_elim}
use Rattle.std.proofs.lemmas.Bool.{cases_Bool, cases_lt, false≢true, lt-ltb, ltb-true}
use Rattle.gipsat_cnf.specs.Prelude.{AreBelow, Assignment, Lit, is_true}
use Rattle.gipsat_cnf.proofs.Places.{none_some}
use Rattle.gipsat_encodings.specs.Extending.{AgreeBelow}
use Rattle.gipsat_encodings.specs.Outputs.{AreFresh, SayAtLeast, SayAtMost, SaySums, SaysSum, reached, says}
use Rattle.gipsat_encodings.proofs.Agreeing.{AreBelow-first, AreBelow-rest, is_true-agreeing}
use Rattle.gipsat_encodings.proofs.Extending.{changed, changed-above, is_true-plain, plain}

-- no output says more than there are
pub reached-past : (a : Assignment) (outputs : List Lit) (n : ℕ) → length outputs ≤ n → reached a outputs (suc n) ≡ false
reached-past a [] n past = refl
reached-past a (o ∷ outputs) zero past = absurd (omega (arith, past))
reached-past a (o ∷ outputs) (suc n) past = reached-past a outputs n (omega (arith, past))

pub reached-agreeing : (n : ℕ) (a b : Assignment) (outputs : List Lit) (i : ℕ) → AgreeBelow n a b → AreBelow n outputs → reached a outputs i ≡ reached b outputs i
reached-agreeing n a b outputs zero same below = refl
reached-agreeing n a b [] (suc i) same below = refl
reached-agreeing n a b (o ∷ outputs) (suc zero) same below = is_true-agreeing n a b o same (AreBelow-first n o outputs below)
reached-agreeing n a b (o ∷ outputs) (suc (suc i)) same below = reached-agreeing n a b outputs (suc i) same (AreBelow-rest n o outputs below)

pub says-agreeing : (n : ℕ) (a b : Assignment) (up : Bool) (outputs : List Lit) (i : ℕ) → AgreeBelow n a b → AreBelow n outputs
    → says up a outputs i ≡ says up b outputs i
says-agreeing n a b true outputs i same below = reached-agreeing n a b outputs i same below
says-agreeing n a b false outputs i same below = ap not (reached-agreeing n a b outputs (suc i) same below)

pub SayAtLeast-agreeing : (n : ℕ) (a b : Assignment) (outputs : List Lit) (c d : ℕ) → AgreeBelow n a b → AreBelow n outputs → c ≡ d
    → SayAtLeast outputs c a → SayAtLeast outputs d b
SayAtLeast-agreeing n a b outputs c d same below as_many say i within less =
    sym (reached-agreeing n a b outputs i same below) ∙ say i within (omega (arith, as_many, less))

pub SayAtMost-agreeing : (n : ℕ) (a b : Assignment) (outputs : List Lit) (c d : ℕ) → AgreeBelow n a b → AreBelow n outputs → c ≡ d
    → SayAtMost outputs c a → SayAtMost outputs d b
SayAtMost-agreeing n a b outputs c d same below as_many say i within is =
    let less = say i within (reached-agreeing n a b outputs i same below ∙ is) in
    omega (arith, as_many, less)

-- what the sums say rests on the variables of the outputs
pub SaysSum-agreeing : (n : ℕ) (a b : Assignment) (up : Bool) (left right sums : List Lit) (i j : ℕ) → AgreeBelow n a b → AreBelow n left
    → AreBelow n right → AreBelow n sums → SaysSum up left right sums a i j → SaysSum up left right sums b i j
SaysSum-agreeing n a b up left right sums i j same left_below right_below sums_below say within from_left from_right =
    sym (says-agreeing n a b up sums (i + j) same sums_below)
    ∙ say within (says-agreeing n a b up left i same left_below ∙ from_left) (says-agreeing n a b up right j same right_below ∙ from_right)

pub SaySums-agreeing : (n : ℕ) (a b : Assignment) (up : Bool) (left right sums : List Lit) → AgreeBelow n a b → AreBelow n left → AreBelow n right
    → AreBelow n sums → SaySums up left right sums a → SaySums up left right sums b
SaySums-agreeing n a b up left right sums same left_below right_below sums_below say i i_within j j_within =
    SaysSum-agreeing n a b up left right sums i j same left_below right_below sums_below (say i i_within j j_within)

-- outputs that say no more than c say no more than what c is at most
pub unreached : (a : Assignment) (outputs : List Lit) (c n : ℕ) → SayAtMost outputs c a → c ≤ n → reached a outputs (suc n) ≡ false
unreached a outputs c n say up =
    ⊎_elim (λ within. ⊎_elim (λ is. let less = say (suc n) (omega (arith, within)) is in absurd (omega (arith, less, up))) (λ no. no)
    (cases_Bool (reached a outputs (suc n))))
    (λ past. reached-past a outputs n past) (cases_lt n (length outputs))

pub not-false-is : (x : Bool) → x ≡ false → not x ≡ true
not-false-is true off = absurd (false≢true (sym off))
not-false-is false off = refl

pub not-true-is : (x : Bool) → not x ≡ true → x ≡ true → ⊥
not-true-is true off is = false≢true off
not-true-is false off is = false≢true is

AreFresh-first : (n : ℕ) (o : Lit) (outputs : List Lit) → AreFresh n (o ∷ outputs) → o ≡ plain n
AreFresh-first n o outputs fresh = fresh zero o refl ∙ ap plain (omega arith)

AreFresh-rest : (n : ℕ) (o : Lit) (outputs : List Lit) → AreFresh n (o ∷ outputs) → AreFresh (suc n) outputs
AreFresh-rest n o outputs fresh k l at = fresh (suc k) l at ∙ ap plain (omega arith)

pub AreFresh-below : (n : ℕ) (outputs : List Lit) → AreFresh n outputs → AreBelow (n + length outputs) outputs
AreFresh-below n [] fresh k l at = none_some l at
AreFresh-below n (o ∷ outputs) fresh zero l at = subst (λ x. x.variable < n + length (o ∷ outputs)) (sym (fresh zero l at)) (omega arith)
AreFresh-below n (o ∷ outputs) fresh (suc k) l at =
    let below = AreFresh-below (suc n) outputs (AreFresh-rest n o outputs fresh) k l at in
    omega (arith, below)

-- the output at a place has the value of its variable
reached-fresh : (a : Assignment) (n : ℕ) (outputs : List Lit) (k : ℕ) → AreFresh n outputs → k < length outputs → reached a outputs (suc k) ≡ a (n + k)
reached-fresh a n [] k fresh within = absurd (omega (arith, within))
reached-fresh a n (o ∷ outputs) zero fresh within =
    ap (is_true a) (AreFresh-first n o outputs fresh) ∙ is_true-plain a n ∙ ap a (omega arith)
reached-fresh a n (o ∷ outputs) (suc k) fresh within =
    reached-fresh a (suc n) outputs k (AreFresh-rest n o outputs fresh) (omega (arith, within)) ∙ ap a (omega arith)

-- the assignment whose variables from n on say how many are true
abbrev pub counting : ℕ → ℕ → Assignment → Assignment
counting n c a = changed n a (λ v. ltb (v - n) c)

counting-at : (n c k : ℕ) (a : Assignment) → counting n c a (n + k) ≡ ltb k c
counting-at n c k a = changed-above n a (λ v. ltb (v - n) c) (n + k) (omega arith) ∙ ap (λ i. ltb i c) (omega arith)

pub SayAtLeast-counting : (n c : ℕ) (a : Assignment) (outputs : List Lit) → AreFresh n outputs → SayAtLeast outputs c (counting n c a)
SayAtLeast-counting n c a outputs fresh zero within less = refl
SayAtLeast-counting n c a outputs fresh (suc k) within less =
    reached-fresh (counting n c a) n outputs k fresh (omega (arith, within)) ∙ counting-at n c k a ∙ lt-ltb k c (omega (arith, less))

pub SayAtMost-counting : (n c : ℕ) (a : Assignment) (outputs : List Lit) → AreFresh n outputs → SayAtMost outputs c (counting n c a)
SayAtMost-counting n c a outputs fresh zero within is = omega arith
SayAtMost-counting n c a outputs fresh (suc k) within is =
    let less = ltb-true k c (sym (counting-at n c k a) ∙ sym (reached-fresh (counting n c a) n outputs k fresh (omega (arith, within))) ∙ is) in
    omega (arith, less)
