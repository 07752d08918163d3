-- Numbers that are doubled or halved several times.
use Rattle.std.proofs.Common.{◌≡◌, ⊎_elim, ℕ, zero, suc, ◌+◌, ◌*◌, ◌^◌, ◌/◌, ◌<◌, ◌≤◌, ◌++◌, false, cond, List, [], ◌∷◌, length, take, drop, get_or, replicate, append_assoc, arith, refl, sym, ap, ◌∙◌}
use Rattle.std.proofs.Math.Nat.{mul-add, two-pow-succ}
use Rattle.std.proofs.lemmas.Bool.{cases_lt}
use Rattle.std.proofs.lemmas.List.{drop_all, drop_more, length-take-le, take-append-drop}
use Rattle.std.proofs.lemmas.Nat.{pow_below, shr_high}
use Rattle.gipsat_cnf.specs.Prelude.{Assignment, Lit}
use Rattle.gipmc_builder.specs.Build.{IsShiftedLeft, IsShiftedRight, bit_of, constant, number_of}
use Rattle.gipmc_builder.proofs.Built.{none_behind}
use Rattle.gipmc_builder.proofs.Numbers.{is_true-constant, number_over, number_over-split, number_small}

-- digits that are 0 in front of a number double it
pub shifted_left : (bits : List Lit) (k : ℕ) → IsShiftedLeft bits k (replicate k (constant false) ++ bits)
shifted_left bits zero a none = omega arith
shifted_left bits (suc k) a none =
    let next : number_of a bits * 2 ^ suc k ≡ number_of a bits * 2 ^ k + number_of a bits * 2 ^ k =
    ap (λ p. number_of a bits * p) (two-pow-succ k) ∙ mul-add (number_of a bits) (2 ^ k) (2 ^ k) in
    let low : bit_of a (constant false) ≡ 0 = ap (λ b. cond b 1 0) (is_true-constant a false none) in
    let before = shifted_left bits k a none in
    omega (arith, next, low, before)

number_of-append : (a : Assignment) (xs ys : List Lit) → number_of a (xs ++ ys) ≡ number_over a xs (number_of a ys)
number_of-append a [] ys = refl
number_of-append a (x ∷ xs) ys = ap (λ n. bit_of a x + 2 * n) (number_of-append a xs ys)

halved_away : (a : Assignment) (ls : List Lit) (k : ℕ) → length ls < k → 0 ≡ number_of a ls / 2 ^ k
halved_away a ls k less =
    let small = number_small a ls in
    let power = pow_below (length ls) k less in
    let same : 0 * 2 ^ k + number_of a ls ≡ number_of a ls = omega arith in
    sym (ap (λ n. n / 2 ^ k) (sym same) ∙ shr_high 0 k (number_of a ls) (omega (arith, small, power)))

-- a number without its first digits is halved
pub shifted_right : (bits : List Lit) (k : ℕ) → IsShiftedRight bits k (drop k bits)
shifted_right bits k a =
    ⊎_elim
    (λ less. ap (number_of a) (drop_all k bits (omega (arith, less))) ∙ halved_away a bits k less)
    (λ within.
    let width : length (take k bits) ≡ k = length-take-le k bits within in
    let split : number_of a bits ≡ number_of a (drop k bits) * 2 ^ k + number_of a (take k bits) =
    ap (number_of a) (sym (take-append-drop k bits)) ∙ number_of-append a (take k bits) (drop k bits)
    ∙ number_over-split a (take k bits) (number_of a (drop k bits))
    ∙ ap (λ w. number_of a (drop k bits) * 2 ^ w + number_of a (take k bits)) width in
    let small : number_of a (take k bits) < 2 ^ k = rw width at (number_small a (take k bits)) in
    sym (ap (λ n. n / 2 ^ k) split ∙ shr_high (number_of a (drop k bits)) k (number_of a (take k bits)) small))
    (cases_lt (length bits) k)

-- one digit more is copied
pub copied_more : (zs bits all : List Lit) (i : ℕ) (l : Lit) → i < length bits → l ≡ get_or bits i l
    → zs ++ drop i bits ≡ all → (zs ++ l ∷ []) ++ drop (i + 1) bits ≡ all
copied_more zs bits all i l less at before =
    append_assoc zs (l ∷ []) (drop (i + 1) bits)
    ∙ ap (λ ls. zs ++ ls) (sym (drop_more bits i l less ∙ ap (λ m. m ∷ drop (i + 1) bits) (sym at)))
    ∙ before

pub copied_all : (zs bits all : List Lit) (i : ℕ) → length bits ≤ i → zs ++ drop i bits ≡ all → zs ≡ all
copied_all zs bits all i past before = none_behind zs ∙ ap (λ ls. zs ++ ls) (sym (drop_all i bits past)) ∙ before
