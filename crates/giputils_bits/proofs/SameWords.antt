-- Words that are compared many at once: the differences of all of them are gathered in one number.
use Rattle.std.proofs.Common.{◌≡◌, ℕ, ◌+◌, ◌%◌, ◌<◌, nat_eq, IsTrue, List, ◌++◌, length, get_or, take, drop, ◌↔◌, sym, ap, ◌∙◌, arith, inl, inr}
use Rattle.std.specs.Prelude.{bit_or, bit_xor}
use Rattle.std.specs.Int.{bit_at}
use Rattle.std.specs.Int.Bits.{or_zero_l, xor_self}
use Rattle.std.proofs.lemmas.List.{same_lists, get_or_default, take-append-drop}
use Rattle.std.proofs.lemmas.Nat.{le_or_l, le_or_r}
use Rattle.std.proofs.lemmas.Nat.Bits.{same_from_bits, bit_at-zero, bit_at-lt, bit_at_xor}
use Rattle.std.proofs.lemmas.Bool.{cases_eq, eqb-true}

-- numbers that do not differ are equal
pub same_from_xor : (a b : ℕ) → bit_xor a b ≡ 0 → a ≡ b
same_from_xor a b none = same_from_bits a b (λ i.
    let even : (bit_at a i + bit_at b i) % 2 ≡ 0 = sym (bit_at_xor a b i) ∙ ap (λ n. bit_at n i) none ∙ bit_at-zero i in
    omega (arith, even, bit_at-lt a i, bit_at-lt b i))

-- the number is 0 exactly where the first k words are the same
pub record GathersDifferences (words others : List ℕ) (differences k : ℕ) : Type 0 where
  pub same : differences ≡ 0 → (i : ℕ) → i < k → get_or words i 0 ≡ get_or others i 0
  pub none : ((i : ℕ) → i < k → get_or words i 0 ≡ get_or others i 0) → differences ≡ 0

pub GathersDifferences-more : (words others : List ℕ) (differences k : ℕ) → GathersDifferences words others differences k
    → GathersDifferences words others (bit_or differences (bit_xor (get_or words k 0) (get_or others k 0))) (k + 1)
GathersDifferences-more words others d k g =
    let x : ℕ = bit_xor (get_or words k 0) (get_or others k 0) in
    record {
      same = λ z i l. elim (cases_eq i k) [
        | inl q ↦ rw q (same_from_xor _ _ (omega (arith, z, le_or_r d x)))
        | inr m ↦ g.same (omega (arith, z, le_or_l d x)) i (omega arith)
      ];
      none = λ same.
          ap (λ n. bit_or n x) (g.none (λ i l. same i (omega arith))) ∙ or_zero_l x
          ∙ ap (λ n. bit_xor n (get_or others k 0)) (same k (omega arith)) ∙ xor_self (get_or others k 0);
    }

-- where they are gathered from all words, the lists are equal exactly where there is none
pub same_where_none : (words others : List ℕ) (differences : ℕ) → length words ≡ length others → GathersDifferences words others differences (length words)
    → IsTrue (nat_eq differences 0) ↔ (words ≡ others)
same_where_none words others d long g = (
  λ t. same_lists words others long (λ k x within.
      get_or_default words k x 0 within ∙ g.same (eqb-true d 0 t) k within ∙ sym (get_or_default others k x 0 (omega (arith, long)))),
  λ e. ap (λ n. nat_eq n 0) (g.none (λ i l. ap (λ ws. get_or ws i 0) e)),
)

-- lists that begin alike are equal exactly where the rest of both is
pub same_rests : (n : ℕ) (xs ys : List ℕ) → take n xs ≡ take n ys → (drop n xs ≡ drop n ys) ↔ (xs ≡ ys)
same_rests n xs ys front = (
  λ back. sym (take-append-drop n xs) ∙ ap (λ zs. zs ++ drop n xs) front ∙ ap (λ zs. take n ys ++ zs) back ∙ take-append-drop n ys,
  λ e. ap (drop n) e,
)
