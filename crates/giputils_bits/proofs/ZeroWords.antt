-- Words that are tested many at once: what is made of all of them is gathered in one number.
use Rattle.std.proofs.Common.{◌≡◌, ℕ, ◌+◌, ◌-◌, ◌<◌, nat_eq, IsTrue, List, length, get_or, take, drop, ◌↔◌, sym, ap, ◌∙◌, arith, inl, inr}
use Rattle.std.specs.Prelude.{bit_or}
use Rattle.std.specs.Int.Bits.{or_zero_l}
use Rattle.std.proofs.lemmas.List.{get_or-take, get_or-drop, length-take, length-drop}
use Rattle.std.proofs.lemmas.Nat.{le_or_l, le_or_r}
use Rattle.std.proofs.lemmas.Bool.{cases_eq, cases_lt, eqb-true}
use Rattle.giputils_bits.specs.Places.{MakesZeros}

module _ (f : ℕ → ℕ → ℕ) where
  -- the number is 0 exactly where f makes 0 of the first k words and the ones at their places
  pub record GathersZeros (words others : List ℕ) (made k : ℕ) : Type 0 where
    pub each : made ≡ 0 → (i : ℕ) → i < k → f (get_or words i 0) (get_or others i 0) ≡ 0
    pub all : ((i : ℕ) → i < k → f (get_or words i 0) (get_or others i 0) ≡ 0) → made ≡ 0

  pub GathersZeros-more : (words others : List ℕ) (made x k : ℕ) → x ≡ f (get_or words k 0) (get_or others k 0)
      → GathersZeros words others made k → GathersZeros words others (bit_or made x) (k + 1)
  GathersZeros-more words others made x k is g = record {
    each = λ z i l. elim (cases_eq i k) [
      | inl q ↦ rw q (sym is ∙ omega (arith, z, le_or_r made x))
      | inr m ↦ g.each (omega (arith, z, le_or_l made x)) i (omega arith)
    ];
    all = λ each. ap (λ n. bit_or n x) (g.all (λ i l. each i (omega arith))) ∙ or_zero_l x ∙ is ∙ each k (omega arith);
  }

  pub zeros_where_none : (words others : List ℕ) (made : ℕ) → GathersZeros words others made (length words) → IsTrue (nat_eq made 0) ↔ MakesZeros f words others
  zeros_where_none words others made g = (
    λ t. g.each (eqb-true made 0 t),
    λ zeros. ap (λ n. nat_eq n 0) (g.all zeros),
  )

  -- of the first n words, and of the rest
  pub front_of_zeros : (n : ℕ) (xs ys : List ℕ) → MakesZeros f xs ys → MakesZeros f (take n xs) (take n ys)
  front_of_zeros n xs ys zeros k l =
      let before : k < n = omega (arith, length-take n xs) in
      rw (get_or-take n xs k 0 before, get_or-take n ys k 0 before) (zeros k (omega (arith, length-take n xs)))

  pub rest_of_zeros : (n : ℕ) (xs ys : List ℕ) → MakesZeros f (take n xs) (take n ys) → MakesZeros f (drop n xs) (drop n ys) ↔ MakesZeros f xs ys
  rest_of_zeros n xs ys front = (
    λ rest k l. elim (cases_lt k n) [
      | inl before ↦ rw (get_or-take n xs k 0 before, get_or-take n ys k 0 before) at (front k (omega (arith, length-take n xs)))
      | inr past ↦
          let at : n + (k - n) ≡ k = omega arith in
          rw (get_or-drop n xs (k - n) 0, get_or-drop n ys (k - n) 0, at) at (rest (k - n) (omega (arith, length-drop n xs)))
    ],
    λ zeros k l. rw (get_or-drop n xs k 0, get_or-drop n ys k 0) (zeros (n + k) (omega (arith, length-drop n xs))),
  )
