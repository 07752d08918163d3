-- Words that are rewritten one by one, and the lists that they keep then.
--
-- How it is proved: rewriting words in place. One record, `Rewrites f old new n`, with f of the index and the word,
-- serves logic and negation.
use Rattle.std.proofs.Common.{◌≡◌, ℕ, ◌+◌, ◌-◌, ◌*◌, ◌/◌, ◌%◌, ◌≢◌, ◌^◌, ◌<◌, Bool, true, false, ◌&&◌, not, List, map, length, replicate, ◌↔◌, get_or, set, refl, sym, ap, ◌∙◌, arith, inl, inr, w64}
use Rattle.std.specs.Prelude.{bit_and, bit_xor}
use Rattle.std.specs.Int.{bit_not}
use Rattle.std.proofs.Math.Bool.{and-true, and-false}
use Rattle.std.proofs.lemmas.List.{same_lists, length-map, get_or-map, get_or_past, get_or_default, length-set, length-replicate, get_or-replicate, get_or-set_same, get_or-set_other}
use Rattle.std.proofs.lemmas.Nat.Bits.{same_from_bits, bit_at-lt}
use Rattle.std.proofs.lemmas.Bool.{cases_eq, cases_lt}
use Rattle.giputils_bits.specs.Prelude.{IsPacked, MakesZeros, Rewrites, SetsDigit, bits_of, has_digit, not_of, place, without_digits, xor, zip_with}
use Rattle.giputils_bits.proofs.Digits.{has_digit-and, has_digit-xor, has_digit-not, has_digit-zero, has_digit-above, has_digit-ones, has_digit-ones_above, has_digit-shl_low, has_digit-shl_high, same_digit}
use Rattle.giputils_bits.proofs.Logic.{xor_true, xor_false, length-zip_with, get_or-zip_with, get_or-zip_with_all, get_or-falses, length-not_of, get_or-not_of}
use Rattle.giputils_bits.proofs.Places.{place_is, place-past, kept-length, length-bits_of, get_or-bits_of, get_or-bits_of_all, bits_of_is}

-- the digits of one that another has not
without_test : (a b : Bool) → xor a (a && b) ≡ (a && not b)
without_test true true = refl
without_test true false = refl
without_test false b = refl

pub has_digit-without : (a b i : ℕ) → has_digit (without_digits a b) i ≡ (has_digit a i && not (has_digit b i))
has_digit-without a b i = has_digit-xor a (bit_and a b) i ∙ ap (xor (has_digit a i)) (has_digit-and a b i) ∙ without_test (has_digit a i) (has_digit b i)

-- ---- a digit turned round
one-here : (k : ℕ) → k < 64 → has_digit (1 * 2 ^ k % 2 ^ 64) k ≡ true
one-here k within =
    let none : k - k ≡ 0 = omega arith in
    has_digit-shl_high 1 k k (omega arith) within ∙ ap (has_digit 1) none

one-elsewhere : (k j : ℕ) → j < 64 → j ≢ k → has_digit (1 * 2 ^ k % 2 ^ 64) j ≡ false
one-elsewhere k j within other = elim (cases_lt j k) [
  | inl l ↦ has_digit-shl_low 1 k j l within
  | inr l ↦ has_digit-shl_high 1 k j l within ∙ has_digit-above 1 1 (j - k) (omega arith) (omega arith)
]

pub SetsDigit-flip : (w k : ℕ) → k < 64 → SetsDigit w (bit_xor w (1 * 2 ^ k % 2 ^ 64)) k (not (has_digit w k))
SetsDigit-flip w k within = record {
  at = has_digit-xor w _ k ∙ ap (xor (has_digit w k)) (one-here k within) ∙ xor_true (has_digit w k);
  others = λ j l other. has_digit-xor w _ j ∙ ap (xor (has_digit w j)) (one-elsewhere k j l other) ∙ xor_false (has_digit w j);
}

-- ---- the loop
pub Rewrites-none : (f : ℕ → ℕ → ℕ) (old : List ℕ) → Rewrites f old old 0
Rewrites-none f old = record { count = refl; done = λ k l. absurd (omega arith); rest = λ k l. refl }

pub Rewrites-more : (f : ℕ → ℕ → ℕ) (old new : List ℕ) (i w : ℕ) → i < length new → w ≡ f i (get_or new i 0) → Rewrites f old new i → Rewrites f old (set new i w) (i + 1)
Rewrites-more f old new i w h e r = record {
  count = length-set new i w ∙ r.count;
  done = λ k l. elim (cases_eq k i) [
    | inl q ↦ rw (q, get_or-set_same new i w 0 h) (e ∙ ap (f i) (r.rest i (omega arith)))
    | inr m ↦ get_or-set_other new i k w 0 m ∙ r.done k (omega arith)
  ];
  rest = λ k l. get_or-set_other new i k w 0 (λ q. omega arith) ∙ r.rest k (omega arith);
}

pub Rewrites-map : (f : ℕ → ℕ) (old : List ℕ) → Rewrites (λ k w. f w) old (map f old) (length old)
Rewrites-map f old = record {
  count = length-map old f;
  done = λ k l. get_or-map f old k 0 0 l;
  rest = λ k h. get_or_past (map f old) k 0 (omega (arith, length-map old f)) ∙ sym (get_or_past old k 0 h);
}

-- lists of one length are kept in as many words
pub same_count : (m n : ℕ) (vs ws : List ℕ) (xs ys : List Bool) → bits_of m vs ≡ xs → bits_of n ws ≡ ys → IsPacked m vs → IsPacked n ws → length xs ≡ length ys → length vs ≡ length ws
same_count m n vs ws xs ys v w p q long = omega (arith, kept-length m vs xs v, kept-length n ws ys w, p.count, q.count, long)

-- ---- words joined with others, by an operation f whose digits are g of both digits
module _ (f : ℕ → ℕ → ℕ) (g : Bool → Bool → Bool) (law : (a b i : ℕ) → has_digit (f a b) i ≡ g (has_digit a i) (has_digit b i)) (zeros : g false false ≡ false) where
  place-joined : (old others new : List ℕ) → length old ≡ length others
      → Rewrites (λ k word. f word (get_or others k 0)) old new (length old) → (i : ℕ) → place new i ≡ g (place old i) (place others i)
  place-joined old others new e r i = elim (cases_lt (i / 64) (length old)) [
    | inl l ↦ rw (place_is new i, r.done (i / 64) l, place_is old i, place_is others i) (law _ _ (i % 64))
    | inr m ↦ rw (place-past new i (omega (arith, r.count)), place-past old i (omega arith), place-past others i (omega arith)) (sym zeros)
  ]

  bits_of-joined : (n : ℕ) (old others new : List ℕ) → length old ≡ length others
      → Rewrites (λ k word. f word (get_or others k 0)) old new (length old) → bits_of n new ≡ zip_with g (bits_of n old) (bits_of n others)
  bits_of-joined n old others new e r =
      let same : length (bits_of n old) ≡ length (bits_of n others) = length-bits_of n old ∙ sym (length-bits_of n others) in
      bits_of_is n new _ (length-zip_with g (bits_of n old) (bits_of n others) same ∙ length-bits_of n old) (λ i h.
      place-joined old others new e r i
      ∙ sym (get_or-zip_with g (bits_of n old) (bits_of n others) i (omega (arith, length-bits_of n old)) same
      ∙ rw (get_or-bits_of n old i false h, get_or-bits_of n others i false h) refl))

  -- lists of one length, kept in words that are joined
  pub joined : (m n : ℕ) (old others new : List ℕ) (xs ys : List Bool) → bits_of m old ≡ xs → bits_of n others ≡ ys → IsPacked m old → IsPacked n others → length xs ≡ length ys
      → Rewrites (λ k word. f word (get_or others k 0)) old new (length old) → IsPacked m new × (bits_of m new ≡ zip_with g xs ys)
  joined m n old others new xs ys v w p q long r =
      let same : m ≡ n = kept-length m old xs v ∙ long ∙ sym (kept-length n others ys w) in
      let count : length old ≡ length others = same_count m n old others xs ys v w p q long in (
        record {
          count = r.count ∙ p.count;
          padding = λ i h. place-joined old others new count r i ∙ rw (p.padding i h, q.padding i (omega (arith, same))) zeros;
        },
        bits_of-joined m old others new count r ∙ rw (v, same) (ap (λ zs. zip_with g xs zs) w),
      )

  -- words of which f makes zeros keep lists of which g has no true place
  pub no_place_joined : (old others : List ℕ) → length old ≡ length others → MakesZeros f old others → (i : ℕ) → g (place old i) (place others i) ≡ false
  no_place_joined old others e zero_each i = elim (cases_lt (i / 64) (length old)) [
    | inl l ↦ rw (place_is old i, place_is others i) (sym (law _ _ (i % 64)) ∙ ap (λ w. has_digit w (i % 64)) (zero_each (i / 64) l) ∙ has_digit-zero (i % 64))
    | inr m ↦ rw (place-past old i (omega arith), place-past others i (omega arith)) zeros
  ]

  zeros_from_places : (old others : List ℕ) → length old ≡ length others → ((k : ℕ) → get_or old k 0 < 2 ^ 64) → ((k : ℕ) → get_or others k 0 < 2 ^ 64)
      → ((i : ℕ) → g (place old i) (place others i) ≡ false) → MakesZeros f old others
  zeros_from_places old others e fits others_fit none k within = same_from_bits _ 0 (λ i. same_digit _ _ (bit_at-lt _ i) (bit_at-lt 0 i) (law _ _ i ∙ elim (cases_lt i 64) [
    | inl l ↦
        let word : (64 * k + i) / 64 ≡ k = omega arith in
        let digit : (64 * k + i) % 64 ≡ i = omega arith in
        (rw (place_is old (64 * k + i), place_is others (64 * k + i), word, digit) at (none (64 * k + i))) ∙ sym (has_digit-zero i)
    | inr l ↦ rw (has_digit-above (get_or old k 0) 64 i (fits k) l, has_digit-above (get_or others k 0) 64 i (others_fit k) l) (zeros ∙ sym (has_digit-zero i))
  ]))

  -- f makes zeros of words exactly where g has no true place of the lists that they keep
  pub joins_to_none : (m n : ℕ) (old others : List ℕ) (xs ys : List Bool) → bits_of m old ≡ xs → bits_of n others ≡ ys → IsPacked m old → IsPacked n others → length xs ≡ length ys
      → ((k : ℕ) → get_or old k 0 < 2 ^ 64) → ((k : ℕ) → get_or others k 0 < 2 ^ 64)
      → MakesZeros f old others ↔ (zip_with g xs ys ≡ replicate (length xs) false)
  joins_to_none m n old others xs ys v w p q long fits others_fit =
      let same : m ≡ n = kept-length m old xs v ∙ long ∙ sym (kept-length n others ys w) in
      let count : length old ≡ length others = same_count m n old others xs ys v w p q long in
      let old_at : (i : ℕ) → get_or xs i false ≡ place old i = λ i. ap (λ bs. get_or bs i false) (sym v) ∙ get_or-bits_of_all m old p.padding i in
      let other_at : (i : ℕ) → get_or ys i false ≡ place others i = λ i. ap (λ bs. get_or bs i false) (sym w) ∙ get_or-bits_of_all n others q.padding i in
      let joined_at : (i : ℕ) → get_or (zip_with g xs ys) i false ≡ g (place old i) (place others i) = λ i. get_or-zip_with_all g xs ys i zeros long ∙ rw (old_at i, other_at i) refl in (
        λ each. same_lists _ _ (length-zip_with g xs ys long ∙ sym (length-replicate (length xs) false)) (λ i d within.
            get_or_default _ i d false within ∙ joined_at i ∙ no_place_joined old others count each i
            ∙ sym (get_or-replicate (length xs) i false d (omega (arith, length-zip_with g xs ys long)))),
        λ none. zeros_from_places old others count fits others_fit (λ i. sym (joined_at i) ∙ ap (λ bs. get_or bs i false) none ∙ get_or-falses (length xs) i),
      )

-- ---- words negated, and the digits past the last place taken away
-- the word `last` of the negated words put anew, without its digits past the last of n places
abbrev pub masked : ℕ → List ℕ → List ℕ → List ℕ
masked n old mid = set mid ((n - 1) / 64) (bit_and (bit_not w64 (get_or old ((n - 1) / 64) 0)) (2 ^ (n - 64 * ((n - 1) / 64)) - 1))

module _ (n : ℕ) (old mid : List ℕ) (some : 0 < n) (p : IsPacked n old) (fits : (k : ℕ) → get_or old k 0 < 2 ^ 64) (r : Rewrites (λ k word. bit_not w64 word) old mid (length old)) where
  place-mid : (i : ℕ) → i / 64 < length old → place mid i ≡ not (place old i)
  place-mid i l = rw (place_is mid i, r.done (i / 64) l, place_is old i) (has_digit-not (get_or old (i / 64) 0) (i % 64) (fits (i / 64)) (omega arith))

  place-last : (i : ℕ) → i / 64 ≡ (n - 1) / 64 → place (masked n old mid) i ≡ (not (place old i) && has_digit (2 ^ (n - 64 * ((n - 1) / 64)) - 1) (i % 64))
  place-last i e =
      let last : ℕ = (n - 1) / 64 in
      let low : ℕ = 2 ^ (n - 64 * last) - 1 in
      let word : ℕ = get_or old last 0 in
      let here : place (masked n old mid) i ≡ has_digit (bit_and (bit_not w64 word) low) (i % 64) =
      place_is (masked n old mid) i ∙ ap (λ k. has_digit (get_or (masked n old mid) k 0) (i % 64)) e
      ∙ ap (λ w. has_digit w (i % 64)) (get_or-set_same mid last (bit_and (bit_not w64 word) low) 0 (omega (arith, r.count, p.count))) in
      let there : place old i ≡ has_digit word (i % 64) = place_is old i ∙ ap (λ k. has_digit (get_or old k 0) (i % 64)) e in
      here ∙ has_digit-and (bit_not w64 word) low (i % 64) ∙ ap (λ b. b && has_digit low (i % 64)) (has_digit-not word (i % 64) (fits last) (omega arith) ∙ ap not (sym there))

  place-other : (i : ℕ) → (i / 64 ≡ (n - 1) / 64 → ⊥) → place (masked n old mid) i ≡ place mid i
  place-other i m = place_is (masked n old mid) i ∙ ap (λ w. has_digit w (i % 64)) (get_or-set_other mid ((n - 1) / 64) (i / 64) _ 0 m) ∙ sym (place_is mid i)

  pub IsPacked-negated : IsPacked n (masked n old mid)
  IsPacked-negated = record {
    count = length-set mid ((n - 1) / 64) _ ∙ r.count ∙ p.count;
    padding = λ i h. elim (cases_eq (i / 64) ((n - 1) / 64)) [
      | inl e ↦ place-last i e ∙ ap (λ b. not (place old i) && b) (has_digit-ones_above (n - 64 * ((n - 1) / 64)) (i % 64) (omega arith)) ∙ and-false (not (place old i))
      | inr m ↦ place-past (masked n old mid) i
          (omega (
            arith,
            length-set mid ((n - 1) / 64)
                (bit_and (bit_not w64 (get_or old ((n - 1) / 64) 0)) (2 ^ (n - 64 * ((n - 1) / 64)) - 1)),
            r.count,
            p.count,
          ))
    ];
  }

  pub bits_of-negated : bits_of n (masked n old mid) ≡ not_of (bits_of n old)
  bits_of-negated = bits_of_is n (masked n old mid) _ (length-not_of (bits_of n old) ∙ length-bits_of n old) (λ i h.
      let turned : place (masked n old mid) i ≡ not (place old i) = elim (cases_eq (i / 64) ((n - 1) / 64)) [
        | inl e ↦ place-last i e ∙ ap (λ b. not (place old i) && b) (has_digit-ones (n - 64 * ((n - 1) / 64)) (i % 64) (omega arith)) ∙ and-true (not (place old i))
        | inr m ↦ place-other i m ∙ place-mid i (omega (arith, p.count))
      ] in
      turned ∙ sym (get_or-not_of (bits_of n old) i (omega (arith, length-bits_of n old)) ∙ ap not (get_or-bits_of n old i false h)))
