-- An iterator over the true places: what it has left, as the words from the one in hand on.
use Rattle.std.proofs.Common.{◌≡◌, ◌≢◌, ℕ, zero, suc, ◌+◌, ◌-◌, ◌*◌, ◌/◌, ◌%◌, ◌^◌, ◌<◌, ◌≤◌, Bool, true, false, ◌&&◌, List, [], ◌∷◌, ◌++◌, length, get_or, set, drop, replicate, refl, sym, ap, ◌∙◌, arith, inl, inr, eqb, w64}
use Rattle.std.specs.Prelude.{bit_and, IfSome, IfNone, MatchOption, Option, Some, None}
use Rattle.std.specs.Int.{trailing_zeros}
use Rattle.std.proofs.lemmas.Nat.Bits.{bit_at-trailing_zeros}
use Rattle.std.proofs.Math.Bool.{and-true, and-false}
use Rattle.std.proofs.lemmas.Bool.{cases_eq, cases_lt, false≢true}
use Rattle.std.proofs.lemmas.List.{length-append, length-replicate, length-drop, get_or-replicate, get_or_append_left, get_or-append_right, get_or-drop}
use Rattle.giputils_bits.specs.Prelude.{HasNoneFrom, IsNextOne, IsPacked, SetsDigit, bits_of, has_digit, place, true_places, words_from}
use Rattle.giputils_bits.proofs.Digits.{has_digit-zero, has_digit-ones, has_digit-shl_low, has_digit-shl_high, has_digit-and}
use Rattle.giputils_bits.proofs.Places.{place_is, place-past, SetsPlace, length-bits_of, get_or-bits_of, get_or-bits_of_all, bits_of_is, bits_of-SetsPlace}

-- ---- true places of a list
-- a list of which no place is true
pub true_places-none : (start : ℕ) (bs : List Bool) → ((i : ℕ) → get_or bs i false ≡ false) → true_places start bs ≡ []
true_places-none start [] none = refl
true_places-none start (true ∷ bs) none = absurd (false≢true (sym (none 0)))
true_places-none start (false ∷ bs) none = true_places-none (start + 1) bs (λ i. none (suc i))

-- places behind the list that are false
pub true_places-padded : (start : ℕ) (bs : List Bool) (m : ℕ) → true_places start (bs ++ replicate m false) ≡ true_places start bs
true_places-padded start [] zero = refl
true_places-padded start [] (suc m) = true_places-padded (start + 1) [] m
true_places-padded start (true ∷ bs) m = ap (λ is. start ∷ is) (true_places-padded (start + 1) bs m)
true_places-padded start (false ∷ bs) m = true_places-padded (start + 1) bs m

-- the first true place taken away
pub true_places-first : (start : ℕ) (bs : List Bool) (i j : ℕ) → get_or bs i false ≡ true → ((k : ℕ) → k < i → get_or bs k false ≡ false) → start + i ≡ j
    → true_places start bs ≡ j ∷ true_places start (set bs i false)
true_places-first start [] i j holds least at = absurd (false≢true holds)
true_places-first start (true ∷ bs) zero j holds least at = ap (λ n. n ∷ true_places (start + 1) bs) (omega (arith, at))
true_places-first start (false ∷ bs) zero j holds least at = absurd (false≢true holds)
true_places-first start (true ∷ bs) (suc i) j holds least at = absurd (false≢true (sym (least 0 (omega arith))))
true_places-first start (false ∷ bs) (suc i) j holds least at = true_places-first (start + 1) bs i j holds (λ k l. least (suc k) (omega arith)) (omega (arith, at))

behind_false : (bs : List Bool) (i : ℕ) → ((k : ℕ) → k < i → get_or bs k false ≡ false) → (k : ℕ) → k < suc i → get_or (false ∷ bs) k false ≡ false
behind_false bs i none zero l = refl
behind_false bs i none (suc k) l = none k (omega arith)

-- a first true place is true, and none before it is
first_holds : (start : ℕ) (bs : List Bool) (j : ℕ) (js : List ℕ) → true_places start bs ≡ j ∷ js
    → (i : ℕ) × (start + i ≡ j) × (get_or bs i false ≡ true) × ((k : ℕ) → k < i → get_or bs k false ≡ false)
first_holds start [] j js e = cc
first_holds start (true ∷ bs) j js e = (0, omega (arith, ap (λ is. get_or is 0 0) e), refl, λ k l. absurd (omega arith))
first_holds start (false ∷ bs) j js e =
    let rest = first_holds (start + 1) bs j js e in
    (suc rest.0, omega (arith, rest.1), rest.2, λ k l. behind_false bs rest.0 rest.3 k l)

none_without_first : (start : ℕ) (bs : List Bool) → true_places start bs ≡ [] → (i : ℕ) → get_or bs i false ≡ false
none_without_first start [] e i = refl
none_without_first start (true ∷ bs) e i = cc
none_without_first start (false ∷ bs) e zero = refl
none_without_first start (false ∷ bs) e (suc i) = none_without_first (start + 1) bs e i

-- what the first true place of one list says of another, which is as it is from `start` on
module _ (bs cs : List Bool) (start : ℕ) (low : (j : ℕ) → j < start → get_or cs j false ≡ false) (same : (j : ℕ) → start ≤ j → get_or cs j false ≡ get_or bs j false) where
  pub next_is_first : (r : Option ℕ) (rest : List ℕ) (N : Type 0) → MatchOption r N (λ i. true_places 0 cs ≡ i ∷ rest) → IfSome r (IsNextOne bs start)
  next_is_first None rest N m = tt
  next_is_first (Some i) rest N m =
      let first = first_holds 0 cs i rest m in
      let at : first.0 ≡ i = omega (arith, first.1) in
      let holds : get_or cs i false ≡ true = rw at at first.2 in
      let past : start ≤ i = elim (cases_lt i start) [
        | inl l ↦ absurd (false≢true (sym (low i l) ∙ holds))
        | inr l ↦ l
      ] in
      record { past = past; holds = sym (same i past) ∙ holds; least = λ k h l. sym (same k h) ∙ first.3 k (omega (arith, at)) }

  pub none_is_first : (r : Option ℕ) (N : Type 0) (P : ℕ → Type 0) → MatchOption r ((true_places 0 cs ≡ []) × N) P → IfNone r (HasNoneFrom bs start)
  none_is_first None N P m = λ k h. sym (same k h) ∙ none_without_first 0 cs m.0 k
  none_is_first (Some i) N P m = tt

-- ---- the words from one on
length-words_from : (k w : ℕ) (ws : List ℕ) → k < length ws → length (words_from k w ws) ≡ length ws
length-words_from k w ws within = omega (arith, length-append (replicate k 0) (w ∷ drop (k + 1) ws), length-replicate {A = ℕ} k 0, length-drop (k + 1) ws)

word-before : (k w : ℕ) (ws : List ℕ) (j : ℕ) → j < k → get_or (words_from k w ws) j 0 ≡ 0
word-before k w ws j l = get_or_append_left (replicate k 0) (w ∷ drop (k + 1) ws) 0 j (omega (arith, length-replicate {A = ℕ} k 0)) ∙ get_or-replicate k j 0 0 l

word-at : (k w : ℕ) (ws : List ℕ) → get_or (words_from k w ws) k 0 ≡ w
word-at k w ws =
    let none : k - k ≡ 0 = omega arith in
    get_or-append_right (replicate k 0) (w ∷ drop (k + 1) ws) k k 0 (length-replicate k 0) (omega arith) ∙ ap (λ i. get_or (w ∷ drop (k + 1) ws) i 0) none

word-after : (k w : ℕ) (ws : List ℕ) (j : ℕ) → k < j → get_or (words_from k w ws) j 0 ≡ get_or ws j 0
word-after k w ws j l =
    let behind : j - k ≡ suc (j - (k + 1)) = omega arith in
    let back : k + 1 + (j - (k + 1)) ≡ j = omega arith in
    get_or-append_right (replicate k 0) (w ∷ drop (k + 1) ws) k j 0 (length-replicate k 0) (omega arith)
    ∙ ap (λ i. get_or (w ∷ drop (k + 1) ws) i 0) behind
    ∙ get_or-drop (k + 1) ws (j - (k + 1)) 0 ∙ ap (λ i. get_or ws i 0) back

-- the places of them
place-before : (k w : ℕ) (ws : List ℕ) (j : ℕ) → j / 64 < k → place (words_from k w ws) j ≡ false
place-before k w ws j l = rw (place_is (words_from k w ws) j, word-before k w ws (j / 64) l) (has_digit-zero (j % 64))

place-at : (k w : ℕ) (ws : List ℕ) (j : ℕ) → j / 64 ≡ k → place (words_from k w ws) j ≡ has_digit w (j % 64)
place-at k w ws j e = rw (place_is (words_from k w ws) j, e, word-at k w ws) refl

place-after : (k w : ℕ) (ws : List ℕ) (j : ℕ) → k < j / 64 → place (words_from k w ws) j ≡ place ws j
place-after k w ws j l = rw (place_is (words_from k w ws) j, word-after k w ws (j / 64) l) (sym (place_is ws j))

-- all words
words_from-all : (ws : List ℕ) → 0 < length ws → words_from 0 (get_or ws 0 0) ws ≡ ws
words_from-all [] some = absurd (omega arith)
words_from-all (w ∷ ws) some = refl

-- a place taken away
SetsPlace-words_from : (k w v t : ℕ) (ws : List ℕ) → k < length ws → t < 64 → SetsDigit w v t false → SetsPlace (words_from k w ws) (words_from k v ws) (64 * k + t) false
SetsPlace-words_from k w v t ws within small s =
    let word : (64 * k + t) / 64 ≡ k = omega arith in
    let digit : (64 * k + t) % 64 ≡ t = omega arith in
    record {
      count = length-words_from k v ws within ∙ sym (length-words_from k w ws within);
      at = place-at k v ws (64 * k + t) word ∙ rw digit s.at;
      others = λ j other. elim (cases_lt (j / 64) k) [
        | inl l ↦ place-before k v ws j l ∙ sym (place-before k w ws j l)
        | inr l ↦ elim (cases_eq (j / 64) k) [
          | inl e ↦ place-at k v ws j e ∙ s.others (j % 64) (omega arith) (λ q. other (omega arith)) ∙ sym (place-at k w ws j e)
          | inr m ↦ place-after k v ws j (omega arith) ∙ sym (place-after k w ws j (omega arith))
        ]
      ];
    }

-- the lowest one of a word
pub lowest_one : (w : ℕ) → w ≢ 0 → w < 2 ^ 64
    → (trailing_zeros w64 w < 64) × (has_digit w (trailing_zeros w64 w) ≡ true) × ((i : ℕ) → i < trailing_zeros w64 w → has_digit w i ≡ false)
lowest_one w some fits =
    let low = bit_at-trailing_zeros w64 w (omega (arith, some)) fits in
    (low.0, ap (λ n. eqb n 1) low.1, λ i l. ap (λ n. eqb n 1) (low.2 i l))

-- ---- what is left
module _ (k w : ℕ) (ws : List ℕ) (within : k < length ws) where
  -- the bits of the words from k on, of which the k-th is w
  abbrev pub left : List Bool
  left = bits_of (64 * length ws) (words_from k w ws)

  get_or-left : (i : ℕ) → get_or left i false ≡ place (words_from k w ws) i
  get_or-left i = get_or-bits_of_all (64 * length ws) (words_from k w ws) (λ j past. place-past (words_from k w ws) j (omega (arith, length-words_from k w ws within))) i

  -- the lowest one of the word is given
  pub left-next : (t v : ℕ) → t < 64 → has_digit w t ≡ true → ((i : ℕ) → i < t → has_digit w i ≡ false) → SetsDigit w v t false
      → true_places 0 left ≡ (64 * k + t) ∷ true_places 0 (bits_of (64 * length ws) (words_from k v ws))
  left-next t v small holds least s =
      let word : (64 * k + t) / 64 ≡ k = omega arith in
      let digit : (64 * k + t) % 64 ≡ t = omega arith in
      true_places-first 0 left (64 * k + t) (64 * k + t)
      (get_or-left (64 * k + t) ∙ place-at k w ws (64 * k + t) word ∙ rw digit holds)
      (λ j l. get_or-left j ∙ elim (cases_lt (j / 64) k) [
        | inl h ↦ place-before k w ws j h
        | inr h ↦ place-at k w ws j (omega arith) ∙ least (j % 64) (omega arith)
      ])
      (omega arith)
      ∙ ap (λ bs. (64 * k + t) ∷ true_places 0 bs) (sym (bits_of-SetsPlace (64 * length ws) _ _ (64 * k + t) false (omega arith) (SetsPlace-words_from k w v t ws within small s)))

  -- nothing is left
  pub left-none : w ≡ 0 → k + 1 ≡ length ws → true_places 0 left ≡ []
  left-none zeros last = true_places-none 0 left (λ i. get_or-left i ∙ elim (cases_lt (i / 64) k) [
    | inl l ↦ place-before k w ws i l
    | inr l ↦ elim (cases_eq (i / 64) k) [
      | inl e ↦ place-at k w ws i e ∙ ap (λ x. has_digit x (i % 64)) zeros ∙ has_digit-zero (i % 64)
      | inr m ↦ place-past (words_from k w ws) i (omega (arith, length-words_from k w ws within))
    ]
  ])

-- at first all is left
pub left-all : (n : ℕ) (ws : List ℕ) → IsPacked n ws → true_places 0 (bits_of (64 * length ws) (words_from 0 (get_or ws 0 0) ws)) ≡ true_places 0 (bits_of n ws)
left-all n ws p =
    let more : ℕ = 64 * length ws - n in
    ap (λ vs. true_places 0 (bits_of (64 * length ws) vs)) (words_from-all ws (omega (arith, p.count)))
    ∙ ap (true_places 0) (bits_of_is (64 * length ws) ws (bits_of n ws ++ replicate more false)
    (omega (arith, length-append (bits_of n ws) (replicate more false), length-bits_of n ws, length-replicate more false, p.count))
    (λ i l. elim (cases_lt i n) [
      | inl h ↦ sym (get_or_append_left (bits_of n ws) (replicate more false) false i (omega (arith, length-bits_of n ws)) ∙ get_or-bits_of n ws i false h)
      | inr h ↦ p.padding i h ∙ sym (get_or-append_right (bits_of n ws) (replicate more false) n i false (length-bits_of n ws) h ∙ get_or-replicate more (i - n) false false (omega arith))
    ]))
    ∙ true_places-padded 0 (bits_of n ws) more

-- ---- from a place on
-- the word of the place, without the places before
abbrev pub word_past : List ℕ → ℕ → ℕ
word_past ws start = bit_and (get_or ws (start / 64) 0) ((2 ^ 64 - 1) * 2 ^ (start % 64) % 2 ^ 64)

module _ (n : ℕ) (ws : List ℕ) (start : ℕ) (inside : start < n) (p : IsPacked n ws) where
  pub within_words : start / 64 < length ws
  within_words = omega (arith, p.count)

  pub past-low : (j : ℕ) → j < start → get_or (left (start / 64) (word_past ws start) ws within_words) j false ≡ false
  past-low j l = get_or-left (start / 64) (word_past ws start) ws within_words j ∙ elim (cases_lt (j / 64) (start / 64)) [
    | inl h ↦ place-before (start / 64) (word_past ws start) ws j h
    | inr h ↦ place-at (start / 64) (word_past ws start) ws j (omega arith)
        ∙ has_digit-and _ _ (j % 64)
        ∙ ap (λ b. has_digit (get_or ws (start / 64) 0) (j % 64) && b) (has_digit-shl_low (2 ^ 64 - 1) (start % 64) (j % 64) (omega arith) (omega arith))
        ∙ and-false _
  ]

  pub past-same : (j : ℕ) → start ≤ j → get_or (left (start / 64) (word_past ws start) ws within_words) j false ≡ get_or (bits_of n ws) j false
  past-same j l = get_or-left (start / 64) (word_past ws start) ws within_words j ∙ elim (cases_eq (j / 64) (start / 64)) [
    | inl e ↦ place-at (start / 64) (word_past ws start) ws j e
        ∙ has_digit-and _ _ (j % 64)
        ∙ ap (λ b. has_digit (get_or ws (start / 64) 0) (j % 64) && b)
        (has_digit-shl_high (2 ^ 64 - 1) (start % 64) (j % 64) (omega arith) (omega arith)
        ∙ has_digit-ones 64 (j % 64 - start % 64) (omega arith))
        ∙ and-true _ ∙ ap (λ k. has_digit (get_or ws k 0) (j % 64)) (sym e) ∙ sym (place_is ws j)
    | inr m ↦ place-after (start / 64) (word_past ws start) ws j (omega arith)
  ] ∙ sym (get_or-bits_of_all n ws p.padding j)
