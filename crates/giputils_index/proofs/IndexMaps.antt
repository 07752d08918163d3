-- A map of indexes that a loop has made as far as a place.
use mir.Val.{bool_byte}
use Rattle.std.specs.Prelude.{◌≡◌, ℕ, zero, suc, ◌+◌, ◌<◌, ◌≤◌, Bool, not, true, false, cond, List, [], ◌∷◌, ◌++◌, length, take, slice_set, refl, Option, Some, None, if◌then◌else◌, nat_eq, nat_lt}
use Rattle.std.proofs.Common.{arith, get_or, sym, ap, ◌∙◌, inl, inr}
use Rattle.std.proofs.lemmas.List.{length-take-le, take-set, take_more, take_more_set}
use Rattle.std.proofs.lemmas.Bool.{cases_lt, lt-ltb, le-ltb}
use Rattle.std.proofs.lemmas.Bool.Decides.{nat_tests}
use Rattle.giputils_index.specs.Allocator.{mark_at, new_index, index_map, put_in_turn, table_at, AreMarked, AreUnmarked}
use Rattle.giputils_index.proofs.Renumbering.{index_map-past, index_map-marked, index_map-unmarked, new_index-suc, new_index-next}

-- what the map m has of the places below n
abbrev pub up_to : (ℕ → Option ℕ) → ℕ → ℕ → Option ℕ
up_to m n q = if nat_lt q n then m q else None

-- one more entry: f is m up to i, and g is f with m i at i
pub up_to-put : (m f g : ℕ → Option ℕ) (i : ℕ) → ((q : ℕ) → f q ≡ up_to m i q) → ((q : ℕ) → g q ≡ cond (nat_eq i q) (m i) (f q)) → (q : ℕ) → g q ≡ up_to m (i + 1) q
up_to-put m f g i before put q =
    put q ∙ elim (cases_lt q i) [
      | inl less ↦ let other : nat_eq i q ≡ false = grind (arith, nat_tests) in rw (other, before q, lt-ltb q i less, lt-ltb q (i + 1) (omega arith))
      | inr more ↦ elim (cases_lt i q) [
        | inl later ↦ let other : nat_eq i q ≡ false = grind (arith, nat_tests) in rw (other, before q, le-ltb q i more, le-ltb q (i + 1) (omega arith))
        | inr less ↦ let here : nat_eq i q ≡ true = grind (arith, nat_tests) in let same : i ≡ q = omega arith in rw (here, lt-ltb q (i + 1) (omega arith)) (ap m same)
      ]
    ]

-- a table with one more entry
pub table_at-push : (table : List (Option ℕ)) (i : ℕ) (entry : Option ℕ) (q : ℕ) → length table ≡ i
    → table_at (table ++ entry ∷ []) q ≡ cond (nat_eq i q) entry (table_at table q)
table_at-push table i entry q len = rw (← len) (at table q)
  where
    at : (es : List (Option ℕ)) (k : ℕ) → table_at (es ++ entry ∷ []) k ≡ cond (nat_eq (length es) k) entry (table_at es k)
    at [] zero = refl
    at [] (suc k) = let other : nat_eq 0 (suc k) ≡ false = grind (arith, nat_tests) in rw other refl
    at (e ∷ es) zero = let other : nat_eq (suc (length es)) 0 ≡ false = grind (arith, nat_tests) in rw other refl
    at (e ∷ es) (suc k) = let same : nat_eq (suc (length es)) (suc k) ≡ nat_eq (length es) k = grind (arith, nat_tests) in at es k ∙ ap (λ b. cond b entry (table_at es k)) (sym same)

-- up to the end, it is the whole map
pub up_to-all : {T : Type 0} (slots : List (T × Bool)) (n i : ℕ) → length slots ≤ n → up_to (index_map slots) n i ≡ index_map slots i
up_to-all slots n i all = elim (cases_lt i n) [
  | inl less ↦ rw (lt-ltb i n less)
  | inr more ↦ rw (le-ltb i n more) (sym (index_map-past slots i (omega arith)))
]

-- ---- keys that are put in turn
pub put_in_turn-more : (f : ℕ → Option ℕ) (ks : List ℕ) (k n q : ℕ)
    → put_in_turn f (ks ++ k ∷ []) n q ≡ (if nat_eq k q then Some (n + length ks) else put_in_turn f ks n q)
put_in_turn-more f [] k n q = let same : n + 0 ≡ n = omega arith in rw same refl
put_in_turn-more f (x ∷ ks) k n q =
    let g : ℕ → Option ℕ = λ p. if nat_eq x p then Some n else f p in
    let number : n + 1 + length ks ≡ n + length (x ∷ ks) = omega arith in
    put_in_turn-more g ks k (n + 1) q ∙ ap (λ m. if nat_eq k q then Some m else put_in_turn g ks (n + 1) q) number

-- key i is put behind those before it
pub put_in_turn-step : (f g h : ℕ → Option ℕ) (ks : List ℕ) (i n next d : ℕ) → i < length ks → next ≡ n + i
    → ((q : ℕ) → g q ≡ put_in_turn f (take i ks) n q)
    → ((q : ℕ) → h q ≡ (if nat_eq (get_or ks i d) q then Some next else g q))
    → (q : ℕ) → h q ≡ put_in_turn f (take (i + 1) ks) n q
put_in_turn-step f g h ks i n next d inside number before put q =
    let behind : next ≡ n + length (take i ks) = omega (arith, number, length-take-le i ks (omega arith)) in
    rw (take_more ks i d inside)
    (put q
    ∙ ap (λ v. if nat_eq (get_or ks i d) q then Some next else v) (before q)
    ∙ ap (λ m. if nat_eq (get_or ks i d) q then Some m else put_in_turn f (take i ks) n q) behind
    ∙ sym (put_in_turn-more f (take i ks) (get_or ks i d) n q))

-- a mark counts for one at the most
pub bool_byte-one : (b : Bool) → bool_byte b ≤ 1
bool_byte-one true = omega arith
bool_byte-one false = omega arith

module _ {T : Type 0} (slots : List (T × Bool)) where
  -- marked slots add nothing to the map
  up_to-marked : (f : ℕ → Option ℕ) (a b : ℕ) → ((q : ℕ) → f q ≡ up_to (index_map slots) a q) → a ≤ b → AreMarked slots a b
      → (q : ℕ) → f q ≡ up_to (index_map slots) b q
  up_to-marked f a b before le marked q =
      before q ∙ elim (cases_lt q a) [
        | inl less ↦ rw (lt-ltb q a less, lt-ltb q b (omega arith))
        | inr more ↦ elim (cases_lt q b) [
          | inl inside ↦ rw (le-ltb q a more, lt-ltb q b inside) (sym (index_map-marked slots q (marked q more inside)))
          | inr past ↦ rw (le-ltb q a more, le-ltb q b past)
        ]
      ]

  -- nor to the number of unmarked ones
  new_index-marked : (a b : ℕ) → a ≤ b → AreMarked slots a b → new_index slots b ≡ new_index slots a
  new_index-marked a zero le marked = let same : zero ≡ a = omega arith in ap (λ i. new_index slots i) same
  new_index-marked a (suc b) le marked = elim (cases_lt b a) [
    | inl less ↦ let same : suc b ≡ a = omega arith in ap (λ i. new_index slots i) same
    | inr more ↦
        let step = new_index-suc slots b true (marked b more (omega arith)) in
        let rest = new_index-marked a b more (λ k from below. marked k from (omega arith)) in
        omega (arith, step, rest)
  ]

  -- the unmarked slots from `start` on, put into the map of those before, make the map of those before `end`
  pub put-up_to : (f : ℕ → Option ℕ) (start end n : ℕ) (ks : List ℕ) → ((q : ℕ) → f q ≡ up_to (index_map slots) start q) → n ≡ new_index slots start
      → AreUnmarked slots start end ks
      → ((q : ℕ) → put_in_turn f ks n q ≡ up_to (index_map slots) end q) × (n + length ks ≡ new_index slots end)
  put-up_to f start end n [] before number all =
      let same = new_index-marked start end all.0 all.1 in (up_to-marked f start end before all.0 all.1, omega (arith, number, same))
  put-up_to f start end n (k ∷ ks) before number all =
      let there = up_to-marked f start k before all.0 all.1 in
      let here : n ≡ new_index slots k = number ∙ sym (new_index-marked start k all.0 all.1) in
      let is : index_map slots k ≡ Some n = index_map-unmarked slots k all.2 ∙ ap (λ m. Some m) (sym here) in
      let put = up_to-put (index_map slots) f (λ q. if nat_eq k q then Some n else f q) k there (λ q. ap (λ v. if nat_eq k q then v else f q) (sym is)) in
      let more = new_index-next slots k false all.2 in
      let rest = put-up_to (λ q. if nat_eq k q then Some n else f q) (k + 1) end (n + 1) ks put (omega (arith, more, here)) all.3 in
      (rest.0, omega (arith, rest.1))

  -- ---- the unmarked slots so far
  pub AreUnmarked-none : (start : ℕ) → AreUnmarked slots start start []
  AreUnmarked-none start = (omega arith, λ k from below. absurd (omega arith))

  AreUnmarked-marked : (start i : ℕ) (ks : List ℕ) → mark_at slots i ≡ Some true → AreUnmarked slots start i ks → AreUnmarked slots start (i + 1) ks
  AreUnmarked-marked start i [] marked all = (
    omega (arith, all.0),
    λ k from below. elim (cases_lt k i) [
      | inl less ↦ all.1 k from less
      | inr more ↦ let same : k ≡ i = omega arith in rw same marked
    ],
  )
  AreUnmarked-marked start i (k ∷ ks) marked all = (all.0, all.1, all.2, AreUnmarked-marked (k + 1) i ks marked all.3)

  AreUnmarked-more : (start i : ℕ) (ks : List ℕ) → mark_at slots i ≡ Some false → AreUnmarked slots start i ks → AreUnmarked slots start (i + 1) (ks ++ i ∷ [])
  AreUnmarked-more start i [] unmarked all = (all.0, all.1, unmarked, AreUnmarked-none (i + 1))
  AreUnmarked-more start i (k ∷ ks) unmarked all = (all.0, all.1, all.2, AreUnmarked-more (k + 1) i ks unmarked all.3)

  -- a slot is written behind them, and counts where it is unmarked
  pub AreUnmarked-step : (start i : ℕ) (ks : List ℕ) (count : ℕ) (removed : Bool) → count < length ks → mark_at slots i ≡ Some removed
      → AreUnmarked slots start i (take count ks) → AreUnmarked slots start (i + 1) (take (count + bool_byte (not removed)) (slice_set ks count i))
  AreUnmarked-step start i ks count true inside mark all =
      let same : count + 0 ≡ count = omega arith in rw (same, take-set ks count i) (AreUnmarked-marked start i (take count ks) mark all)
  AreUnmarked-step start i ks count false inside mark all = rw (take_more_set ks count i inside) (AreUnmarked-more start i (take count ks) mark all)
