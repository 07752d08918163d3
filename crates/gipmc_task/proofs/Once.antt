-- Answers in whatever order, each place once.
use Rattle.std.proofs.Common.{◌≡◌, ◌∙◌, ℕ, zero, suc, ◌+◌, ◌<◌, List, [], ◌∷◌, ◌++◌, ap, append-nil, arith, get_or, length, remove, subst, sym}
use Rattle.std.specs.Prelude.{IsPermutation}
use Rattle.std.specs.List.{range_with_len}
use Rattle.std.proofs.lemmas.List.{get_or-append-add, length-append, map-append}
use Rattle.std.proofs.lemmas.List.Elements.{All-from_get_or}
use Rattle.std.proofs.lemmas.List.FromFn.{get_or-range_with_len, length-range_with_len}
use Rattle.std.proofs.lemmas.List.Sorted.{All-permutation, IsPermutation-more, IsPermutation-refl, IsPermutation-remove}
use Rattle.std.proofs.lemmas.List.Sorted.{IsPermutation-sym, length_permutation}
use Rattle.gipmc_aiger.specs.Lists.{Every}
use Rattle.gipmc_circuits.specs.declared.circuit.Circuit.{Circuit}
use Rattle.gipmc_task.proofs.Each.{every_append}
use Rattle.gipmc_task.specs.Answers.{Tells, TellsAll, TellsEach, TellsFirst}
use Rattle.gipmc_task.specs.Verdicts.{place_of, places_of}
use Rattle.gipmc_task.specs.declared.answered.Answered.{Answered}
use Rattle.gipmc_task.specs.declared.output.AnswerOrder.{AnswerOrder}
use Rattle.gipmc_task.specs.declared.output.AnswerOrder.TheVariants.{Known, Places}

-- one number more
range_next : (a n j : ℕ) → a + n ≡ j → range_with_len a (suc n) ≡ range_with_len a n ++ j ∷ []
range_next a zero j is = let same : a ≡ j = omega (arith, is) in ap (λ k. k ∷ []) same
range_next a (suc n) j is = ap (λ ks. a ∷ ks) (range_next (a + 1) n j (omega (arith, is)))

pub range-more : (n : ℕ) → range_with_len 0 (n + 1) ≡ range_with_len 0 n ++ n ∷ []
range-more n =
    let next : suc n ≡ n + 1 = omega arith in
    subst (λ k. range_with_len 0 k ≡ range_with_len 0 n ++ n ∷ []) next (range_next 0 n n (omega arith))

-- each of them is one of the first n
within_range : (n k d : ℕ) → k < length (range_with_len 0 n) → get_or (range_with_len 0 n) k d < n
within_range n k d less =
    let below : k < n = omega (arith, less, length-range_with_len 0 n) in
    omega (arith, below, get_or-range_with_len 0 n k d below)

-- so is one that is left of them
pub left_within : (n : ℕ) (done left : List ℕ) (i x : ℕ) → IsPermutation (range_with_len 0 n) (done ++ left)
    → i < length left → x ≡ get_or left i x → x < n
left_within n done left i x all less is =
    let each = All-permutation (λ k. k < n) (range_with_len 0 n) (done ++ left) all
    (All-from_get_or (λ k. k < n) (range_with_len 0 n) 0 (λ k lower. within_range n k 0 lower)) in
    let here : length done + i < length (done ++ left) = omega (arith, less, length-append done left) in
    subst (λ k. k < n) (get_or-append-add done left i x ∙ sym is) (each (length done + i) x here)

-- and there is one less then
pub left_shorter : (left : List ℕ) (i x : ℕ) → i < length left → x ≡ get_or left i x → length (remove left i) + 1 ≡ length left
left_shorter left i x less is =
    omega (arith, length_permutation left (x ∷ remove left i) (IsPermutation-remove left i x less is))

-- at first there are n
pub left_count : (n : ℕ) (left : List ℕ) → IsPermutation (range_with_len 0 n) left → length left ≡ n
left_count n left all = length_permutation (range_with_len 0 n) left all ∙ length-range_with_len 0 n

-- the answers are right ones on the places that they name
abbrev RightAt : (ℕ → Answered → Type 0) → Answered → Type 0
RightAt P a = P (place_of a.property) a

-- one more of those that are left is answered
pub once-more : (n : ℕ) (answers : List Answered) (left : List ℕ) (i x : ℕ) (a : Answered)
    → IsPermutation (range_with_len 0 n) (places_of answers ++ left) → i < length left → x ≡ get_or left i x
    → place_of a.property ≡ x → IsPermutation (range_with_len 0 n) (places_of (answers ++ a ∷ []) ++ remove left i)
once-more n answers left i x a once less is of =
    let same : places_of (answers ++ a ∷ []) ≡ places_of answers ++ x ∷ [] =
    map-append (λ b. place_of b.property) answers (a ∷ []) ∙ ap (λ k. places_of answers ++ k ∷ []) of in
    subst (λ ks. IsPermutation (range_with_len 0 n) (ks ++ remove left i)) (sym same)
    (IsPermutation-more (range_with_len 0 n) (places_of answers) left i x less is once)

pub right-more : (P : ℕ → Answered → Type 0) (answers : List Answered) (x : ℕ) (a : Answered)
    → Every (λ b. P (place_of b.property) b) answers → place_of a.property ≡ x → P x a
    → Every (λ b. P (place_of b.property) b) (answers ++ a ∷ [])
right-more P answers x a right of tells =
    every_append (RightAt P) answers (a ∷ []) right (subst (λ k. P k a) (sym of) tells, tt)

-- none is left
pub TellsEach-last : (P : ℕ → Answered → Type 0) (n : ℕ) (answers : List Answered) (left : List ℕ) → left ≡ []
    → IsPermutation (range_with_len 0 n) (places_of answers ++ left) → Every (λ b. P (place_of b.property) b) answers
    → TellsEach P n answers
TellsEach-last P n answers left none once right = record {
  once = subst (IsPermutation (range_with_len 0 n)) (ap (λ ks. places_of answers ++ ks) none ∙ append-nil (places_of answers)) once;
  right = right;
}

-- what holds of each place that is named holds of each of the first n
every_at : (P : ℕ → Type 0) (xs : List ℕ) → Every P xs → (k : ℕ) (d : ℕ) → k < length xs → P (get_or xs k d)
every_at P [] all k d less = absurd (omega (arith, less))
every_at P (x ∷ xs) (here, rest) zero d less = here
every_at P (x ∷ xs) (here, rest) (suc k) d less = every_at P xs rest k d (omega (arith, less))

pub of_each : (P : ℕ → Type 0) (n : ℕ) (places : List ℕ) → IsPermutation (range_with_len 0 n) places → Every P places
    → (k : ℕ) → k < n → P k
of_each P n places once all k less =
    let each = All-permutation P places (range_with_len 0 n) (IsPermutation-sym (range_with_len 0 n) places once)
    (every_at P places all) in
    let same : get_or (range_with_len 0 n) k 0 ≡ k = omega (arith, get_or-range_with_len 0 n k 0 less) in
    subst P same (each k 0 (omega (arith, less, length-range_with_len 0 n)))

-- the place that an answer tells of is the one that it names
pub names_own : (c : Circuit) (k : ℕ) (a : Answered) → Tells c k a → place_of a.property ≡ k
names_own c k a (of, small, rest) = ap place_of of

-- those in turn name each place once
first_places : (P : ℕ → Answered → Type 0) → ((k : ℕ) (a : Answered) → P k a → place_of a.property ≡ k)
    → (n : ℕ) (answers : List Answered) → TellsFirst P n answers → places_of answers ≡ range_with_len 0 n
first_places P own zero answers none = ap places_of none
first_places P own (suc n) answers (before, last, first, tells, is) =
    ap places_of is ∙ map-append (λ a. place_of a.property) before (last ∷ [])
    ∙ ap (λ ks. ks ++ place_of last.property ∷ []) (first_places P own n before first)
    ∙ ap (λ k. range_with_len 0 n ++ k ∷ []) (own n last tells)
    ∙ sym (range_next 0 n n (omega arith))

first_right : (P : ℕ → Answered → Type 0) → ((k : ℕ) (a : Answered) → P k a → place_of a.property ≡ k)
    → (n : ℕ) (answers : List Answered) → TellsFirst P n answers → Every (λ b. P (place_of b.property) b) answers
first_right P own zero answers none = subst (Every (RightAt P)) (sym none) tt
first_right P own (suc n) answers (before, last, first, tells, is) =
    subst (Every (RightAt P)) (sym is)
    (right-more P before n last (first_right P own n before first) (own n last tells) tells)

-- so they are in either order
pub TellsAll-first : (order : AnswerOrder) (P : ℕ → Answered → Type 0)
    → ((k : ℕ) (a : Answered) → P k a → place_of a.property ≡ k)
    → (n : ℕ) (answers : List Answered) → TellsFirst P n answers → TellsAll order P n answers
TellsAll-first Places P own n answers first = first
TellsAll-first Known P own n answers first = record {
  once = subst (IsPermutation (range_with_len 0 n)) (sym (first_places P own n answers first))
      (IsPermutation-refl (range_with_len 0 n));
  right = first_right P own n answers first;
}
