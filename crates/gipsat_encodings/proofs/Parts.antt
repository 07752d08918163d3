-- Parts of lists of literals, and outputs that count them together.
use Rattle.std.proofs.Common.{◌≡◌, ℕ, zero, suc, ◌+◌, ◌-◌, ◌<◌, ◌≤◌, length-drop, Bool, List, [], ◌∷◌, ◌++◌, drop, get_or, length, take, Some, Result, Ok, Err, refl, sym, ap, subst, ◌∙◌, arith}
use Rattle.std.specs.Prelude.{min, slice_get, IfOk}
use Rattle.std.proofs.lemmas.List.{take-append-drop, take_all}
use Rattle.std.proofs.lemmas.Option.{slice_get_read}
use Rattle.gipsat_cnf.specs.Prelude.{Adds, AreBelow, Formula, Lit}
use Rattle.gipsat_cnf.proofs.Places.{none_some, same_some}
use Rattle.gipsat_encodings.specs.Extending.{DefinesPart}
use Rattle.gipsat_encodings.specs.Outputs.{AreFresh, AreSums, Counts, SumsPart}
use Rattle.gipsat_encodings.proofs.Agreeing.{AreBelow-more}
use Rattle.gipsat_encodings.proofs.Parities.{taken}
use Rattle.gipsat_encodings.proofs.Summing.{Counts-few, Counts-sums, DefinesPart-sums}

get-take : {A : Type 0} (k : ℕ) (xs : List A) (i : ℕ) (x : A) → slice_get (take k xs) i ≡ Some x → slice_get xs i ≡ Some x
get-take zero xs i x at = none_some x at
get-take (suc k) [] i x at = none_some x at
get-take (suc k) (y ∷ xs) zero x at = at
get-take (suc k) (y ∷ xs) (suc i) x at = get-take k xs i x at

get-drop : {A : Type 0} (k : ℕ) (xs : List A) (i j : ℕ) (x : A) → k + i ≡ j → slice_get (drop k xs) i ≡ Some x → slice_get xs j ≡ Some x
get-drop zero xs i j x same at = subst (λ n. slice_get xs n ≡ Some x) (omega (arith, same)) at
get-drop (suc k) [] i j x same at = none_some x at
get-drop (suc k) (y ∷ xs) i zero x same at = absurd (omega (arith, same))
get-drop (suc k) (y ∷ xs) i (suc j) x same at = get-drop k xs i j x (omega (arith, same)) at

pub AreBelow-take : (n k : ℕ) (literals : List Lit) → AreBelow n literals → AreBelow n (take k literals)
AreBelow-take n k literals below i l at = below i l (get-take k literals i l at)

pub AreBelow-drop : (n k : ℕ) (literals : List Lit) → AreBelow n literals → AreBelow n (drop k literals)
AreBelow-drop n k literals below i l at = below (k + i) l (get-drop k literals i (k + i) l refl at)

-- a list is its first items and the others
pub both-parts : {A : Type 0} (k : ℕ) (xs : List A) → xs ≡ take k xs ++ take (length xs - k) (drop k xs)
both-parts k xs =
    let rest : take (length xs - k) (drop k xs) ≡ drop k xs = take_all (length xs - k) (drop k xs) (let long = length-drop k xs in omega (arith, long)) in
    sym (take-append-drop k xs) ∙ ap (λ ys. take k xs ++ ys) (sym rest)

AreBelow-one : (n : ℕ) (literals : List Lit) (place : ℕ) (l : Lit) → AreBelow n literals → place < length literals → l ≡ get_or literals place l
    → AreBelow n (l ∷ [])
AreBelow-one n literals place l below within is zero m at =
    subst (λ x. x.variable < n) (same_some l m at) (below place l (slice_get_read literals (length literals) place l refl within is))
AreBelow-one n literals place l below within is (suc k) m at = none_some m at

if_ok_all : {T E : Type 0} (r : Result T E) (P Q R S W : T → Type 0) → ((x : T) → P x → Q x → R x → S x → W x) → IfOk r P → IfOk r Q → IfOk r R → IfOk r S
    → IfOk r W
if_ok_all (Ok x) P Q R S W all p q r s = all x p q r s
if_ok_all (Err e) P Q R S W all p q r s = tt

-- where sums come out, they count both parts
pub Counts-joined : {T E : Type 0} (result : Result T E) (items : T → List Lit) (up down : Bool) (size n k l m : ℕ)
    (xs ys literals left right left_now right_now : List Lit) (f g h i : Formula) → literals ≡ xs ++ ys → left_now ≡ left → right_now ≡ right
    → AreBelow n xs → AreBelow n ys → Counts up down size n k xs left f g → Counts up down size k l ys right g h
    → IfOk result (λ sums. length (items sums) ≡ min (length left_now + length right_now) size) → IfOk result (λ sums. AreFresh l (items sums))
    → IfOk result (λ sums. m ≡ l + length (items sums)) → IfOk result (λ sums. Adds (AreSums up down left_now right_now (items sums)) h i)
    → IfOk result (λ sums. Counts up down size n m literals (items sums) f i)
Counts-joined result items up down size n k l m xs ys literals left right left_now right_now f g h i whole same_left same_right xs_below ys_below first then len fresh next adds =
    if_ok_all result (λ sums. length (items sums) ≡ min (length left_now + length right_now) size) (λ sums. AreFresh l (items sums))
    (λ sums. m ≡ l + length (items sums)) (λ sums. Adds (AreSums up down left_now right_now (items sums)) h i)
    (λ sums. Counts up down size n m literals (items sums) f i)
    (λ sums is_len is_fresh is_next is_added.
    subst (λ all. Counts up down size n m all (items sums) f i) (sym whole)
    (Counts-sums up down size n k l m xs ys left_now right_now (items sums) f g h i xs_below ys_below
    (subst (λ o. Counts up down size n k xs o f g) (sym same_left) first) (subst (λ o. Counts up down size k l ys o g h) (sym same_right) then)
    is_fresh is_len is_next is_added)) len fresh next adds

-- sums of the outputs for the first literals and of one literal more
pub Counts-next : (up down : Bool) (size n k m : ℕ) (literals : List Lit) (place : ℕ) (l : Lit) (row row_now sums : List Lit) (f g h : Formula) → 0 < size
    → AreBelow n literals → place < length literals → l ≡ get_or literals place l → row_now ≡ row → Counts up down size n k (take place literals) row f g
    → length sums ≡ min (length row_now + 1) size → AreFresh k sums → m ≡ k + length sums → Adds (AreSums up down row_now (l ∷ []) sums) g h
    → Counts up down size n m (take (place + 1) literals) sums f h
Counts-next up down size n k m literals place l row row_now sums f g h some below within is same_row before len fresh next adds =
    let rises = before.rises in
    let one = AreBelow-one n literals place l below within is in
    subst (λ all. Counts up down size n m all sums f h) (sym (taken literals place l within is))
    (Counts-sums up down size n k k m (take place literals) (l ∷ []) row_now (l ∷ []) sums f g g h (AreBelow-take n place literals below) one
    (subst (λ o. Counts up down size n k (take place literals) o f g) (sym same_row) before)
    (Counts-few up down size k (l ∷ []) g some (omega arith) (AreBelow-more n k (l ∷ []) rises one)) fresh len next adds)

-- the same where only a part of these sums is added
pub DefinesPart-next : (up down : Bool) (size n k m : ℕ) (literals : List Lit) (place : ℕ) (l : Lit) (row row_now : List Lit) (f g h : Formula) → 0 < size
    → AreBelow n literals → place < length literals → l ≡ get_or literals place l → row_now ≡ row → Counts up down size n k (take place literals) row f g
    → k ≤ m → SumsPart up down size k m row_now (l ∷ []) g h → DefinesPart n m f h
DefinesPart-next up down size n k m literals place l row row_now f g h some below within is same_row before above part =
    let rises = before.rises in
    let one = AreBelow-one n literals place l below within is in
    DefinesPart-sums up down size n k k m (take place literals) (l ∷ []) row_now (l ∷ []) f g g h (AreBelow-take n place literals below) one
    (subst (λ o. Counts up down size n k (take place literals) o f g) (sym same_row) before)
    (Counts-few up down size k (l ∷ []) g some (omega arith) (AreBelow-more n k (l ∷ []) rises one)) above part

-- the same of sums of the outputs of two lists
pub DefinesPart-halves : (up down : Bool) (size n k l m : ℕ) (xs ys left right left_now right_now : List Lit) (f g h i : Formula) → left_now ≡ left
    → right_now ≡ right → AreBelow n xs → AreBelow n ys → Counts up down size n k xs left f g → Counts up down size k l ys right g h → l ≤ m
    → SumsPart up down size l m left_now right_now h i → DefinesPart n m f i
DefinesPart-halves up down size n k l m xs ys left right left_now right_now f g h i same_left same_right xs_below ys_below first then rises part =
    DefinesPart-sums up down size n k l m xs ys left_now right_now f g h i xs_below ys_below
    (subst (λ o. Counts up down size n k xs o f g) (sym same_left) first) (subst (λ o. Counts up down size k l ys o g h) (sym same_right) then) rises part
