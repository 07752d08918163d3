-- Bytes that were read ahead of a stream, and those that are handed on.
use Rattle.std.proofs.Common.{◌≡◌, ◌<◌, ◌-◌, ℕ, min, List, [], ◌++◌, drop, length, take, sym, ap, ◌∙◌, subst, arith, append_assoc, take-append-drop, Option, Some, None, Result, Ok, Err}
use Rattle.std.proofs.KnownBytes.{prepend_known-nil}
use Rattle.std.proofs.lemmas.List.{drop-append-le, drop_min}
use Rattle.std.proofs.lemmas.List.Prefix.{end_rest}
use Rattle.std.specs.Io.KnownBytes.{Consumes, IsAtEnd, Keeps, ReadConsumes, prepend_known}

-- what a stream gave stands ahead of what it has yet
put_ahead : (s t : Option (List ℕ)) (xs bs : List ℕ) → Consumes s t bs → Keeps (prepend_known xs s) (prepend_known (xs ++ bs) t)
put_ahead None t xs bs gave = tt
put_ahead (Some x) None xs bs gave = absurd gave
put_ahead (Some x) (Some y) xs bs gave = append_assoc xs bs y ∙ ap (λ l. xs ++ l) (sym gave)

-- what a stream gave was put behind what stood ahead
pub put_behind : (s t u : Option (List ℕ)) (xs ys zs bs : List ℕ) → Consumes s t bs → ys ≡ xs → zs ≡ ys ++ bs → u ≡ t
    → Keeps (prepend_known xs s) (prepend_known zs u)
put_behind s t u xs ys zs bs gave same more stays =
    subst (λ l. Keeps (prepend_known xs s) (prepend_known l u)) (sym (more ∙ ap (λ l. l ++ bs) same))
    (subst (λ w. Keeps (prepend_known xs s) (prepend_known (xs ++ bs) w)) (sym stays) (put_ahead s t xs bs gave))

-- a stream at its end has no byte more
pub ended : (s t : Option (List ℕ)) (bs : List ℕ) → Consumes s t bs → IsAtEnd t → Consumes s (Some []) bs
ended None t bs gave last = tt
ended (Some x) None bs gave last = absurd gave
ended (Some x) (Some y) bs gave last = gave ∙ ap (λ l. bs ++ l) last

-- a read of bytes ahead: those of the stream stay behind what is left
handed_on : {E : Type 0} (s : Option (List ℕ)) (xs ys : List ℕ) (r : Result ℕ E) (buf : List ℕ) → 0 < length xs
    → ReadConsumes (Some xs) (Some ys) r buf → ReadConsumes (prepend_known xs s) (prepend_known ys s) r buf
handed_on None xs ys (Ok n) buf some (gave, last) = (tt, λ none room. tt)
handed_on (Some rest) xs ys (Ok n) buf some (gave, last) = (
  ap (λ l. l ++ rest) gave ∙ append_assoc (take n buf) ys rest,
  λ none room.
      let gone : xs ≡ [] = gave ∙ ap (λ k. take k buf ++ ys) none ∙ last none room in
      absurd (omega (arith, ap length gone, some)),
)
handed_on None xs ys (Err e) buf some kept = tt
handed_on (Some rest) xs ys (Err e) buf some kept = ap (λ l. l ++ rest) kept

pub read_ahead : {E : Type 0} (s t : Option (List ℕ)) (xs ys : List ℕ) (r : Result ℕ E) (buf : List ℕ) → 0 < length xs → t ≡ s
    → ReadConsumes (Some xs) (Some ys) r buf → ReadConsumes (prepend_known xs s) (prepend_known ys t) r buf
read_ahead s t xs ys r buf some same gave = rw same (handed_on s xs ys r buf some gave)

-- a read of the stream, where nothing is ahead
pub read_behind : {E : Type 0} (s t : Option (List ℕ)) (xs ys : List ℕ) (r : Result ℕ E) (buf : List ℕ) → xs ≡ [] → ys ≡ xs
    → ReadConsumes s t r buf → ReadConsumes (prepend_known xs s) (prepend_known ys t) r buf
read_behind s t xs ys r buf none same gave =
    let before : prepend_known xs s ≡ s = ap (λ l. prepend_known l s) none ∙ prepend_known-nil s in
    let after : prepend_known ys t ≡ t = ap (λ l. prepend_known l t) (same ∙ none) ∙ prepend_known-nil t in
    subst (λ a. ReadConsumes a (prepend_known ys t) r buf) (sym before) (subst (λ b. ReadConsumes s b r buf) (sym after) gave)

-- what is left of the bytes ahead is the end of all
left_over : (items buf left : List ℕ) (handed n : ℕ) → drop handed items ≡ take n buf ++ left
    → drop (length items - length left) items ≡ left
left_over items buf left handed n split =
    end_rest items left (take handed items ++ take n buf) (sym (take-append-drop handed items)
    ∙ ap (λ l. take handed items ++ l) split ∙ sym (append_assoc (take handed items) (take n buf) left))

-- the bytes that were read stood ahead
pub handed_over : (items buf left rest : List ℕ) (handed now n : ℕ) → left ≡ drop handed items → now ≡ length items - length rest
    → (left ≡ take n buf ++ rest) × (n ≡ 0 → 0 < length buf → rest ≡ [])
    → (drop handed items ≡ take n buf ++ drop now items) × (n ≡ 0 → 0 < length buf → drop now items ≡ [])
handed_over items buf left rest handed now n is at (gave, last) =
    let split : drop handed items ≡ take n buf ++ rest = sym is ∙ gave in
    let same : drop now items ≡ rest = ap (λ k. drop k items) at ∙ left_over items buf rest handed n split in
    (split ∙ ap (λ l. take n buf ++ l) (sym same), λ none room. same ∙ last none room)

-- a place past the end is as good as the end
pub left_ahead : (handed : ℕ) (items : List ℕ) → drop (min handed (length items)) items ≡ drop handed items
left_ahead handed items = drop_min handed items

-- bytes behind those ahead
pub pushed_ahead : (handed : ℕ) (items bytes : List ℕ) → drop (min handed (length items)) (items ++ bytes) ≡ drop handed items ++ bytes
pushed_ahead handed items bytes =
    drop-append-le (min handed (length items)) items bytes (omega arith) ∙ ap (λ l. l ++ bytes) (drop_min handed items)
