-- The true places of a list, and how many they are.
use Rattle.std.proofs.Common.{◌≡◌, ◌≢◌, ℕ, zero, suc, ◌+◌, ◌*◌, ◌<◌, ◌≤◌, Bool, true, false, not, List, [], ◌∷◌, length, get_or, take, drop, replicate, map, cond, refl, sym, ap, ◌∙◌, arith}
use Rattle.std.specs.Prelude.{count_ones}
use Rattle.std.proofs.Math.Seq.{take-add}
use Rattle.std.proofs.lemmas.Bool.{false≢true}
use Rattle.std.proofs.lemmas.List.{get_or-replicate, length-take, take_all}
use Rattle.std.proofs.lemmas.List.Sums.{sum_by-append, count_by-le-length}
use Rattle.std.specs.Simd.Lanes.{mask_l}
use Rattle.std.proofs.lemmas.Simd.{ones-mask_l}
use Rattle.giputils_bits.specs.Prelude.{HasOne, not_of, true_count, value_of, word_of, words_of}
use Rattle.giputils_bits.proofs.Words.{length-words_of, get_or-words_of}

-- ---- how many places are true
value_as_mask : (bs : List Bool) → value_of bs ≡ mask_l (map (λ b. b) bs)
value_as_mask [] = refl
value_as_mask (true ∷ bs) = ap (λ n. 1 + 2 * n) (value_as_mask bs)
value_as_mask (false ∷ bs) = ap (λ n. 0 + 2 * n) (value_as_mask bs)

-- the digits of a number that are 1 are the true places of its list
pub ones_of-value_of : (bs : List Bool) → count_ones (value_of bs) ≡ true_count bs
ones_of-value_of bs = rw (value_as_mask bs) (ones-mask_l (λ b. b) bs)

-- the ones of word k are the true places from 64 * k on
pub ones_of-word_of : (bs : List Bool) (k : ℕ) → count_ones (word_of bs k) ≡ true_count (take 64 (drop (64 * k) bs))
ones_of-word_of bs k = ones_of-value_of (take 64 (drop (64 * k) bs))

-- the places of a word more
pub true_count-word_more : (bs : List Bool) (k : ℕ) → true_count (take (64 * (k + 1)) bs) ≡ true_count (take (64 * k) bs) + count_ones (word_of bs k)
true_count-word_more bs k =
    let more : 64 * (k + 1) ≡ 64 * k + 64 = omega arith in
    rw (more, take-add (64 * k) 64 bs) (sum_by-append _ (take (64 * k) bs) (take 64 (drop (64 * k) bs)) ∙ ap (λ n. true_count (take (64 * k) bs) + n) (sym (ones_of-word_of bs k)))

-- the ones of word k added to those before it
pub count_more : (bs : List Bool) (ws : List ℕ) (k count : ℕ) → ws ≡ words_of bs → k < length ws → count ≡ true_count (take (64 * k) bs)
    → count + count_ones (get_or ws k 0) ≡ true_count (take (64 * (k + 1)) bs)
count_more bs ws k count same within so_far =
    rw (so_far, same, get_or-words_of bs k (omega (arith, ap length same, length-words_of bs))) (sym (true_count-word_more bs k))

-- all words are counted
pub count_all : (bs : List Bool) (ws : List ℕ) (k : ℕ) → ws ≡ words_of bs → length ws ≤ k → true_count (take (64 * k) bs) ≡ true_count bs
count_all bs ws k same past = ap true_count (take_all (64 * k) bs (omega (arith, ap length same, length-words_of bs)))

pub true_count-within : (bs : List Bool) (n : ℕ) → true_count (take n bs) ≤ length bs
true_count-within bs n = omega (arith, count_by-le-length (λ b. b) (take n bs), length-take n bs)

-- each place is true or turned round
pub true_count-not_of : (bs : List Bool) → true_count bs + true_count (not_of bs) ≡ length bs
true_count-not_of [] = refl
true_count-not_of (true ∷ bs) = omega (arith, sum_by-append (λ b. cond b 1 0) (true ∷ []) bs, sum_by-append (λ b. cond b 1 0) (false ∷ []) (not_of bs), true_count-not_of bs)
true_count-not_of (false ∷ bs) = omega (arith, sum_by-append (λ b. cond b 1 0) (false ∷ []) bs, sum_by-append (λ b. cond b 1 0) (true ∷ []) (not_of bs), true_count-not_of bs)

-- ---- that there is one
-- a true place is within the list
pub true_within : (bs : List Bool) (i : ℕ) → get_or bs i false ≡ true → i < length bs
true_within [] i e = absurd (false≢true e)
true_within (b ∷ bs) zero e = omega arith
true_within (b ∷ bs) (suc i) e = omega (arith, true_within bs i e)

pub HasOne-from_not_none : (bs : List Bool) → bs ≢ replicate (length bs) false → HasOne bs
HasOne-from_not_none [] m = absurd (m refl)
HasOne-from_not_none (true ∷ bs) m = (0, refl)
HasOne-from_not_none (false ∷ bs) m = let rest : HasOne bs = HasOne-from_not_none bs (λ e. m (ap (λ cs. false ∷ cs) e)) in (suc rest.0, rest.1)

pub none_without_one : (bs : List Bool) → HasOne bs → bs ≢ replicate (length bs) false
none_without_one bs one e = false≢true (sym (get_or-replicate (length bs) one.0 false false (true_within bs one.0 one.1)) ∙ ap (λ cs. get_or cs one.0 false) (sym e) ∙ one.1)

-- a test and its contrary
pub not_both : (b : Bool) → not b ≡ true → b ≡ true → ⊥
not_both true negated holds = false≢true negated
not_both false negated holds = false≢true holds

pub not_from : (b : Bool) → (b ≡ true → ⊥) → not b ≡ true
not_from true never = absurd (never refl)
not_from false never = refl
