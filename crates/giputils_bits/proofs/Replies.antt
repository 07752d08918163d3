-- Replies of a run, from what the calls ensure.
use Rattle.std.proofs.Common.{◌≡◌, ◌≢◌, ◌+◌, ◌-◌, ◌%◌, ◌<◌, ℕ, ◌==◌, Bool, true, false, not, replicate, List, [], ◌∷◌, ◌++◌, length, take, get_or, Option, Some, Result, Err, refl, sym, ap, ◌∙◌, arith}
use Rattle.std.specs.Prelude.{◌↔◌, IsTrue}
use Rattle.std.specs.Bool.{beq, one_answer, Decides}
use Rattle.std.specs.Cmp.{booleans_Decides}
use Rattle.std.specs.Cmp.Lexicographic.{pointwise}
use Rattle.std.specs.Iterator.{AlwaysYields, YieldsThen}
use Rattle.std.proofs.lemmas.Bool.{false≢true}
use Rattle.std.proofs.lemmas.Bool.Decides.{Decides-eqb}
use Rattle.std.proofs.lemmas.List.{length-append}
use Rattle.std.proofs.lemmas.Slice.Eq.{slice_eq-Decides}
use Rattle.giputils_bits.specs.declared.bitvec.error.BitVecError.{BitVecError}
use Rattle.giputils_bits.specs.declared.bitvec.error.BitVecError.TheVariants.{TooLong, Memory}
use Rattle.giputils_bits.specs.declared.run.BitReply.TheVariants.{Bit}
use Rattle.giputils_bits.specs.Prelude.{HasOne, StopsAt, bit_if, equality_reply, max_len, value_of, words_of}
use Rattle.giputils_bits.proofs.Ones.{HasOne-from_not_none, none_without_one}
use Rattle.giputils_bits.proofs.Taken.{taken}
use Rattle.giputils_bits.proofs.Words.{get_or-words_of}

-- whether a list that has a place is another
pub equality_reply_is : (xs ys : List Bool) (b : Bool) → length xs ≢ 0 → (IsTrue b ↔ (xs ≡ ys)) → Bit b ≡ equality_reply xs ys
equality_reply_is [] ys b some is = absurd (some refl)
equality_reply_is (x ∷ xs) ys b some is = ap Bit (one_answer _ _ is (slice_eq-Decides booleans_Decides (x ∷ xs) ys _ refl))

-- whether a list is another
pub same_reply : (xs ys : List Bool) (b : Bool) → (IsTrue b ↔ (xs ≡ ys)) → b ≡ pointwise beq xs ys
same_reply xs ys b is = one_answer _ _ is (slice_eq-Decides booleans_Decides xs ys _ refl)

-- whether a place is true
pub any_reply : (bs : List Bool) (b none : Bool) → (IsTrue b ↔ HasOne bs) → Decides none (bs ≡ replicate (length bs) false) → b ≡ not none
any_reply bs true true is tells = absurd (none_without_one bs (is.0 refl) (tells.0 refl))
any_reply bs true false is tells = refl
any_reply bs false true is tells = refl
any_reply bs false false is tells = absurd (false≢true (is.1 (HasOne-from_not_none bs (λ same. false≢true (tells.1 same)))))

-- the bit that is answered where the lengths are equal
pub bit_reply : (n m : ℕ) (b bit : Bool) → n ≡ m → b ≡ bit → Bit b ≡ bit_if (n == m) bit
bit_reply n m b bit same is = rw ((Decides-eqb n m).1 same) (ap Bit is)

-- the first word
pub first_word : (bs : List Bool) → value_of (take 64 bs) ≡ get_or (words_of bs) 0 0
unfolding words_of
first_word [] = refl
first_word (b ∷ bs) = sym (get_or-words_of (b ∷ bs) 0 (omega arith))

-- an iterator over the items was refused at one of them: those before it are kept
module _ {S : Type 0} (steps : S → Option Bool → S → Type 0) (items old new xs : List Bool) (s u : S) (refused : Bool)
    (all : AlwaysYields steps (λ x. x) s items) (long : new ≡ old ++ xs) (run : YieldsThen steps s xs (Some refused) u) where
  kept_of : length new - length old ≡ length xs
  kept_of = omega (arith, ap length long, length-append old xs)

  -- the kept ones behind the old ones are all that stand
  kept_all : length old + (length new - length old) ≡ length new
  kept_all = omega (arith, ap length long, length-append old xs)

  pub refused_within : length new - length old < length items
  refused_within = rw kept_of ((taken steps items xs s refused u all run).1)

  pub refused_leaves : new ≡ old ++ take (length new - length old) items
  refused_leaves = rw kept_of (long ∙ ap (λ zs. old ++ zs) ((taken steps items xs s refused u all run).0))

  pub stops_at : (error : BitVecError) {X : Type 0} → (outcome : Result X BitVecError) → outcome ≡ Err error
      → (outcome ≡ Err Memory → (0 < length new) × (length new % 64 ≡ 0)) → (outcome ≡ Err TooLong → length new ≡ max_len)
      → StopsAt (length old + (length new - length old)) error
  stops_at TooLong outcome is memory too_long = omega (arith, too_long is, kept_of, ap length long, length-append old xs)
  stops_at Memory outcome is memory too_long = rw kept_all (memory is)
