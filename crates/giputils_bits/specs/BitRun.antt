-- A run of calls on a bit vector.
use Rattle.std.specs.Prelude.{◌≡◌, ℕ, ◌+◌, ◌%◌, ◌<◌, ◌≤◌, ◌==◌, ◌&&◌, ◌⊎◌, ⊤, not, Bool, true, false, List, [], ◌∷◌, ◌++◌, length, take, replicate, slice_get, slice_set, slice_index, slice_index_or, nat_lt, Option, Some, None, ◌^◌, ◌-◌}
use Rattle.std.specs.Bool.{beq}
use Rattle.std.specs.Cmp.Lexicographic.{pointwise}
use Rattle.std.specs.Option.{option_map_or}
use Rattle.giputils_bits.specs.declared.bitvec.error.BitVecError.{BitVecError}
use Rattle.giputils_bits.specs.declared.bitvec.error.BitVecError.TheVariants.{TooLong, Memory}
use Rattle.giputils_bits.specs.declared.run.BitCall.{BitCall}
use Rattle.giputils_bits.specs.declared.run.BitCall.TheVariants.{Push, PushWord, SetBit, GetBit, Clear, Extend, AndWith, OrWith, XorWith, Invert, Len, WordLen, ToUsize, IsEmpty, IsZero, IsOne, IsOnes, Bool as BoolCall, TryBool, Put, Flip, SetWord, Fill, CopyFrom, Negate, DifferenceWith, AssignAnd, Append, Resize, Truncate, Pop, CountOnes, Any, All, None as NoneCall, NextOne, IsSubset, IsDisjoint}
use Rattle.giputils_bits.specs.declared.run.BitReply.{BitReply}
use Rattle.giputils_bits.specs.declared.run.BitReply.TheVariants.{Done, Refused, Skipped, Bit, MaybeBit, Number, Place}
use Rattle.giputils_bits.specs.Bits.{digits_of, words_of, word_count, one_of, with_word}
use Rattle.giputils_bits.specs.Logic.{and_of, negated_if, or_of, xor_of, not_of}
use Rattle.giputils_bits.specs.Ones.{true_count, HasNoneFrom, IsNextOne}

-- the greatest length, `usize::MAX`
abbrev pub max_len : ℕ
max_len = 2 ^ 64 - 1

-- where n places are, one more may be refused so: as too long exactly where no list has more, and for memory only where
-- the last word is full
abbrev pub StopsAt : ℕ → BitVecError → Type 0
StopsAt n TooLong = n ≡ max_len
StopsAt n Memory = (0 < n) × (n % 64 ≡ 0)

-- a call that appends one place to n may be answered so
abbrev pub IsPushReply : ℕ → BitReply → Type 0
IsPushReply n Done = n < max_len
IsPushReply n (Refused error kept) = StopsAt n error × (kept ≡ 0)
IsPushReply n reply = ⊥

-- where n places are, 64 more may be refused so: as too long exactly where no list has so many, and for memory only
-- where there is a place
abbrev pub CanRefuseWord : ℕ → BitVecError → Type 0
CanRefuseWord n TooLong = max_len < n + 64
CanRefuseWord n Memory = (0 < n) × (n + 64 ≤ max_len)

-- a call that appends 64 places to n may be answered so
abbrev pub IsPushWordReply : ℕ → BitReply → Type 0
IsPushWordReply n Done = n + 64 ≤ max_len
IsPushWordReply n (Refused error kept) = CanRefuseWord n error × (kept ≡ 0)
IsPushWordReply n reply = ⊥

-- a call that appends m places to n may be answered so: refused, it has kept some of them, and stops there
abbrev pub ExtendsBy : ℕ → ℕ → BitReply → Type 0
ExtendsBy n m Done = n + m ≤ max_len
ExtendsBy n m (Refused error kept) = (kept < m) × StopsAt (n + kept) error
ExtendsBy n m reply = ⊥

-- a call that makes the length n as great as m may be answered so: refused for memory only where it takes a word more
abbrev pub IsResizeReply : ℕ → ℕ → BitReply → Type 0
IsResizeReply n m Done = ⊤
IsResizeReply n m (Refused error kept) = (error ≡ Memory) × (kept ≡ 0) × (64 < m) × (word_count n < word_count m)
IsResizeReply n m reply = ⊥

-- where the length is n and was to be m, a call may be refused so: as too long exactly where no list has so many places,
-- and for memory only where they take a word more
abbrev pub CanRefuseLength : ℕ → ℕ → BitVecError → Type 0
CanRefuseLength n m TooLong = max_len < m
CanRefuseLength n m Memory = (64 < m) × (word_count n < word_count m)

-- a call that appends a list to n places, m in all then, may be answered so
abbrev pub IsAppendReply : ℕ → ℕ → BitReply → Type 0
IsAppendReply n m Done = m ≤ max_len
IsAppendReply n m (Refused error kept) = CanRefuseLength n m error × (kept ≡ 0)
IsAppendReply n m reply = ⊥

-- the reply is the least true place from `start` on, or that there is none
abbrev pub IsPlaceReply : List Bool → ℕ → BitReply → Type 0
IsPlaceReply bits start (Place (Some i)) = IsNextOne bits start i
IsPlaceReply bits start (Place None) = HasNoneFrom bits start
IsPlaceReply bits start reply = ⊥

-- the bits after a call that was to append these items, and was answered so
abbrev pub bits_after_extend : List Bool → List Bool → BitReply → List Bool
bits_after_extend bits items Done = bits ++ items
bits_after_extend bits items (Refused error kept) = bits ++ take kept items
bits_after_extend bits items reply = bits

-- the new bits where the call was done, else the old ones
abbrev pub if_done : BitReply → List Bool → List Bool → List Bool
if_done Done new old = new
if_done reply new old = old

-- the reply to a call with an index below the length, or with a list of the same length; else it is skipped
abbrev pub done_if : Bool → BitReply
done_if true = Done
done_if false = Skipped

-- the bit that is answered where a condition holds; else the call is skipped
abbrev pub bit_if : Bool → Bool → BitReply
bit_if true x = Bit x
bit_if false x = Skipped

-- whether a list is another, where it has a place at all
abbrev pub equality_reply : List Bool → List Bool → BitReply
equality_reply [] ys = Skipped
equality_reply (x ∷ xs) ys = Bit (pointwise beq (x ∷ xs) ys)

-- the bit of a list that has one and no more
abbrev pub only_bit : List Bool → Option Bool
only_bit (x ∷ []) = Some x
only_bit xs = None

module _ {A : Type 0} where
  -- the call, made on these bits, may be answered so
  abbrev pub IsAnswer : List Bool → BitCall A → BitReply → Type 0
  IsAnswer bits (Push x) reply = IsPushReply (length bits) reply
  IsAnswer bits (PushWord word) reply = IsPushWordReply (length bits) reply
  IsAnswer bits (SetBit i x) reply = reply ≡ done_if (nat_lt i (length bits))
  IsAnswer bits (GetBit i) reply = reply ≡ option_map_or Bit (slice_get bits i) Skipped
  IsAnswer bits Clear reply = reply ≡ Done
  IsAnswer bits (Extend items) reply = ExtendsBy (length bits) (length items.now) reply
  IsAnswer bits (AndWith other) reply = reply ≡ done_if (length bits == length other.now)
  IsAnswer bits (OrWith other) reply = reply ≡ done_if (length bits == length other.now)
  IsAnswer bits (XorWith other) reply = reply ≡ done_if (length bits == length other.now)
  IsAnswer bits Invert reply = (reply ≡ Done) ⊎ ((reply ≡ Refused Memory 0) × (64 < length bits))
  IsAnswer bits Len reply = reply ≡ Number (length bits)
  IsAnswer bits WordLen reply = reply ≡ Number (length (words_of bits))
  IsAnswer bits ToUsize reply = reply ≡ Number (slice_index (words_of bits) 0)
  IsAnswer bits IsEmpty reply = reply ≡ Bit (length bits == 0)
  IsAnswer bits IsZero reply = reply ≡ equality_reply bits (replicate (length bits) false)
  IsAnswer bits IsOne reply = reply ≡ equality_reply bits (one_of (length bits))
  IsAnswer bits IsOnes reply = reply ≡ equality_reply bits (replicate (length bits) true)
  IsAnswer bits BoolCall reply = reply ≡ option_map_or Bit (only_bit bits) Skipped
  IsAnswer bits TryBool reply = reply ≡ MaybeBit (only_bit bits)
  IsAnswer bits (Put i x) reply = reply ≡ option_map_or Bit (slice_get bits i) Skipped
  IsAnswer bits (Flip i) reply = reply ≡ done_if (nat_lt i (length bits))
  IsAnswer bits (SetWord k word) reply = reply ≡ done_if (nat_lt k (word_count (length bits)))
  IsAnswer bits (Fill x) reply = reply ≡ Done
  IsAnswer bits (CopyFrom other) reply = reply ≡ done_if (length bits == length other.now)
  IsAnswer bits Negate reply = reply ≡ Done
  IsAnswer bits (DifferenceWith other) reply = reply ≡ done_if (length bits == length other.now)
  IsAnswer bits (AssignAnd a not_a b not_b) reply =
      reply ≡ done_if (length bits == length a.now && length bits == length b.now)
  IsAnswer bits (Append other) reply = IsAppendReply (length bits) (length bits + length other.now) reply
  IsAnswer bits (Resize len x) reply = IsResizeReply (length bits) len reply
  IsAnswer bits (Truncate len) reply = reply ≡ Done
  IsAnswer bits Pop reply = reply ≡ MaybeBit (slice_get bits (length bits - 1))
  IsAnswer bits CountOnes reply = reply ≡ Number (true_count bits)
  IsAnswer bits Any reply = reply ≡ Bit (not (pointwise beq bits (replicate (length bits) false)))
  IsAnswer bits All reply = reply ≡ Bit (pointwise beq bits (replicate (length bits) true))
  IsAnswer bits NoneCall reply = reply ≡ Bit (pointwise beq bits (replicate (length bits) false))
  IsAnswer bits (NextOne start) reply = IsPlaceReply bits start reply
  IsAnswer bits (IsSubset other) reply =
      reply ≡ bit_if (length bits == length other.now) (pointwise beq (and_of bits other.now) bits)
  IsAnswer bits (IsDisjoint other) reply =
      reply ≡ bit_if (length bits == length other.now)
      (pointwise beq (and_of bits other.now) (replicate (length bits) false))

  -- the bits after a call on these that was answered so
  abbrev pub bits_after : List Bool → BitCall A → BitReply → List Bool
  bits_after bits (Push x) reply = if_done reply (bits ++ x ∷ []) bits
  bits_after bits (PushWord word) reply = if_done reply (bits ++ digits_of 64 word) bits
  bits_after bits (SetBit i x) reply = if_done reply (slice_set bits i x) bits
  bits_after bits Clear reply = []
  bits_after bits (Extend items) reply = bits_after_extend bits items.now reply
  bits_after bits (AndWith other) reply = if_done reply (and_of bits other.now) bits
  bits_after bits (OrWith other) reply = if_done reply (or_of bits other.now) bits
  bits_after bits (XorWith other) reply = if_done reply (xor_of bits other.now) bits
  bits_after bits Invert reply = if_done reply (not_of bits) bits
  bits_after bits (Put i x) reply = slice_set bits i x
  bits_after bits (Flip i) reply = slice_set bits i (not (slice_index_or bits i false))
  bits_after bits (SetWord k word) reply = if_done reply (with_word k word bits) bits
  bits_after bits (Fill x) reply = replicate (length bits) x
  bits_after bits (CopyFrom other) reply = if_done reply other.now bits
  bits_after bits Negate reply = not_of bits
  bits_after bits (DifferenceWith other) reply = if_done reply (and_of bits (not_of other.now)) bits
  bits_after bits (AssignAnd a not_a b not_b) reply =
      if_done reply (and_of (negated_if not_a a.now) (negated_if not_b b.now)) bits
  bits_after bits (Append other) reply = if_done reply (bits ++ other.now) bits
  bits_after bits (Resize len x) reply = if_done reply (take len bits ++ replicate (len - length bits) x) bits
  bits_after bits (Truncate len) reply = take len bits
  bits_after bits Pop reply = take (length bits - 1) bits
  bits_after bits _ reply = bits

  -- the calls, made one after another from the bits `start` on, may be answered so, and then leave the bits `end`
  abbrev pub Answers : List Bool → List (BitCall A) → List BitReply → List Bool → Type 0
  Answers start [] [] end = end ≡ start
  Answers start (call ∷ calls) (reply ∷ replies) end =
      IsAnswer start call reply × Answers (bits_after start call reply) calls replies end
  Answers start calls replies end = ⊥
