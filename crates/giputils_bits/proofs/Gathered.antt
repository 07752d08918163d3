-- Bits that are gathered in a word, which is the last of the words once it is written.
--
-- How it is proved: gathering bits. A record states the words as they are once the gathered word is written; a step is
-- one digit.
use Rattle.std.proofs.Common.{◌≡◌, ℕ, zero, suc, ◌+◌, ◌/◌, ◌%◌, ◌<◌, ◌≤◌, Bool, List, [], ◌∷◌, ◌++◌, length, get_or, set, refl, ap, arith}
use Rattle.std.proofs.lemmas.List.{length-set, length_push, get_or-set_same, get_or_push}
use Rattle.giputils_bits.specs.Places.{bits_of, IsPacked, SetsDigit, HasRoom}
use Rattle.giputils_bits.proofs.Places.{SetsPlace, SetsPlace-set, HasRoom-push, IsPacked-more, bits_of-more}

-- n places of the words, with `word` in the place of the last word, keep the list
pub record Gathers (n : ℕ) (ws : List ℕ) (last word : ℕ) (bs : List Bool) : Type 0 where
  pub at_end : last + 1 ≡ length ws
  pub packed : IsPacked n (set ws last word)
  pub bits : bits_of n (set ws last word) ≡ bs

set_twice : (ws : List ℕ) (k v w : ℕ) → set (set ws k v) k w ≡ set ws k w
set_twice [] k v w = refl
set_twice (u ∷ ws) zero v w = refl
set_twice (u ∷ ws) (suc k) v w = ap (λ vs. u ∷ vs) (set_twice ws k v w)

-- a bit more, where the word has room
pub Gathers-more : (n : ℕ) (ws : List ℕ) (last v w : ℕ) (b : Bool) (bs : List Bool) → (n % 64 ≡ 0 → n ≤ 0) → SetsDigit v w (n % 64) b
    → Gathers n ws last v bs → Gathers (n + 1) ws last w (bs ++ b ∷ [])
Gathers-more n ws last v w b bs room s g =
    let old : List ℕ = set ws last v in
    let size : length old ≡ length ws = length-set ws last v in
    let at : n / 64 ≡ last = grind (arith, g.packed.count, g.at_end, size) in
    let within : n / 64 < length old = omega (arith, g.at_end) in
    let read : get_or old (n / 64) 0 ≡ v = rw at (get_or-set_same ws last v 0 (omega (arith, g.at_end))) in
    let sets : SetsPlace old (set old (n / 64) w) n b = SetsPlace-set old n w b within (rw read s) in
    let written : set old (n / 64) w ≡ set ws last w = rw at (set_twice ws last v w) in
    let same : HasRoom n old old = record { count = grind (arith, g.packed.count); same = λ j. refl } in
    record {
      at_end = g.at_end;
      packed = rw (← written) (IsPacked-more n old old _ b g.packed same sets);
      bits = rw (← written, ← g.bits) (bits_of-more n old old _ b same sets);
    }

-- a bit more, where the word is full: it is written, and another begun
pub Gathers-next : (n : ℕ) (ws : List ℕ) (last v w : ℕ) (b : Bool) (bs : List Bool) → n % 64 ≡ 0 → 0 < n → SetsDigit 0 w (n % 64) b → Gathers n ws last v bs
    → Gathers (n + 1) (set ws last v ++ 0 ∷ []) (last + 1) w (bs ++ b ∷ [])
Gathers-next n ws last v w b bs full some s g =
    let old : List ℕ = set ws last v in
    let size : length old ≡ length ws = length-set ws last v in
    let more : length (old ++ 0 ∷ []) ≡ length old + 1 = length_push old 0 in
    let at : n / 64 ≡ last + 1 = omega (arith, g.packed.count, g.at_end) in
    let within : n / 64 < length (old ++ 0 ∷ []) = omega (arith, g.at_end) in
    let read : get_or (old ++ 0 ∷ []) (n / 64) 0 ≡ 0 = get_or_push old 0 0 (n / 64) (omega (arith, g.at_end)) in
    let room : HasRoom n old (old ++ 0 ∷ []) = HasRoom-push n old full some g.packed in
    let sets : SetsPlace (old ++ 0 ∷ []) (set (old ++ 0 ∷ []) (n / 64) w) n b = SetsPlace-set (old ++ 0 ∷ []) n w b within (rw read s) in
    let written : set (old ++ 0 ∷ []) (n / 64) w ≡ set (old ++ 0 ∷ []) (last + 1) w = ap (λ k. set (old ++ 0 ∷ []) k w) at in
    record {
      at_end = omega (arith, g.at_end);
      packed = rw (← written) (IsPacked-more n old (old ++ 0 ∷ []) _ b g.packed room sets);
      bits = rw (← written, ← g.bits) (bits_of-more n old (old ++ 0 ∷ []) _ b room sets);
    }
