use Rattle.std.proofs.Common.{◌&&◌, ◌<◌, ◌^◌, ℕ, get_or, not, refl, rules}
use Rattle.giputils_bits.specs.Places.{without_digits}
use Rattle.giputils_bits.proofs.Logic.{is_within}
use Rattle.giputils_bits.proofs.Rewritten.{has_digit-without, same_count, joins_to_none}
use Rattle.giputils_bits.proofs.bitvec.BitVec.is_subset.Goals as goal

pub makes_zeros-requires : goal.makes_zeros-requires
makes_zeros-requires g c =
    rw (c.as_slice-words.ensures, c.as_slice-others.ensures) (same_count _ _ _ _ _ _ c.self.view_is c.other.view_is c.self.invariant c.other.invariant c.requires)

pub returns : goal.returns
returns g c =
    let fits : (k : ℕ) → get_or c.as_slice-words.result.now k 0 < 2 ^ 64 = λ k. search rules in
    let others_fit : (k : ℕ) → get_or c.as_slice-others.result.now k 0 < 2 ^ 64 = λ k. search rules in
    let made = rw (c.as_slice-words.ensures, c.as_slice-others.ensures) at c.makes_zeros.ensures in
    let none = joins_to_none without_digits (λ x y. x && not y) has_digit-without refl _ _ _ _ _ _ c.self.view_is
    c.other.view_is c.self.invariant c.other.invariant c.requires (rw c.as_slice-words.ensures at fits)
    (rw c.as_slice-others.ensures at others_fit) in
    let within = is_within c.args.self.now c.args.other.now c.requires in
    (λ zeros. within.0 (none.0 (made.0 zeros)), λ e. made.1 (none.1 (within.1 e)))
