use Rattle.std.proofs.Common.{◌&&◌, ◌∙◌, not, refl}
use Rattle.giputils_bits.specs.Places.{without_digits}
use Rattle.giputils_bits.proofs.Logic.{zip_with-not}
use Rattle.giputils_bits.proofs.Rewritten.{has_digit-without, same_count, joined}
use Rattle.giputils_bits.proofs.bitvec.BitVec.difference_with.Goals as goal

pub join-requires : goal.join-requires
join-requires g c = rw c.as_slice.ensures (same_count _ _ _ _ _ _ c.self.view_is c.other.view_is c.self.invariant c.other.invariant c.requires)

pub invariant_of-self : goal.invariant_of-self
invariant_of-self g c =
    (joined without_digits (λ x y. x && not y) has_digit-without refl _ _ _ _ _ _ _ c.self.view_is c.other.view_is
    c.self.invariant c.other.invariant c.requires (rw c.as_slice.ensures at c.join.ensures)).0

pub returns : goal.returns
returns g c =
    (joined without_digits (λ x y. x && not y) has_digit-without refl _ _ _ _ _ _ _ c.self.view_is c.other.view_is
    c.self.invariant c.other.invariant c.requires (rw c.as_slice.ensures at c.join.ensures)).1
    ∙ zip_with-not c.args.self.now c.args.other.now
