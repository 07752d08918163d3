use Rattle.std.proofs.Common.{◌≡◌, ◌∙◌, sym, ap}
use Rattle.giputils_bits.specs.Places.{bits_of}
use Rattle.giputils_bits.proofs.Places.{kept-length}
use Rattle.giputils_bits.proofs.Rewritten.{same_count}
use Rattle.giputils_bits.proofs.bitvec.BitVec.copy_from.Goals as goal

pub copy_from-requires : goal.copy_from-requires
copy_from-requires g c = rw c.as_slice.ensures (same_count _ _ _ _ _ _ c.self.view_is c.other.view_is c.self.invariant c.other.invariant c.requires)

pub invariant_of-self : goal.invariant_of-self
invariant_of-self g c =
    let same : c.other.inside.len ≡ c.self.inside.len = kept-length _ _ _ c.other.view_is ∙ sym c.requires ∙ sym (kept-length _ _ _ c.self.view_is) in
    rw (c.copy_from.ensures, c.as_slice.ensures, ← same) c.other.invariant

pub returns : goal.returns
returns g c =
    let same : c.self.inside.len ≡ c.other.inside.len = kept-length _ _ _ c.self.view_is ∙ c.requires ∙ sym (kept-length _ _ _ c.other.view_is) in
    ap (λ ws. bits_of c.self.inside.len ws) (c.copy_from.ensures ∙ c.as_slice.ensures) ∙ ap (λ n. bits_of n c.other.inside.words) same ∙ c.other.view_is
