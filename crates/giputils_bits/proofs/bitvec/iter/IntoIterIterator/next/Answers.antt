use Rattle.std.proofs.Common.{◌<◌, ◌+◌, ◌-◌, ◌∷◌, arith, sym, ap, ◌∙◌}
use Rattle.giputils_bits.specs.Places.{places}
use Rattle.giputils_bits.proofs.Places.{places-next, places-end}
use Rattle.giputils_bits.proofs.bitvec.iter.IntoIterIterator.next.Goals as goal

pub returns-then-self-clause-steps : goal.returns-then-self-clause-steps
returns-then-self-clause-steps g c = let none = sym c.self.view_is ∙ places-end c.self.inside.words _ _ c.if-self.true in (none, none)

pub returns-clause-steps : goal.returns-clause-steps
returns-clause-steps g c =
    let some : c.self.inside.start < c.self.inside.end = omega arith in
    sym c.self.view_is ∙ places-next c.self.inside.words _ _ some
    ∙ ap (λ b. b ∷ places c.self.inside.words (c.self.inside.start + 1) (c.self.inside.end - (c.self.inside.start + 1)))
    (sym (rw c.as_slice.ensures at c.bit_at-bit.ensures))
