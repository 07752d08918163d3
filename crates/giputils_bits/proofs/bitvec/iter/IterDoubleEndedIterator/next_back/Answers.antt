use Rattle.std.proofs.Common.{◌<◌, ◌-◌, ◌∷◌, ◌++◌, [], arith, sym, ap, ◌∙◌}
use Rattle.giputils_bits.specs.Places.{places}
use Rattle.giputils_bits.proofs.Places.{places-next_back, places-end}
use Rattle.giputils_bits.proofs.bitvec.iter.IterDoubleEndedIterator.next_back.Goals as goal

pub returns-then-self-clause-steps : goal.returns-then-self-clause-steps
returns-then-self-clause-steps c = let none = sym c.self.view_is ∙ places-end c.self.inside.words.now _ _ c.if-self.true in (none, none)

pub returns-clause-steps : goal.returns-clause-steps
returns-clause-steps c =
    let some : c.self.inside.start < c.self.inside.end = omega arith in
    sym c.self.view_is ∙ places-next_back c.self.inside.words.now _ _ some
    ∙ ap (λ b. places c.self.inside.words.now c.self.inside.start (c.self.inside.end - 1 - c.self.inside.start) ++ b ∷ []) (sym c.bit_at.ensures)
