use Rattle.std.proofs.Common.{◌∙◌, length, sym, ap, arith}
use Rattle.giputils_bits.specs.Prelude.{bits_of, not_of}
use Rattle.giputils_bits.proofs.Walks.{true_places-next, true_places-none}
use Rattle.giputils_bits.proofs.bitvec.zeros.ZerosIterator.next.Goals as goal

pub returns-in_default-clause-steps : goal.returns-in_default-clause-steps
returns-in_default-clause-steps c =
    let none = sym c.self.view_is ∙ true_places-none (not_of (bits_of c.self.inside.end c.self.inside.words.now)) c.self.inside.start c.in_default.ensures.none in
    (none, none)

pub returns-clause-steps : goal.returns-clause-steps
returns-clause-steps c =
    sym c.self.view_is
    ∙ true_places-next (not_of (bits_of c.self.inside.end c.self.inside.words.now)) c.self.inside.start c.in-Some.place c.in-Some.ensures.found

pub returns-clause-goes : goal.returns-clause-goes
returns-clause-goes c = record { on = λ finite. (tt, finite, omega (arith, ap length (returns-clause-steps c))); keeps = tt; rests = λ finite. tt }
