use Rattle.std.proofs.Common.{subst}
use Rattle.gipsat_kernel.specs.Occurrences.{AreNoted}
use Rattle.gipsat_kernel.proofs.OccurrenceLemmas.{Covers-widened}
use Rattle.gipsat_kernel.proofs.Originals.{original_among-original}
use Rattle.gipsat_kernel.proofs.RatLemmas.{IsRatKernel-idle, IsRatKernel-pushed}
use Rattle.gipsat_kernel.proofs.rat.RatKernel.add_clause.Goals as goal

pub invariant_of-self-in_err-note : goal.invariant_of-self-in_err-note
invariant_of-self-in_err-note c =
    rw c.reserve.ensures.items
    (IsRatKernel-idle c.self.inside.held.items c.self.inside.clauses c.note.new.self c.self.inside.marks c.self.invariant.as_many
    (Covers-widened c.self.inside.noted c.note.new.self c.self.inside.clauses c.note.ensures.widens c.self.invariant.covers))

pub invariant_of-self-in_err-push : goal.invariant_of-self-in_err-push
invariant_of-self-in_err-push c =
    rw (c.reserve.ensures.items, c.in_err-push.ensures.refused)
    (IsRatKernel-idle c.self.inside.held.items c.self.inside.clauses c.note.new.self c.self.inside.marks c.self.invariant.as_many
    (Covers-widened c.self.inside.noted c.note.new.self c.self.inside.clauses c.note.ensures.widens c.self.invariant.covers))

pub invariant_of-self-2 : goal.invariant_of-self-2
invariant_of-self-2 c =
    rw (c.push_reserved.ensures.items, c.in_ok-push.ensures.added, c.reserve.ensures.items)
    (IsRatKernel-pushed c.self.inside.held.items c.self.inside.clauses c.note.new.self _ _ c.args.clause.now c.self.invariant.as_many
    (Covers-widened c.self.inside.noted c.note.new.self c.self.inside.clauses c.note.ensures.widens c.self.invariant.covers)
    (subst (AreNoted c.note.new.self c.args.clause.now) c.len-id.ensures c.in_ok-note.ensures.noted))

pub returns-clause-added : goal.returns-clause-added
returns-clause-added c =
    rw (c.push_reserved.ensures.items, c.in_ok-push.ensures.added, c.reserve.ensures.items, ← c.self.view_is)
    (original_among-original c.self.inside.held.items c.self.inside.clauses c.args.clause.now c.self.invariant.as_many)
