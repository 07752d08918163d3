use Rattle.std.proofs.Common.{length, refl}
use Rattle.std.proofs.lemmas.Option.{slice_get_read}
use Rattle.gipsat_kernel.proofs.OccurrenceLemmas.{AreNoted-all, IsNoting-next}
use Rattle.gipsat_kernel.proofs.occurrences.NotedIds.note.Goals as goal

pub returns-in_err-note_literal-clause-widens : goal.returns-in_err-note_literal-clause-widens
returns-in_err-note_literal-clause-widens c = λ l k was. c.note_literal.ensures.widens l k (c.loop-l.invariant.widens l k was)

pub loop-l-preserved : goal.loop-l-preserved
loop-l-preserved c =
    let clause = c.args.clause.now in
    let at = slice_get_read clause (length clause) c.loop-l.l-index c.l-item.result refl c.loop-l-test.true c.l-item.is in
    IsNoting-next c.args.self.now c.loop-l.self c.note_literal.new.self c.args.clause.now c.args.id c.loop-l.l-index c.l-item.result at
    c.note_literal.ensures.widens c.in_ok-note_literal.ensures.noted c.loop-l.invariant

pub returns-clause-noted : goal.returns-clause-noted
returns-clause-noted c =
    AreNoted-all c.args.self.now c.loop-l.self c.args.clause.now c.args.id c.loop-l.l-index c.loop-l-test.false c.loop-l.invariant
