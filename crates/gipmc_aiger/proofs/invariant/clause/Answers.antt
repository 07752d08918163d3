-- Words behind the end are too many.
use Rattle.giputils_text.specs.Lines.{pieces, space}
use Rattle.gipmc_aiger.specs.Invariants.{clause_in}
use Rattle.gipmc_aiger.proofs.Words.{clause_in-more}
use Rattle.gipmc_aiger.proofs.invariant.clause.Goals as goal

pub returns-in-Some-after : goal.returns-in-Some-after
returns-in-Some-after c =
    let so_far = rw c.in-Some.is at c.loop-rest.invariant in
    let split = rw c.in-Some-after.is at c.split_once.ensures.parts in
    let ends = rw c.in_default-2.is at c.in_ok-l.ensures in
    clause_in-more c.loop-rest.clause.items c.args.latches (pieces space c.in-Some.words.now)
    (clause_in c.args.latches (pieces space c.args.line.now)) c.split_once.result.0.now c.in-Some-after.field-0.now
    so_far split ends
