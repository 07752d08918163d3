-- A third word is one too many.
use Rattle.std.proofs.Common.{sym}
use Rattle.gipmc_task.proofs.Words.{k_of-more}
use Rattle.gipmc_task.proofs.induction.k_in.Goals as goal

pub returns-in-Some : goal.returns-in-Some
returns-in-Some c =
    let one = rw c.in_ok-rest.was at c.split_once.ensures.parts in
    let two = rw c.in-Some.is at c.split_once-2.ensures.parts in
    rw (one, two) (sym (k_of-more c.split_once.result.0.now c.split_once-2.result.0.now c.in-Some.field-0.now))
