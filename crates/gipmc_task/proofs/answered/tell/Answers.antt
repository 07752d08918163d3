-- Without depths the text is that of the verdict.
use Rattle.gipmc_task.proofs.Told.{IsWritten-alone, ok_both}
use Rattle.gipmc_task.proofs.answered.tell.Goals as goal

pub returns-clause-written : goal.returns-clause-written
returns-clause-written g c =
    ok_both _ _ _ c.tell_behind.result
    (λ a is written. IsWritten-alone _ _ _ _ c.args.property c.args.verdict a is written)
    (rw (c.new.ensures.items) at c.tell_behind.ensures.answer) c.tell_behind.ensures.written
