-- Each place so far is answered, and that was written if no write has failed.
use Rattle.gipmc_task.specs.Answers.{Tells, TellsFirst}
use Rattle.gipmc_task.specs.Output.{IsWritten}
use Rattle.gipmc_task.specs.Verdicts.{texts_of}
use Rattle.gipmc_task.proofs.answers.leave_all.Given as goal

abbrev pub invariant-loop-place : goal.invariant-loop-place
invariant-loop-place g l = record {
  tells : TellsFirst (Tells l.netlist.circuit) l.place l.answers.items;
  written
      : IsWritten l.fn.output.failure l.output.failure (g.W.Write.contents l.fn.output.writer) (g.W.Write.contents l.output.writer)
      (texts_of l.answers.items);
}
