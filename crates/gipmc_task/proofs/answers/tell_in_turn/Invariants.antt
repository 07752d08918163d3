-- Each place so far is answered, and that was written if no write has failed. The circuit and the literals stay.
use Rattle.std.proofs.Common.{◌≡◌}
use Rattle.gipmc_task.specs.Answers.{Tells, TellsFirst}
use Rattle.gipmc_task.specs.Output.{IsWritten}
use Rattle.gipmc_task.specs.Verdicts.{texts_of}
use Rattle.gipmc_task.proofs.answers.tell_in_turn.Given as goal

abbrev pub invariant-loop-place : goal.invariant-loop-place
invariant-loop-place g l = record {
  whole : l.query.whole ≡ l.fn.query.whole;
  bads : l.query.bads ≡ l.fn.query.bads;
  tells : TellsFirst (Tells l.fn.query.whole.now.circuit) l.place l.answers.items;
  written
      : IsWritten l.fn.output.failure l.output.failure (g.W.Write.contents l.fn.output.writer) (g.W.Write.contents l.output.writer)
      (texts_of l.answers.items);
}
