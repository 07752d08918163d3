-- Nothing fails up to the depths so far, and their lines were written if no write has failed. The circuit and the
-- literals stay.
use Rattle.std.proofs.Common.{◌≡◌}
use Rattle.gipmc_task.specs.Answers.{AreClear}
use Rattle.gipmc_task.specs.Output.{IsWritten}
use Rattle.gipmc_task.specs.Verdicts.{depths_text}
use Rattle.gipmc_task.proofs.answers.tell_depths.Given as goal

abbrev pub invariant-loop : goal.invariant-loop
invariant-loop g l = record {
  whole : l.query.whole ≡ l.fn.query.whole;
  bads : l.query.bads ≡ l.fn.query.bads;
  depths : AreClear l.fn.query.whole.now.circuit l.fn.bad l.depths.items;
  written
      : IsWritten l.fn.output.failure l.output.failure (g.W.Write.contents l.fn.output.writer) (g.W.Write.contents l.output.writer)
      (depths_text l.depths.items);
}
