-- Each place is answered, once, or left, and what was answered was written if no write has failed. The circuit and the
-- literals stay.
use Rattle.std.proofs.Common.{◌≡◌, ◌+◌, ◌++◌, length}
use Rattle.std.specs.Prelude.{IsPermutation}
use Rattle.std.specs.List.{range_with_len}
use Rattle.gipmc_aiger.specs.Lists.{Every}
use Rattle.gipmc_task.specs.Answers.{Tells}
use Rattle.gipmc_task.specs.Output.{IsWritten}
use Rattle.gipmc_task.specs.Verdicts.{place_of, places_of, texts_of}
use Rattle.gipmc_task.proofs.known.tell_known.Given as goal

abbrev pub invariant-loop-told : goal.invariant-loop-told
invariant-loop-told g l = record {
  whole : l.query.whole ≡ l.fn.query.whole;
  bads : l.query.bads ≡ l.fn.query.bads;
  count : l.told + length l.left.items ≡ length l.fn.query.bads.now;
  once : IsPermutation (range_with_len 0 (length l.fn.query.bads.now)) (places_of l.answers.items ++ l.left.items);
  right : Every (λ a. Tells l.fn.query.whole.now.circuit (place_of a.property) a) l.answers.items;
  written
      : IsWritten l.fn.output.failure l.output.failure (g.W.Write.contents l.fn.output.writer) (g.W.Write.contents l.output.writer)
      (texts_of l.answers.items);
}
