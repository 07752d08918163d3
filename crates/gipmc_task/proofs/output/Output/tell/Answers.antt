-- Nothing is written behind a write that failed.
use Rattle.std.proofs.Common.{sym, ◌∙◌}
use Rattle.gipmc_task.proofs.Written.{IsWritten-lost}
use Rattle.gipmc_task.proofs.output.Output.tell.Goals as goal

pub returns-then-is_some : goal.returns-then-is_some
returns-then-is_some g c = IsWritten-lost _ _ _ (sym c.is_some.ensures ∙ c.if-is_some.true)
