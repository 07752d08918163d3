-- What was joined, and what is left to join, are all.
use Rattle.std.proofs.Common.{◌≡◌, drop}
use Rattle.gipmc_task.specs.Outcomes.{both}
use Rattle.gipmc_task.specs.Verdicts.{together}
use Rattle.gipmc_task.proofs.answered.together.Given as goal

abbrev pub invariant-loop-answer : goal.invariant-loop-answer
invariant-loop-answer l = together l.fn.answers ≡ both l.outcome (together (drop l.answer-index l.fn.answers))
