-- One more answer is joined.
use Rattle.std.proofs.Common.{◌<◌, ◌≤◌, length, arith, sym}
use Rattle.std.proofs.lemmas.Grind.{common_steps}
use Rattle.gipmc_task.proofs.Outcomes.{together-last, together-next}
use Rattle.gipmc_task.proofs.answered.together.Goals as goal

pub loop-answer-preserved : goal.loop-answer-preserved
loop-answer-preserved c =
    let answers = c.args.answers.now in
    let i = c.loop-answer.answer-index in
    let less : i < length answers = grind (arith, common_steps) in
    rw (c.and-outcome.ensures, c.outcome.ensures)
    (together-next answers i c.answer-item.result c.loop-answer.outcome less (sym c.answer-item.is) c.loop-answer.invariant)

pub returns : goal.returns
returns c =
    let answers = c.args.answers.now in
    let past : length answers ≤ c.loop-answer.answer-index = grind (arith, common_steps) in
    together-last answers c.loop-answer.answer-index c.loop-answer.outcome past c.loop-answer.invariant
