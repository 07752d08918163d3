-- One more place is answered.
use Rattle.std.proofs.Common.{◌≡◌, length, arith}
use Rattle.std.proofs.lemmas.Grind.{common_steps}
use Rattle.gipmc_task.specs.Justice.Answers.{Tells}
use Rattle.gipmc_task.proofs.JusticeTold.{AreShown-more}
use Rattle.gipmc_task.specs.Verdicts.{answer_text}
use Rattle.gipmc_task.proofs.Told.{TellsFirst-more}
use Rattle.gipmc_task.proofs.Written.{IsWritten-push}
use Rattle.gipmc_task.proofs.justice.answers.answer_all.Goals as goal

pub loop-place-preserved : goal.loop-place-preserved
loop-place-preserved g c =
    let problem = c.args.problem.now in
    let answer = c.in_ok-answer.answer in
    let before = c.loop-place.answers.items in
    record {
      tells = rw (c.push_reserved.ensures.items, c.in_ok-reserve.ensures.items)
          (TellsFirst-more (Tells problem.netlist.circuit problem.liveness) c.loop-place.place before answer
          c.loop-place.invariant.tells c.in_ok-answer.ensures.tells);
      shown = rw (c.push_reserved.ensures.items, c.in_ok-reserve.ensures.items)
          (AreShown-more problem.netlist.circuit problem.liveness before answer c.loop-place.place c.loop-place.invariant.shown
          c.in_ok-answer.ensures.tells c.in_ok-answer.ensures.shown);
      written = rw (c.push_reserved.ensures.items, c.in_ok-reserve.ensures.items)
          (IsWritten-push answer_text _ _ _ _ _ _ before answer c.loop-place.invariant.written c.in_ok-answer.ensures.written);
    }

pub returns-clause-tells : goal.returns-clause-tells
returns-clause-tells g c =
    let all : c.loop-place.place ≡ length c.args.problem.now.liveness.justice.items = grind (arith, common_steps) in
    rw all at c.loop-place.invariant.tells
