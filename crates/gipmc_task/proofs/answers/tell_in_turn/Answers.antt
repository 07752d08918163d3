-- One more place is answered.
use Rattle.std.proofs.Common.{◌≡◌, ◌∙◌, length, arith, subst}
use Rattle.std.proofs.lemmas.Grind.{common_steps}
use Rattle.gipmc_task.specs.Answers.{Tells}
use Rattle.gipmc_task.specs.Verdicts.{answer_text}
use Rattle.gipmc_task.proofs.Told.{TellsFirst-more}
use Rattle.gipmc_task.proofs.Written.{IsWritten-push}
use Rattle.gipmc_task.proofs.answers.tell_in_turn.Goals as goal

pub loop-place-preserved : goal.loop-place-preserved
loop-place-preserved g c =
    let circuit = c.args.query.now.whole.now.circuit in
    let answer = c.in_ok-answer.answer in
    record {
      whole = c.in_ok-answer.ensures.whole ∙ c.loop-place.invariant.whole;
      bads = c.in_ok-answer.ensures.bads ∙ c.loop-place.invariant.bads;
      tells = rw (c.push_reserved.ensures.items, c.in_ok-reserve.ensures.items)
          (TellsFirst-more (Tells circuit) c.loop-place.place c.loop-place.answers.items answer c.loop-place.invariant.tells
          (subst (λ w. Tells w.now.circuit c.loop-place.place answer) c.loop-place.invariant.whole c.in_ok-answer.ensures.tells));
      written = rw (c.push_reserved.ensures.items, c.in_ok-reserve.ensures.items)
          (IsWritten-push answer_text _ _ _ _ _ _ c.loop-place.answers.items answer c.loop-place.invariant.written c.in_ok-answer.ensures.written);
    }

pub returns-clause-tells : goal.returns-clause-tells
returns-clause-tells g c =
    let all : c.loop-place.place ≡ length c.args.query.now.bads.now = grind (arith, common_steps) in
    rw all at c.loop-place.invariant.tells
