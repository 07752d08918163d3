-- One more place is answered.
use Rattle.std.proofs.Common.{◌≡◌, length, arith}
use Rattle.std.proofs.lemmas.Grind.{common_steps}
use Rattle.gipmc_task.specs.Answers.{Tells}
use Rattle.gipmc_task.specs.Verdicts.{answer_text}
use Rattle.gipmc_task.proofs.Once.{TellsAll-first, names_own}
use Rattle.gipmc_task.proofs.Told.{TellsFirst-more}
use Rattle.gipmc_task.proofs.Written.{IsWritten-push}
use Rattle.gipmc_task.proofs.answers.leave_all.Goals as goal

pub loop-place-preserved : goal.loop-place-preserved
loop-place-preserved g c =
    let answer = c.in_ok-answer.answer in
    record {
      tells = rw (c.push_reserved.ensures.items, c.in_ok-reserve.ensures.items)
          (TellsFirst-more (Tells c.args.netlist.now.circuit) c.loop-place.place c.loop-place.answers.items answer
          c.loop-place.invariant.tells c.in_ok-answer.ensures.tells);
      written = rw (c.push_reserved.ensures.items, c.in_ok-reserve.ensures.items)
          (IsWritten-push answer_text _ _ _ _ _ _ c.loop-place.answers.items answer c.loop-place.invariant.written c.in_ok-answer.ensures.written);
    }

pub returns-clause-tells : goal.returns-clause-tells
returns-clause-tells g c =
    let circuit = c.args.netlist.now.circuit in
    let all : c.loop-place.place ≡ length circuit.bads.items = grind (arith, common_steps) in
    rw (c.said_by.ensures)
    (TellsAll-first c.args.output.now.order (Tells circuit) (names_own circuit) (length circuit.bads.items)
    c.loop-place.answers.items (rw all at c.loop-place.invariant.tells))
