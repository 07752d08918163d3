-- Which questions were asked and replied to so far; once the search is stopped, that stays.
use Rattle.std.proofs.Common.{length, IsTrue, [], None}
use Rattle.giputils_text.specs.Lines.{text_lines}
use Rattle.gipsat_cnf.specs.Lists.{AreAllBelow}
use Rattle.gipsat_answers.specs.Names.{named}
use Rattle.gipsat_answers.specs.Questions.{questions_after}
use Rattle.gipsat_answers.proofs.Questioning.{Asked}
use Rattle.gipsat_answers.proofs.questions.answer_lines.Given as goal

abbrev pub invariant-loop-line : goal.invariant-loop-line
invariant-loop-line g l = record {
  asked : Asked l.task.witness l.task.limit (questions_after [] [] None (text_lines l.text)) (g.W.Write.contents l.initial.writer)
      (named l.names l.solver.formula) (questions_after (named l.names l.solver.formula) l.begun.text.items None (text_lines l.left)) l.solver.learned l.is_stopped l.verdict
      (g.W.Write.contents l.writer);
  below : AreAllBelow (length l.names) l.solver.formula;
  stopped : IsTrue l.is_stopped → IsTrue (g.P.Progress.wants_stop l.progress);
}

abbrev pub decreases-loop-line : goal.decreases-loop-line
decreases-loop-line g l = length l.left
