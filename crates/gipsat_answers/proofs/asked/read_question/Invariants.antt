-- The question so far, behind which lines are left.
use Rattle.std.proofs.Common.{◌∷◌, ◌≤◌, length}
use Rattle.giputils_text.specs.Lines.{text_lines}
use Rattle.gipsat_answers.specs.Questions.{AsksSoFar}
use Rattle.gipsat_answers.proofs.asked.read_question.Given as goal

abbrev pub invariant-loop-has_end : goal.invariant-loop-has_end
invariant-loop-has_end l = record {
  question : AsksSoFar (l.line ∷ text_lines l.behind) l.literals.items l.has_end (text_lines l.rest);
  shorter : length l.rest ≤ length l.behind;
}

abbrev pub decreases-loop-has_end : goal.decreases-loop-has_end
decreases-loop-has_end l = length l.rest
