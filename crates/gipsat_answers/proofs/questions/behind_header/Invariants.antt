-- The lines that are left ask what all do.
use Rattle.std.proofs.Common.{◌≡◌, length}
use Rattle.giputils_text.specs.Lines.{text_lines}
use Rattle.gipsat_answers.specs.Questions.{questions_in, questions_of}
use Rattle.gipsat_answers.proofs.questions.behind_header.Given as goal

abbrev pub invariant-loop-line : goal.invariant-loop-line
invariant-loop-line l = questions_of l.text ≡ questions_in (text_lines l.left)

abbrev pub decreases-loop-line : goal.decreases-loop-line
decreases-loop-line l = length l.left
