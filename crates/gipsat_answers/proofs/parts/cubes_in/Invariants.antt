-- Which cubes were read so far.
use Rattle.std.proofs.Common.{length, [], None}
use Rattle.giputils_text.specs.Lines.{text_lines}
use Rattle.gipsat_answers.specs.Questions.{questions_after}
use Rattle.gipsat_answers.proofs.CubesRead.{CubesSoFar}
use Rattle.gipsat_answers.proofs.parts.cubes_in.Given as goal

abbrev pub invariant-loop-line : goal.invariant-loop-line
invariant-loop-line l = CubesSoFar (questions_after [] [] None (text_lines l.text)) l.begun.text.items (text_lines l.left) l.cubes

abbrev pub decreases-loop-line : goal.decreases-loop-line
decreases-loop-line l = length l.left
