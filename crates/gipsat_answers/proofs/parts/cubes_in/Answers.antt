-- A cube was read.
use Rattle.std.proofs.Common.{◌∙◌, ◌∷◌, ◌++◌, [], None, ap}
use Rattle.giputils_text.specs.Lines.{text_lines}
use Rattle.gipsat_answers.specs.Questions.{questions_after}
use Rattle.gipsat_answers.proofs.CubesRead.{so_far_more}
use Rattle.gipsat_answers.proofs.parts.cubes_in.Goals as goal

pub loop-line-preserved : goal.loop-line-preserved
loop-line-preserved c =
    let before = c.loop-line in
    let question = c.in_ok-question.question in
    so_far_more (questions_after [] [] None (text_lines c.args.text.now)) before.begun.text.items c.in-Some.line.now
    (text_lines before.left.now) (text_lines c.in-Some.rest.now) before.cubes before.invariant c.in-Some.ensures.lines
    c.restart.new.self.text.items (text_lines question.rest.now) c.in_ok-read_begun.field-0 c.push-in-Some.new.self
    question.literals.items c.in_ok-question.ensures.question c.in_ok-read_begun.ensures
    (c.in_ok-push-2.ensures.added ∙ ap (λ literals. before.cubes ++ literals ∷ []) c.deref.ensures.value) c.restart.ensures
