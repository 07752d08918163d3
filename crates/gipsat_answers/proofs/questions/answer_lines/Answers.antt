-- A question was replied to, and all were.
use Rattle.std.proofs.Common.{◌≡◌, ◌≤◌, ◌+◌, ◌-◌, ◌∙◌, true, [], length, None, Some, IsTrue, ap, arith, subst, sym}
use Rattle.giputils_text.specs.Lines.{text_lines}
use Rattle.gipsat_cnf.specs.Lists.{AreAllBelow}
use Rattle.gipsat_answers.specs.Names.{named, named_clause}
use Rattle.gipsat_answers.specs.Questions.{questions_after, IsRightOfAll, WritesReply}
use Rattle.gipsat_answers.proofs.Questioning.{Asked-end, Asked-more-on, is_stop-only}
use Rattle.gipsat_answers.proofs.questions.answer_lines.Goals as goal

pub loop-line-preserved : goal.loop-line-preserved
loop-line-preserved g c =
    let before = c.loop-line in
    let task = c.args.task in
    let (added, has, is_added) = c.in_ok-add_begun.ensures.added in
    let names = c.args.names.now in
    let f1 = named names c.add_begun.new.solver.formula in
    let is_literals = ap (named_clause names) c.deref-in-Some.ensures.value ∙ c.in_ok-literals.ensures.named ∙ c.deref.ensures.value in
    let wrote = subst (λ assumed. WritesReply task.witness task.limit (c.reply_to.new.solver.learned - c.add_begun.new.solver.learned) true
    (record { formula = f1; assumed = assumed }) c.in_ok-last.last
    (g.W.Write.contents before.writer) (g.W.Write.contents c.reply_to.new.writer)) is_literals c.in_ok-last.ensures.written in
    let last = c.in_ok-last.last in
    let later = c.reply_to.new.solver.learned in
    let same : c.add_begun.new.solver.learned ≡ before.solver.learned = c.in_ok-add_begun.ensures.learned in
    let fewer : c.add_begun.new.solver.learned ≤ later = c.in_ok-last.ensures.learned in
    let bound : later ≤ c.add_begun.new.solver.learned + task.limit = c.in_ok-last.ensures.most in
    let least : before.solver.learned ≤ later = omega (arith, same, fewer) in
    let most : later - before.solver.learned ≤ task.limit = omega (arith, same, bound) in
    record {
      asked = Asked-more-on task.witness task.limit (questions_after [] [] None (text_lines c.args.text.now)) (g.W.Write.contents c.args.writer.now)
          (named names before.solver.formula) f1 (named names c.reply_to.new.solver.formula) before.begun.text.items c.in-Some.line.now
          c.add_begun.new.begun.text.items (text_lines before.left.now) (text_lines c.in-Some.rest.now) before.solver.learned
          before.is_stopped before.verdict (g.W.Write.contents before.writer) before.invariant.asked c.in-Some.ensures.lines
          (text_lines c.in_ok-question.question.rest.now) added c.in_ok-question.question.literals.items later last (g.W.Write.contents c.reply_to.new.writer) (Some c.verdict_with.result)
          c.is_stop-is_stopped.result c.in_ok-question.ensures.question has is_added
          (ap (named names) c.in_ok-last.ensures.formula) c.in_ok-add_begun.ensures.text
          least most c.in_ok-last.ensures.stays
          (subst (λ n. WritesReply task.witness task.limit (later - n) true
          (record { formula = f1; assumed = c.in_ok-question.question.literals.items }) last (g.W.Write.contents before.writer)
          (g.W.Write.contents c.reply_to.new.writer)) same wrote)
          (ap Some c.verdict_with.ensures) c.is_stop-is_stopped.ensures;
      below = subst (AreAllBelow (length names)) (sym c.in_ok-last.ensures.formula) c.in_ok-add_begun.ensures.below;
      stopped = λ is. c.in_ok-last.ensures.stopped (is_stop-only last (subst IsTrue c.is_stop-is_stopped.ensures is));
    }

pub returns-clause-right : goal.returns-clause-right
returns-clause-right g c =
    let before = c.loop-line in
    let task = c.args.task in
    let last = c.add_begun-2.new.solver in
    let (added, has, is_added) = c.in_ok-add_begun-2.ensures.added in
    let (asked, all, wrote, right, formulas) = Asked-end task.witness task.limit (questions_after [] [] None (text_lines c.args.text.now))
    (g.W.Write.contents c.args.writer.now) (named c.args.names.now before.solver.formula) added (named c.args.names.now last.formula) before.begun.text.items
    (text_lines before.left.now) before.solver.learned last.learned before.is_stopped before.verdict
    (g.W.Write.contents before.writer) before.invariant.asked c.in_default.ensures.lines has is_added
    c.in_ok-add_begun-2.ensures.learned in
    (asked, all, wrote, subst (λ v. IsRightOfAll asked v) (sym c.unwrap_or.ensures) right, formulas)
