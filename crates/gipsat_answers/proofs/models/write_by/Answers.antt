-- A model more, and the last answer.
use Rattle.std.proofs.Common.{rules, ◌≡◌, ◌-◌, ◌+◌, ◌∙◌, subst, sym, arith}
use Rattle.gipsat_answers.specs.Answers.{problem_of}
use Rattle.gipsat_answers.specs.Enumeration.{IsOpen, IsRightVerdict, WritesNext}
use Rattle.gipsat_answers.proofs.Enumerating.{Leads-step, Leads-last-step, first-right}
use Rattle.gipsat_answers.proofs.models.write_by.Goals as goal

pub loop-found-preserved : goal.loop-found-preserved
loop-found-preserved g c =
    let wanted = c.args.wanted in
    let problem = problem_of c.args.variables c.args.solver.now.formula in
    let now = c.loop-found.solver.formula in
    let Open = IsOpen wanted.limit c.write_next.new.solver.learned (g.P.Progress.wants_stop c.write_next.new.progress) in
    let old = g.W.Write.contents c.args.writer.now in
    let before = g.W.Write.contents c.loop-found.writer in
    let then = g.W.Write.contents c.write_next.new.writer in
    let next = c.write_next.new.solver.formula in
    record {
      leads = Leads-step wanted.witness wanted.projection.now wanted.limit wanted.count problem old c.loop-found.found now next before then Open
          c.loop-found-test.true c.loop-found.invariant.leads
          (subst (λ v. WritesNext wanted.witness wanted.projection.now Open (problem_of c.args.variables now) v next before then)
          c.in-Satisfiable.is c.in_ok-last.ensures.written);
      most = c.in_ok-last.ensures.most;
    }

pub returns-in_default : goal.returns-in_default
returns-in_default g c =
    let wanted = c.args.wanted in
    let problem = problem_of c.args.variables c.args.solver.now.formula in
    let Open = IsOpen wanted.limit c.write_next.new.solver.learned (g.P.Progress.wants_stop c.write_next.new.progress) in
    let old = g.W.Write.contents c.args.writer.now in
    let before = g.W.Write.contents c.loop-found.writer in
    let then = g.W.Write.contents c.write_next.new.writer in
    let now = c.loop-found.solver.formula in
    let next = c.write_next.new.solver.formula in
    let less = c.loop-found-test.true in
    let sum : (wanted.count - c.loop-found.found) + c.loop-found.found ≡ wanted.count = omega arith in
    record {
      written = Leads-last-step wanted.witness wanted.projection.now wanted.limit wanted.count problem old c.loop-found.found now next
          before then c.in_ok-last.last c.write_next.new.solver.learned (g.P.Progress.wants_stop c.write_next.new.progress) less
          c.loop-found.invariant.leads c.in_default.not-Satisfiable c.in_ok-last.ensures.written;
      verdict = subst (λ v. IsRightVerdict problem v) (sym c.first_verdict.ensures)
          (first-right wanted.witness wanted.projection.now wanted.limit wanted.count problem old
          (wanted.count - c.loop-found.found) c.loop-found.found now next before then c.in_ok-last.last Open sum
          c.loop-found.invariant.leads c.in_ok-last.ensures.written);
      formula = (
        c.loop-found.invariant.leads.more.0,
        c.in_ok-last.ensures.kept c.in_default.not-Satisfiable ∙ c.loop-found.invariant.leads.more.1,
      );
      most = c.in_ok-last.ensures.most;
      other = search rules;
    }
