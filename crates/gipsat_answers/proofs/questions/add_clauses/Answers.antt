-- A clause more.
use Rattle.std.proofs.Common.{rules}
use Rattle.gipsat_answers.proofs.Questioning.{clauses-more}
use Rattle.gipsat_answers.proofs.questions.add_clauses.Goals as goal

pub loop-place-preserved : goal.loop-place-preserved
loop-place-preserved c = record {
  formula = clauses-more _ _ _ c.args.clauses.now c.loop-place.place c.clause.result.now c.loop-place.invariant.formula
      c.in_ok-add_clause.ensures.formula c.clause.ensures;
  learned = search rules;
}
