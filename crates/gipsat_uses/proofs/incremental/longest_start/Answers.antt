-- With one fact more there is no model, and so with still more.
use Rattle.std.proofs.Common.{◌≡◌, ◌+◌, arith, subst}
use Rattle.std.proofs.lemmas.Grind.{common_steps}
use Rattle.gipsat_cnf.specs.Formulas.{IsSatisfiable}
use Rattle.gipsat_uses.specs.Incremental.{with_first}
use Rattle.gipsat_uses.proofs.Incrementals.{none_of, none-with_more}
use Rattle.gipsat_uses.proofs.incremental.longest_start.Goals as goal

pub returns-then-is_none-2-clause-longest : goal.returns-then-is_none-2-clause-longest
returns-then-is_none-2-clause-longest g c =
    let (same, sat) = c.loop-place.invariant in
    let formula = g.S.ClauseSink.formula c.args.solver.now in
    let facts = c.args.facts.now in
    let place = c.loop-place.place in
    let next : g.S.ClauseSink.formula c.add_clause.new.self ≡ with_first formula facts (place + 1) = grind (arith, common_steps, same) in
    let none = none_of c.in_ok-find_model-2.field-0 c.if-is_none-2.ensures c.in_ok-find_model-2.ensures.none in
    record {
      within = omega (arith, c.loop-place-test.true);
      can = subst IsSatisfiable same sat;
      longest = λ k more within. none-with_more formula facts (place + 1) k (omega (arith, more)) (subst (λ f. ¬ (IsSatisfiable f)) next none);
    }
