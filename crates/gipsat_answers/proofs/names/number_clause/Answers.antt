-- A literal is added below its name.
use Rattle.std.proofs.Common.{◌∙◌, [], ◌∷◌, ap, length, rules, subst, sym}
use Rattle.gipsat_cnf.specs.Formulas.{AreBelow}
use Rattle.gipsat_answers.specs.Names.{named_clause}
use Rattle.gipsat_answers.proofs.Below.{AreBelow-append, AreBelow-cons, AreBelow-none}
use Rattle.gipsat_answers.proofs.Renaming.{named_clause-more}
use Rattle.gipsat_answers.proofs.names.number_clause.Goals as goal

pub loop-l-preserved : goal.loop-l-preserved
loop-l-preserved c =
    let names = c.args.names.now in
    let n = length names in
    record {
      named = ap (named_clause names) c.in_ok-push.ensures.items
          ∙ named_clause-more names c.args.clause.now c.loop-l.made.items c.loop-l.l-index c.new.result c.l-item.result
          c.loop-l.invariant.named c.loop-l-test.true (sym c.l-item.is) (search rules);
      below = subst (AreBelow n) (sym c.in_ok-push.ensures.items)
          (AreBelow-append n c.loop-l.made.items (c.new.result ∷ []) c.loop-l.invariant.below
          (AreBelow-cons n c.new.result [] (search rules) (AreBelow-none n)));
    }
