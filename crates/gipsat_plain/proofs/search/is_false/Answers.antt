use Rattle.gipsat_plain.proofs.Refuting.{falsified}
use Rattle.gipsat_plain.proofs.search.is_false.Goals as goal

pub returns-then-is_refuted : goal.returns-then-is_refuted
returns-then-is_refuted c =
    falsified c.args.formula.now c.args.literals.now c.args.place c.clause.result.now c.clause.ensures c.if-is_refuted.ensures
