use Rattle.std.proofs.Common.{◌-◌, ◌^◌, length}
use Rattle.gipsat_cnf.specs.Prelude.{AreAllBelow, AreBelow, NoneBelow, number}
use Rattle.gipsat_cnf.proofs.enumerate.find_model.Given as goal

abbrev pub invariant-loop-values : goal.invariant-loop-values
invariant-loop-values l = record {
  below : AreAllBelow (length l.values.items) l.formula;
  assumed : AreBelow (length l.values.items) l.assumptions;
  none : NoneBelow l.formula l.assumptions (length l.values.items) (number l.values.items);
}

abbrev pub decreases-loop-values : goal.decreases-loop-values
decreases-loop-values l = 2 ^ length l.values.items - number l.values.items
