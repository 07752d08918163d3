-- The literals so far, under their names.
use Rattle.std.proofs.Common.{◌≡◌, length, take}
use Rattle.gipsat_cnf.specs.Formulas.{AreBelow}
use Rattle.gipsat_answers.specs.Names.{named_clause}
use Rattle.gipsat_answers.proofs.names.number_clause.Given as goal

abbrev pub invariant-loop-l : goal.invariant-loop-l
invariant-loop-l l = record {
  named : named_clause l.names l.made.items ≡ take l.l-index l.clause;
  below : AreBelow (length l.names) l.made.items;
}
