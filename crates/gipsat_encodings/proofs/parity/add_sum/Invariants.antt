use Rattle.std.proofs.Common.{◌≡◌, ◌<◌, take}
use Rattle.gipsat_cnf.specs.Formulas.{is_true}
use Rattle.gipsat_encodings.specs.Extending.{Defines}
use Rattle.gipsat_encodings.specs.Gates.{parity}
use Rattle.gipsat_encodings.proofs.parity.add_sum.Given as goal

abbrev pub invariant-loop-place : goal.invariant-loop-place
invariant-loop-place g l = record {
  below : l.sum.variable < l.variables;
  sum : Defines l.fn.variables l.variables (λ a. is_true a l.sum ≡ parity a (take l.place l.literals)) (g.S.ClauseSink.formula l.fn.sink) (g.S.ClauseSink.formula l.sink);
}
