use Rattle.gipsat_cnf.specs.Simplifying.{SaysSame}
use Rattle.gipsat_search.proofs.simplify.drop_all_satisfied.Given as goal

abbrev pub invariant-loop-id : goal.invariant-loop-id
invariant-loop-id l = SaysSame l.fn.kernel l.kernel
