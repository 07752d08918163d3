-- The variables so far.
use Rattle.std.proofs.Common.{◌≡◌}
use Rattle.gipsat_answers.specs.Assumed.{first_variables}
use Rattle.gipsat_answers.proofs.assumed.first_variables.Given as goal

abbrev pub invariant-loop-variable : goal.invariant-loop-variable
invariant-loop-variable l = l.literals.items ≡ first_variables l.variable
