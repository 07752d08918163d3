-- A variable more.
use Rattle.std.proofs.Common.{rules}
use Rattle.gipsat_answers.proofs.Assuming.{first_variables-more}
use Rattle.gipsat_answers.proofs.assumed.first_variables.Goals as goal

pub loop-variable-preserved : goal.loop-variable-preserved
loop-variable-preserved c =
    first_variables-more c.loop-variable.variable _ _ _ c.in_ok-push.ensures.items c.loop-variable.invariant (search rules)
