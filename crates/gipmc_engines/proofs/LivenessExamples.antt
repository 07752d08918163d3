-- Worked examples: what says nothing is right.
use Rattle.std.proofs.Common.{List}
use Rattle.gipsat_cnf.specs.Literals.{Lit}
use Rattle.gipmc_circuits.specs.declared.circuit.Circuit.{Circuit}
use Rattle.gipmc_engines.specs.Liveness.{IsRightSaying, IsRightVerdict}
use Rattle.gipmc_engines.specs.declared.liveness.shown.Saying.TheVariants.{Spent}
use Rattle.gipmc_engines.specs.declared.liveness.verdict.Verdict.TheVariants.{Unknown}

unknown_is_right : (c : Circuit) (fairness justice : List Lit) → IsRightVerdict c fairness justice Unknown
unknown_is_right c fairness justice = tt

spent_is_right : (c : Circuit) (fairness justice : List Lit) → IsRightSaying c fairness justice Spent
spent_is_right c fairness justice = tt
