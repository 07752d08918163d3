-- An empty place defines nothing.
use Rattle.std.proofs.Common.{ap, ◌∙◌}
use Rattle.gipmc_aiger.specs.Defects.{defined_in}
use Rattle.gipmc_aiger.proofs.Tables.{defined_pushed}
use Rattle.gipmc_aiger.proofs.order.grow.Goals as goal

pub loop-definitions-preserved : goal.loop-definitions-preserved
loop-definitions-preserved c =
    ap defined_in c.in_ok-push.ensures.items ∙ defined_pushed c.loop-definitions.definitions.items
    ∙ c.loop-definitions.invariant
