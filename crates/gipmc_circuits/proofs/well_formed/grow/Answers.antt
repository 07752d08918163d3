-- A value that is false defines nothing.
use Rattle.std.proofs.Common.{ap, ◌∙◌}
use Rattle.gipsat_cnf.specs.Models.{assignment_in}
use Rattle.gipmc_circuits.proofs.Defined.{defined_pushed}
use Rattle.gipmc_circuits.proofs.well_formed.grow.Goals as goal

pub loop-defined-preserved : goal.loop-defined-preserved
loop-defined-preserved c =
    ap assignment_in c.in_ok-push.ensures.items ∙ defined_pushed c.loop-defined.defined.items ∙ c.loop-defined.invariant
