use Rattle.std.proofs.Common.{subst}
use Rattle.gipsat_cnf.specs.Lists.{AreAllBelow}
use Rattle.gipsat_kernel.proofs.Originals.{AreAllBelow-original}
use Rattle.gipsat_kernel.proofs.kernel.Kernel.variables.Goals as goal

pub returns : goal.returns
returns c =
    subst (λ f. AreAllBelow c.variables.result f) c.self.view_is
    (AreAllBelow-original c.self.inside.original.items c.self.inside.clauses c.variables.result c.variables.ensures.below)
