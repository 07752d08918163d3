use Rattle.std.proofs.Common.{subst}
use Rattle.gipsat_cnf.specs.Lists.{AreAllBelow}
use Rattle.gipsat_cnf.proofs.LayoutLemmas.{AreAllBelow-laid}
use Rattle.gipsat_cnf.proofs.cnf.Cnf.variables.Goals as goal

pub returns-clause-below : goal.returns-clause-below
returns-clause-below c =
    subst (AreAllBelow c.self.inside.variables) c.self.view_is
    (AreAllBelow-laid c.self.inside.variables c.self.inside.literals.items c.self.inside.spans.items c.self.invariant)
