use Rattle.gipsat_cnf.proofs.LayoutLemmas.{IsLaidOut-take, clauses-take}
use Rattle.gipsat_cnf.proofs.cnf.Cnf.truncate.Goals as goal

pub invariant_of-self : goal.invariant_of-self
invariant_of-self c =
    rw c.truncate.ensures.items (IsLaidOut-take c.self.inside.variables c.args.len c.self.inside.literals.items c.self.inside.spans.items c.self.invariant)

pub returns : goal.returns
returns c =
    rw (c.truncate.ensures.items, ← c.self.view_is) (clauses-take c.args.len c.self.inside.literals.items c.self.inside.spans.items)
