use Rattle.gipsat_kernel.proofs.Kernels.{IsKernel-added}
use Rattle.gipsat_kernel.proofs.Originals.{original_among-original}
use Rattle.gipsat_kernel.proofs.kernel.Kernel.add_clause.Goals as goal

pub invariant_of-self-2 : goal.invariant_of-self-2
invariant_of-self-2 c =
    rw (c.push_reserved.ensures.items, c.in_ok-push.ensures.added, c.reserve.ensures.items)
    (IsKernel-added c.self.inside.original.items c.self.inside.clauses c.self.inside.marks _ c.self.inside.is_open c.args.clause.now c.self.invariant)

pub returns-clause-added : goal.returns-clause-added
returns-clause-added c =
    rw (c.push_reserved.ensures.items, c.in_ok-push.ensures.added, c.reserve.ensures.items, ← c.self.view_is)
    (original_among-original c.self.inside.original.items c.self.inside.clauses c.args.clause.now c.self.invariant.as_many)
