use Rattle.std.proofs.Common.{◌∙◌}
use Rattle.gipsat_kernel.proofs.Kernels.{IsKernel-concluded, original_among-concluded}
use Rattle.gipsat_kernel.proofs.kernel.Kernel.conclude.Goals as goal

pub invariant_of-self-2 : goal.invariant_of-self-2
invariant_of-self-2 c =
    rw (c.push_reserved.ensures.items, c.reserve.ensures.items)
    (IsKernel-concluded c.self.inside.original.items c.self.inside.clauses c.take_into.new.clauses c.self.inside.marks _ c.self.inside.is_open
    c.if-not-self.false c.in_ok-take_into.ensures.taken c.self.invariant)

pub returns : goal.returns
returns c =
    rw (c.push_reserved.ensures.items, c.reserve.ensures.items)
    (original_among-concluded c.self.inside.original.items c.self.inside.clauses c.take_into.new.clauses c.self.inside.marks c.self.inside.is_open
    c.in_ok-take_into.ensures.taken c.self.invariant ∙ c.self.view_is)
