use Rattle.std.proofs.Common.{subst}
use Rattle.gipsat_kernel.specs.Marks.{KeepsMarksBut}
use Rattle.gipsat_kernel.proofs.Kernels.{IsKernel-resolved}
use Rattle.gipsat_kernel.proofs.kernel.Kernel.resolve.Goals as goal

pub invariant_of-self-2 : goal.invariant_of-self-2
invariant_of-self-2 c =
    IsKernel-resolved c.self.inside.original.items c.self.inside.clauses c.self.inside.marks c.remove.new.self c.add_but.new.self c.self.inside.is_open
    c.args.pivot c.args.id c.clause.result.now c.if-not-self.false c.clause.ensures
    (subst (λ l. KeepsMarksBut l c.self.inside.marks c.remove.new.self) c.negated-opposite.ensures c.remove.ensures)
    c.in_ok-add_but.ensures.grows c.in_ok-add_but.ensures.marked c.self.invariant
