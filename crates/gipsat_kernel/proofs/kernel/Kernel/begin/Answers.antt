use Rattle.gipsat_kernel.proofs.Kernels.{IsKernel-begun}
use Rattle.gipsat_kernel.proofs.kernel.Kernel.begin.Goals as goal

pub invariant_of-self-2 : goal.invariant_of-self-2
invariant_of-self-2 c =
    IsKernel-begun c.self.inside.original.items c.self.inside.clauses c.self.inside.marks c.add_all.new.self c.self.inside.is_open c.args.id
    c.clause.result.now c.clause.ensures c.in_ok-add_all.ensures c.self.invariant
