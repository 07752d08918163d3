use Rattle.std.proofs.Common.{◌≡◌, false, ◌∙◌, arith}
use Rattle.std.specs.Prelude.{slice_index_or}
use Rattle.std.proofs.lemmas.Grind.{common_steps}
use Rattle.gipsat_kernel.proofs.Kernels.{IsKernel-swapped}
use Rattle.gipsat_kernel.proofs.Originals.{original_among-but}
use Rattle.gipsat_kernel.proofs.kernel.Kernel.swap.Goals as goal

pub invariant_of-self : goal.invariant_of-self
invariant_of-self c =
    let derived : slice_index_or c.self.inside.original.items c.args.id false ≡ false = grind (arith, common_steps) in
    IsKernel-swapped c.self.inside.original.items c.self.inside.clauses c.swap.new.self c.self.inside.marks c.self.inside.is_open c.args.id
    c.swap.ensures.len derived c.swap.ensures.literals c.swap.ensures.others c.self.invariant

pub returns : goal.returns
returns c =
    let derived : slice_index_or c.self.inside.original.items c.args.id false ≡ false = grind (arith, common_steps) in
    original_among-but c.self.inside.original.items c.self.inside.clauses c.swap.new.self c.args.id c.swap.ensures.len derived c.swap.ensures.others ∙ c.self.view_is
