use Rattle.std.proofs.Common.{◌≡◌, length, ap, ◌∙◌, true}
use Rattle.std.proofs.lemmas.List.{length-replicate}
use Rattle.gipsat_kernel.specs.Kernel.{original_among}
use Rattle.gipsat_kernel.proofs.Kernels.{IsKernel-given}
use Rattle.gipsat_kernel.proofs.Originals.{original_among-all}
use Rattle.gipsat_kernel.proofs.kernel.Kernel.over.Goals as goal

pub invariant_of-result : goal.invariant_of-result
invariant_of-result c =
    let all : original_among c.in_ok-original.original.items c.args.formula ≡ c.args.formula =
    ap (λ fs. original_among fs c.args.formula) c.in_ok-original.ensures ∙ original_among-all c.args.formula c.len.result c.len.ensures
    in
    IsKernel-given c.in_ok-original.original.items c.args.formula _
    (ap length c.in_ok-original.ensures ∙ length-replicate c.len.result true ∙ c.len.ensures) all

pub returns : goal.returns
returns c =
    ap (λ fs. original_among fs c.args.formula) c.in_ok-original.ensures ∙ original_among-all c.args.formula c.len.result c.len.ensures
