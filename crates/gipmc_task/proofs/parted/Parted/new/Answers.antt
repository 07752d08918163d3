-- The search is about the part, and about the literals that stand for those of the whole circuit.
use Rattle.std.proofs.Common.{◌∙◌, subst, sym}
use Rattle.gipmc_task.specs.Left.{StandFor}
use Rattle.gipmc_task.proofs.parted.Parted.new.Goals as goal

pub invariant_of-result-clause-stand : goal.invariant_of-result-clause-stand
invariant_of-result-clause-stand g c =
    let joint = c.in_ok-joint.joint in
    let whole = c.args.whole.now.circuit in
    let bads = c.args.bads.now in
    subst (λ n. StandFor n.circuit joint.findings.bads.now whole bads) (sym c.in_ok-joint.ensures.0)
    (subst (λ ls. StandFor c.args.part.now.netlist.circuit ls whole bads)
    (sym (c.in_ok-joint.ensures.1 ∙ c.deref.ensures.value)) c.requires)
