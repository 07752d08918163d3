-- The search is about what is left, and about the literals that stand for those of the whole circuit.
use Rattle.std.proofs.Common.{◌∙◌, ap, subst, sym}
use Rattle.gipmc_engines.specs.Findings.{AreOf}
use Rattle.gipmc_task.specs.Left.{StandFor}
use Rattle.gipmc_task.proofs.parted.Parted.in_left.Goals as goal

pub invariant_of-joint : goal.invariant_of-joint
invariant_of-joint g c =
    let joint = c.in_ok-joint.joint in
    record { same = subst (λ n. AreOf n.now.circuit joint.traces) (sym c.leave_out.ensures.netlist) joint.same }

pub invariant_of-result-clause-stand : goal.invariant_of-result-clause-stand
invariant_of-result-clause-stand g c =
    let now = c.args.self.now in
    let findings = c.leave_out.new.findings in
    let left = c.args.left.now.part.netlist.circuit in
    subst (λ n. StandFor n.circuit findings.bads.now now.whole.now.circuit now.bads.now)
    (sym (ap (λ r. r.now) c.leave_out.ensures.netlist ∙ c.in_ok-joint.ensures.0))
    (subst (λ ls. StandFor left ls now.whole.now.circuit now.bads.now)
    (sym (ap (λ r. r.now) c.leave_out.ensures.bads ∙ (c.in_ok-joint.ensures.1 ∙ c.deref.ensures.value))) c.requires)
