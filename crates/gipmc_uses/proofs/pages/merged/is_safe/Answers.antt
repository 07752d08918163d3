-- What is safe after the merges is safe.
use Rattle.std.proofs.Common.{refl, subst}
use Rattle.gipmc_circuits.specs.Circuit.{IsSafe}
use Rattle.gipmc_reduce.proofs.ThroughMerges.{IsSafe-swept}
use Rattle.gipmc_uses.proofs.pages.merged.is_safe.Goals as goal

pub returns-in-Certified : goal.returns-in-Certified
returns-in-Certified c certain =
    let s = c.in-Some.sweep in
    let swept = rw (c.in-Some.is) at c.in_ok-sweep.ensures.swept in
    let safe = rw (c.in-Certified.is) at c.in_ok-certify.ensures.safe in
    IsSafe-swept s.merges.literals.items s.invariant.items s.netlist.circuit c.args.netlist.now.circuit c.args.bad swept
    (subst (λ l. IsSafe s.netlist.circuit l) c.literal-own.ensures (safe refl))
