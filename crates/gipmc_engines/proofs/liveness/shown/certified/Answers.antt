-- By certified clauses the longer circuit is safe, and so the circuit is live.
use Rattle.gipmc_reduce.proofs.SafelyMade.{IsLiveByClauses-made}
use Rattle.gipmc_engines.proofs.liveness.shown.certified.Goals as goal

pub returns-then-branch : goal.returns-then-branch
returns-then-branch g c =
    let of = c.args.of in
    rw (c.live.ensures)
    (IsLiveByClauses-made of.netlist.now.circuit c.in-Some.made.circuit of.fairness.now of.justice.now c.args.means
    c.args.clauses.items c.in-Some.bad (rw c.in-Some.is at c.in_ok-made.ensures.made)
    (rw (c.deref.ensures.value) at (c.in_ok-is_safe_by.ensures c.if-branch.true)))
