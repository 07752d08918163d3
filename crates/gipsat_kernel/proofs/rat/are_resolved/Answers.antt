use Rattle.std.proofs.Common.{sym, subst, ◌∙◌}
use Rattle.gipsat_cnf.proofs.Places.{same_some}
use Rattle.gipsat_kernel.specs.Kernel.{original_among}
use Rattle.gipsat_kernel.specs.Rat.{HasResolvent}
use Rattle.gipsat_kernel.proofs.RatLemmas.{AreResolved-next}
use Rattle.gipsat_kernel.proofs.rat.are_resolved.Goals as goal

pub loop-place-preserved : goal.loop-place-preserved
loop-place-preserved c =
    AreResolved-next c.args.held.now c.args.clauses.now c.args.opposite c.args.clause.now c.loop-place.place
    (λ d flagged at has.
    subst (λ e. HasResolvent (original_among c.args.held.now c.args.clauses.now) c.args.opposite c.args.clause.now e)
    (same_some c.clause-other.result.now d (sym c.clause-other.ensures ∙ at)) c.if-not-is_resolvent.ensures)
    c.loop-place.invariant
