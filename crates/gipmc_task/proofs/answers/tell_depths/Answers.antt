-- One more depth is told.
use Rattle.std.proofs.Common.{rules, ◌≡◌, ◌∙◌, ◌<◌, ◌^◌, Some, subst, sym}
use Rattle.std.specs.Prelude.{slice_get}
use Rattle.gipmc_engines.specs.Verdicts.{NeverFailsWithin}
use Rattle.gipmc_task.specs.Verdicts.{depth_text}
use Rattle.gipmc_task.proofs.Told.{AreClear-more}
use Rattle.gipmc_task.proofs.Written.{IsWritten-push}
use Rattle.gipmc_task.proofs.answers.tell_depths.Goals as goal

pub loop-preserved : goal.loop-preserved
loop-preserved g c =
    let circuit = c.args.query.now.whole.now.circuit in
    let bad = c.args.bad in
    let depth = c.in-Some.depth in
    let here = subst (λ b. slice_get b.now c.args.at ≡ Some bad) (sym c.loop.invariant.bads) c.requires in
    let never = subst (λ w. NeverFailsWithin w.now.circuit bad depth) c.loop.invariant.whole (c.in-Some.ensures.clear bad here) in
    let fits : depth < 2 ^ 64 = search rules in
    record {
      whole = c.in-Some.ensures.whole ∙ c.loop.invariant.whole;
      bads = c.in-Some.ensures.bads ∙ c.loop.invariant.bads;
      depths = rw (c.in_ok-push.ensures.items)
          (AreClear-more circuit bad c.loop.depths.items depth c.loop.invariant.depths never fits);
      written = rw (c.in_ok-push.ensures.items)
          (IsWritten-push depth_text _ _ _ _ _ _ c.loop.depths.items depth c.loop.invariant.written
          (rw (c.deref.ensures.value, c.in_ok-depth_text.ensures) at c.tell.ensures));
    }
