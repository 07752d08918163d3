-- The witnesses are those that the text writes.
use Rattle.std.proofs.Common.{◌≡◌, ◌∙◌, None, arith, length, map}
use Rattle.std.proofs.lemmas.Grind.{common_steps}
use Rattle.std.proofs.lemmas.List.{length-map}
use Rattle.gipsat_cnf.proofs.Places.{IfNone-more}
use Rattle.gipmc_task.specs.Witnesses.{IsRight}
use Rattle.gipmc_task.proofs.Claims.{witness_by}
use Rattle.gipmc_task.proofs.Each.{every_view}
use Rattle.gipmc_task.proofs.witnesses.replay_all.Goals as goal

pub returns : goal.returns
returns c =
    let claims = c.in_ok-claims.claims.items in
    let count : length claims ≡ c.len.result = grind (arith, common_steps) in
    IfNone-more c.in_ok-doubt.doubt
    (λ right. (
      map witness_by claims,
      c.in_ok-claims.ensures,
      length-map claims witness_by ∙ count,
      every_view (IsRight c.args.problem.now c.args.kind None) witness_by claims right,
    ))
    (rw (c.deref-2.ensures.value) at c.in_ok-doubt.ensures)
