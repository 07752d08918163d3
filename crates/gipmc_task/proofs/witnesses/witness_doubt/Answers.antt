-- The witnesses are those that the text writes.
use Rattle.std.proofs.Common.{◌≡◌, map, rules, true}
use Rattle.std.specs.List.{list_any}
use Rattle.std.proofs.lemmas.Result.{IfOk-weaker}
use Rattle.gipsat_cnf.proofs.Places.{IfNone-more}
use Rattle.gipmc_task.specs.Witnesses.{IsRight, names_asked}
use Rattle.gipmc_task.proofs.Claimed.{asked_of_witnesses}
use Rattle.gipmc_task.proofs.Claims.{witness_by}
use Rattle.gipmc_task.proofs.Each.{every_view}
use Rattle.gipmc_task.proofs.witnesses.witness_doubt.Goals as goal

pub returns : goal.returns
returns c =
    let named : list_any (λ x. names_asked x.properties.items c.args.asked) c.in_ok-claims.claims.items ≡ true =
    search rules in
    IfOk-weaker c.first_doubt.result _ _
    (λ doubt. IfNone-more doubt (λ right. (
      map witness_by c.in_ok-claims.claims.items,
      c.in_ok-claims.ensures,
      rw (asked_of_witnesses c.args.asked c.in_ok-claims.claims.items) named,
      every_view (IsRight c.args.problem.now c.args.kind c.args.asked) witness_by c.in_ok-claims.claims.items right,
    )))
    (rw (c.deref-2.ensures.value) at c.first_doubt.ensures)
