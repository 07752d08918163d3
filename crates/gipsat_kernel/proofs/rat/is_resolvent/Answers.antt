use Rattle.std.proofs.Common.{◌≡◌, true, false, arith}
use Rattle.std.specs.Prelude.{slice_index_or}
use Rattle.std.proofs.lemmas.Grind.{common_steps}
use Rattle.gipsat_kernel.proofs.RatLemmas.{HasResolvent-at}
use Rattle.gipsat_kernel.proofs.Verdicts.{OnTrue-then}
use Rattle.gipsat_kernel.proofs.rat.is_resolvent.Goals as goal

pub returns : goal.returns
returns c =
    let flagged : slice_index_or c.args.held.now c.args.id false ≡ true = grind (arith, common_steps) in
    OnTrue-then c.is_of_resolvent.result
    (λ part. HasResolvent-at c.args.held.now c.args.clauses.now c.args.but c.args.clause.now c.args.other.now c.clause.result.now c.args.id flagged
    c.clause.ensures part)
    c.is_of_resolvent.ensures
