-- No clause, or the first one.
use Rattle.std.proofs.lemmas.Result.{on_err_weaker}
use Rattle.gipsat_cnf.proofs.Places.{OnErr-always}
use Rattle.gipsat_encodings.proofs.Leaving.{AddsSome-none}
use Rattle.gipsat_encodings.proofs.Rows.{AddsSome-bounds}
use Rattle.gipsat_encodings.proofs.counts.add_bounds.Goals as goal

pub returns-in_err-add_implied-clause-left : goal.returns-in_err-add_implied-clause-left
returns-in_err-add_implied-clause-left g c =
    OnErr-always _ (AddsSome-none c.args.outputs.now _ _ _ c.in_err-add_implied.ensures.refused)

pub returns-clause-left : goal.returns-clause-left
returns-clause-left g c =
    on_err_weaker c.add_implied-2.result
    (λ same. rw same (AddsSome-bounds c.args.outputs.now c.args.least c.args.most _ _ _ (c.said.ensures (λ is_up. c.requires)) c.in_ok-add_implied.ensures.means))
    c.add_implied-2.ensures.refused
