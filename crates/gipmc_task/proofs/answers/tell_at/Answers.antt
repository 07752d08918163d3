-- The depths are told, and behind them what is known.
use Rattle.std.proofs.Common.{◌≡◌, ◌∙◌, Some, get_or, subst, sym}
use Rattle.std.specs.Prelude.{slice_get}
use Rattle.std.proofs.lemmas.Option.{slice_get-get_or}
use Rattle.std.proofs.lemmas.Result.{IfOk-weaker}
use Rattle.gipmc_task.specs.Answers.{IsKnown}
use Rattle.gipmc_task.proofs.Told.{IsWritten-answer, Tells-by, ok_both}
use Rattle.gipmc_task.proofs.answers.tell_at.Goals as goal

pub returns-clause-tells : goal.returns-clause-tells
returns-clause-tells g c =
    let circuit = c.args.query.now.whole.now.circuit in
    let bads = c.args.query.now.bads.now in
    let bad = get_or bads c.args.at c.index-query-at.result in
    let known = c.find_out-known.result in
    let at : slice_get bads c.args.at ≡ Some bad = slice_get-get_or bads c.args.at c.index-query-at.result c.requires.within in
    let here = subst (λ b. slice_get b.now c.args.at ≡ Some bad) (sym c.in_ok-depths.ensures.bads) at in
    let right = subst (λ w. IsKnown w.now.circuit bad known) c.in_ok-depths.ensures.whole
    (c.find_out-known.ensures.right bad here) in
    IfOk-weaker c.tell_behind.result _ _
    (λ a is. Tells-by circuit c.args.place bad c.in_ok-depths.depths.items known a (c.requires.same ∙ at)
    c.in_ok-depths.ensures.depths right is)
    c.tell_behind.ensures.answer

pub returns-clause-written : goal.returns-clause-written
returns-clause-written g c =
    ok_both _ _ _ c.tell_behind.result
    (λ a is written. IsWritten-answer _ _ _ _ _ _ _ c.in_ok-depths.depths.items c.find_out-known.result a is
    c.in_ok-depths.ensures.written written)
    c.tell_behind.ensures.answer c.tell_behind.ensures.written
