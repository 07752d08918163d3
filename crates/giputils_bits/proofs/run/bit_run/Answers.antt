-- One more call is answered; after the last, all are.
use Rattle.std.proofs.Common.{arith, ap, sym, ◌∙◌, ◌≡◌, ◌+◌, ◌++◌, ◌∷◌, [], take}
use Rattle.std.proofs.lemmas.List.{take_more, take_all}
use Rattle.giputils_bits.proofs.Runs.{Answers-push}
use Rattle.giputils_bits.proofs.run.bit_run.Goals as goal

pub loop-call-preserved : goal.loop-call-preserved
loop-call-preserved g c =
    let more : take (c.loop-call.call-index + 1) c.args.calls.now ≡ take c.loop-call.call-index c.args.calls.now ++ c.call-item.result ∷ [] =
    take_more c.args.calls.now c.loop-call.call-index c.call-item.result c.loop-call-test.true
    ∙ ap (λ call. take c.loop-call.call-index c.args.calls.now ++ call ∷ []) (sym c.call-item.is) in
    record {
      answers = rw (more, c.push_reserved.ensures.items, c.make_call.ensures.after) (Answers-push [] _ _ _ _ _ c.loop-call.invariant.answers c.make_call.ensures.reply);
      len = omega arith;
      room = omega arith;
    }

pub returns-clause-answers : goal.returns-clause-answers
returns-clause-answers g c =
    let all : take c.loop-call.call-index c.args.calls.now ≡ c.args.calls.now = take_all c.loop-call.call-index c.args.calls.now c.loop-call-test.false in
    rw all at c.loop-call.invariant.answers
