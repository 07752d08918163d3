-- One of the places that are left is answered.
use Rattle.std.proofs.Common.{◌∙◌, ◌<◌, length, arith, refl, subst, sym}
use Rattle.std.proofs.lemmas.List.{nil_from_length}
use Rattle.gipmc_task.specs.Answers.{Tells}
use Rattle.gipmc_task.specs.Verdicts.{answer_text, places_of}
use Rattle.gipmc_task.proofs.Once.{TellsEach-last, left_count, left_shorter, left_within, names_own, once-more, right-more}
use Rattle.gipmc_task.proofs.Written.{IsWritten-none, IsWritten-push}
use Rattle.gipmc_task.proofs.known.tell_known.Goals as goal

pub loop-told-init : goal.loop-told-init
loop-told-init g c =
    let count = length c.args.query.now.bads.now in
    let left = c.in_ok-left.left.items in
    record {
      whole = refl;
      bads = refl;
      count = omega (arith, left_count count left c.in_ok-left.ensures);
      once = rw (c.new-answers.ensures.items) c.in_ok-left.ensures;
      right = rw (c.new-answers.ensures.items) tt;
      written = rw (c.new-answers.ensures.items)
          (IsWritten-none c.args.output.now.failure (g.W.Write.contents c.args.output.now.writer));
    }

pub tell_at-requires-clause-within : goal.tell_at-requires-clause-within
tell_at-requires-clause-within g c =
    let count = length c.args.query.now.bads.now in
    let left = c.loop-told.left.items in
    let at = c.next_known-at.result in
    let less : at < length left = subst (λ ks. at < length ks) c.deref.ensures.value c.next_known-at.ensures.within in
    subst (λ bs. c.remove-place.result < length bs.now) (sym (c.next_known-at.ensures.bads ∙ c.loop-told.invariant.bads))
    (left_within count (places_of c.loop-told.answers.items) left at c.remove-place.result c.loop-told.invariant.once less
    c.remove-place.ensures.value)

pub loop-told-preserved : goal.loop-told-preserved
loop-told-preserved g c =
    let so_far = c.loop-told.invariant in
    let circuit = c.args.query.now.whole.now.circuit in
    let count = length c.args.query.now.bads.now in
    let left = c.loop-told.left.items in
    let answers = c.loop-told.answers.items in
    let at = c.next_known-at.result in
    let place = c.remove-place.result in
    let answer = c.in_ok-answer.answer in
    let taken = c.remove-place.ensures.value in
    let less : at < length left = subst (λ ks. at < length ks) c.deref.ensures.value c.next_known-at.ensures.within in
    let tells : Tells circuit place answer = subst (λ w. Tells w.now.circuit place answer)
    (c.next_known-at.ensures.whole ∙ so_far.whole) c.in_ok-answer.ensures.tells in
    let own = names_own circuit place answer tells in
    record {
      whole = c.in_ok-answer.ensures.whole ∙ (c.next_known-at.ensures.whole ∙ so_far.whole);
      bads = c.in_ok-answer.ensures.bads ∙ (c.next_known-at.ensures.bads ∙ so_far.bads);
      count = rw (c.remove-place.ensures.items) (omega (arith, so_far.count, left_shorter left at place less taken));
      once = rw (c.push_reserved.ensures.items, c.in_ok-reserve.ensures.items, c.remove-place.ensures.items)
          (once-more count answers left at place answer so_far.once less taken own);
      right = rw (c.push_reserved.ensures.items, c.in_ok-reserve.ensures.items)
          (right-more (Tells circuit) answers place answer so_far.right own tells);
      written = rw (c.push_reserved.ensures.items, c.in_ok-reserve.ensures.items)
          (IsWritten-push answer_text _ _ _ _ _ _ answers answer so_far.written c.in_ok-answer.ensures.written);
    }

pub returns-clause-tells : goal.returns-clause-tells
returns-clause-tells g c =
    let count = length c.args.query.now.bads.now in
    let left = c.loop-told.left.items in
    let none = nil_from_length left (omega (arith, c.loop-told.invariant.count, c.loop-told-test.false)) in
    TellsEach-last (Tells c.args.query.now.whole.now.circuit) count c.loop-told.answers.items left none
    c.loop-told.invariant.once c.loop-told.invariant.right
