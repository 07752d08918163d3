use Rattle.std.proofs.Common.{ap, sym, ◌∙◌, take, arith}
use Rattle.std.proofs.lemmas.Bool.{false≢true}
use Rattle.giputils_bits.proofs.SameWords.{same_rests}
use Rattle.giputils_bits.proofs.bitvec.blocks.same_words.Goals as goal

pub loop-rest-init : goal.loop-rest-init
loop-rest-init c = (c.requires, (λ e. e, λ e. e))

pub returns-then-not-same_block : goal.returns-then-not-same_block
returns-then-not-same_block c =
    let front = c.split_at.ensures.front in
    let others_front = c.split_at-in-loop-rest.ensures.front in (
      λ t. absurd (false≢true t),
      λ e. sym c.if-not-same_block.true ∙ c.same_block.ensures.1 (front ∙ ap (take 64) (c.loop-rest.invariant.1.1 e) ∙ sym others_front),
    )

pub loop-rest-preserved : goal.loop-rest-preserved
loop-rest-preserved c =
    let mine = c.split_at.ensures in
    let theirs = c.split_at-in-loop-rest.ensures in
    let rests = same_rests 64 _ _ (sym mine.front ∙ c.same_block.ensures.0 c.if-not-same_block.false ∙ theirs.front) in (
      omega (arith, mine.back_len, theirs.back_len, c.loop-rest.invariant.0),
      (
        λ e. c.loop-rest.invariant.1.0 (rests.0 (sym mine.back ∙ e ∙ theirs.back)),
        λ e. mine.back ∙ rests.1 (c.loop-rest.invariant.1.1 e) ∙ sym theirs.back,
      ),
    )

pub returns : goal.returns
returns c = (
  λ t. c.loop-rest.invariant.1.0 (c.same_block-2.ensures.0 t),
  λ e. c.same_block-2.ensures.1 (c.loop-rest.invariant.1.1 e),
)
