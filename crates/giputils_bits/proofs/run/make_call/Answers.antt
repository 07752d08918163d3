use Rattle.std.proofs.Common.{◌∙◌, ap, refl, sym}
use Rattle.giputils_bits.specs.declared.run.BitReply.TheVariants.{Bit, Number}
use Rattle.std.proofs.lemmas.Slice.Eq.{slice_eq-Decides}
use Rattle.std.specs.Cmp.{booleans_Decides}
use Rattle.giputils_bits.proofs.Replies.{any_reply, bit_reply, equality_reply_is, first_word, same_reply}
use Rattle.giputils_bits.proofs.Words.{length-words_of}
use Rattle.giputils_bits.proofs.run.make_call.Goals as goal

pub returns-in-WordLen-clause-reply : goal.returns-in-WordLen-clause-reply
returns-in-WordLen-clause-reply g c = rw c.in-WordLen.is (ap Number (c.word_len.ensures.words ∙ sym (length-words_of c.args.bits.now)))

pub returns-in-ToUsize-clause-reply : goal.returns-in-ToUsize-clause-reply
returns-in-ToUsize-clause-reply g c = rw c.in-ToUsize.is (ap Number (c.to_usize.ensures ∙ first_word c.args.bits.now))

pub returns-else-len-eq0-clause-reply : goal.returns-else-len-eq0-clause-reply
returns-else-len-eq0-clause-reply g c = rw c.in-IsZero.is (equality_reply_is _ _ _ (λ e. c.if-len-eq0.false (c.len-len.ensures ∙ e)) c.is_zero.ensures)

pub returns-else-len-eq0-2-clause-reply : goal.returns-else-len-eq0-2-clause-reply
returns-else-len-eq0-2-clause-reply g c = rw c.in-IsOne.is (equality_reply_is _ _ _ (λ e. c.if-len-eq0-2.false (c.len-len.ensures ∙ e)) c.is_one.ensures)

pub returns-else-len-eq0-3-clause-reply : goal.returns-else-len-eq0-3-clause-reply
returns-else-len-eq0-3-clause-reply g c = rw c.in-IsOnes.is (equality_reply_is _ _ _ (λ e. c.if-len-eq0-3.false (c.len-len.ensures ∙ e)) c.is_ones.ensures)

pub returns-in-Any-clause-reply : goal.returns-in-Any-clause-reply
returns-in-Any-clause-reply g c =
    rw c.in-Any.is (ap Bit (any_reply c.args.bits.now _ _ c.any.ensures (slice_eq-Decides booleans_Decides c.args.bits.now _ _ refl)))

pub returns-in-All-clause-reply : goal.returns-in-All-clause-reply
returns-in-All-clause-reply g c = rw c.in-All.is (ap Bit (same_reply _ _ _ c.all.ensures))

pub returns-in-None-clause-reply : goal.returns-in-None-clause-reply
returns-in-None-clause-reply g c = rw c.in-None.is (ap Bit (same_reply _ _ _ c.none.ensures))

pub returns-else-len-8-clause-reply : goal.returns-else-len-8-clause-reply
returns-else-len-8-clause-reply g c = rw c.in-IsSubset.is (bit_reply _ _ _ _ (sym c.len-len.ensures ∙ c.if-len-8.false ∙ c.len-in-IsSubset.ensures) (same_reply _ _ _ c.is_subset.ensures))

pub returns-else-len-9-clause-reply : goal.returns-else-len-9-clause-reply
returns-else-len-9-clause-reply g c = rw c.in-IsDisjoint.is (bit_reply _ _ _ _ (sym c.len-len.ensures ∙ c.if-len-9.false ∙ c.len-in-IsDisjoint.ensures) (same_reply _ _ _ c.is_disjoint.ensures))
