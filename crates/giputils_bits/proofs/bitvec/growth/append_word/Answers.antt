use Rattle.std.proofs.Common.{arith}
use Rattle.giputils_bits.proofs.Appended.{AppendsWord-first, AppendsWord-push, AppendsWord-shift}
use Rattle.giputils_bits.proofs.bitvec.growth.append_word.Goals as goal

pub returns-then-len-eq0-clause-ok : goal.returns-then-len-eq0-clause-ok
returns-then-len-eq0-clause-ok g c = rw c.put.ensures (AppendsWord-first c.args.len c.args.words.now c.args.word c.if-len-eq0.true c.requires)

pub returns-in_ok-push-clause-ok : goal.returns-in_ok-push-clause-ok
returns-in_ok-push-clause-ok g c = rw c.in_ok-push.ensures.ok (AppendsWord-push c.args.len c.args.words.now c.args.word (omega arith) (omega arith) (omega arith) c.requires)

pub returns-in_ok-push-2-clause-ok : goal.returns-in_ok-push-2-clause-ok
returns-in_ok-push-2-clause-ok g c =
    rw (c.put-else-shift-eq0.ensures, c.as_slice.ensures, c.in_ok-push-2.ensures.ok) (AppendsWord-shift c.args.len c.args.words.now c.args.word (omega arith) (λ e. c.if-shift-eq0.false e) c.requires)
