-- One more key has the rank that it is given, if any.
use Rattle.std.proofs.Common.{◌<◌, length, arith}
use Rattle.gip_lines.proofs.Pairs.{ranks_with-more_some, ranks_with-more_none}
use Rattle.gip_lines.proofs.scripts.replies.ranks_with.Goals as goal
use Rattle.gip_lines.proofs.scripts.replies.ranks_with.Goals.{in-Some, in_default}

pub loop-key-preserved : goal.loop-key-preserved
loop-key-preserved c =
    let given = c.args.given.now in
    let ranks = c.args.ranks in
    let key = c.loop-key.key in
    let within : key < length given = omega (arith, c.told-given) in
    elim c.match-given-key.branch [
      | in-Some w ↦
          rw (w.ranks-is, c.loop-key.invariant) (ranks_with-more_some given ranks key w.in-Some.rank within w.in-Some.is)
      | in_default w ↦
          rw (w.ranks-is, c.loop-key.invariant) (ranks_with-more_none given ranks key within w.in_default.is)
    ]
