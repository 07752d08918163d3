-- The later row stands first in the second part.
use Rattle.std.proofs.Common.{◌<◌, [], length, arith}
use Rattle.giputils.proofs.Rows.{set-row, get_or-row, get_or-front}
use Rattle.giputils_uses.proofs.rows.join.Goals as goal

pub returns-clause-joined : goal.returns-clause-joined
returns-clause-joined g c =
    let split = c.split_at_mut-front.ensures in
    let front = c.split_at_mut-front.result.0.now in
    let back = c.split_at_mut-front.result.1.now in
    let some : 0 < length back = omega (arith, split.back_len, c.requires.inside) in
    let less : c.args.from < length front = omega (arith, split.front_len, c.requires.order) in
    rw (
      split.value,
      c.bitor_assign.ensures.after,
      set-row front back c.args.to _ split.front_len some,
      get_or-row front back c.args.to c.index-back-0-2.result [] split.front_len some,
      get_or-front front back c.args.from c.index-front-from-2.result [] less,
    )
