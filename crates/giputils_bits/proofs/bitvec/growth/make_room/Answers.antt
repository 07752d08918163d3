use Rattle.std.proofs.Common.{arith}
use Rattle.giputils_bits.proofs.Places.{HasRoom-push}
use Rattle.giputils_bits.proofs.bitvec.growth.make_room.Goals as goal

pub returns-in_ok-push-clause-ok : goal.returns-in_ok-push-clause-ok
returns-in_ok-push-clause-ok g c = rw c.in_ok-push.ensures.ok (HasRoom-push c.args.len c.args.words.now (omega arith) (omega arith) c.requires)
