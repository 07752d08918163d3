use Rattle.std.proofs.Common.{arith}
use Rattle.std.proofs.Math.Nat.{div-le_self}
use Rattle.giputils_stat.proofs.statistic.average_duration.AverageDuration.mean.Goals as goal

pub from_nanos_u128-requires : goal.from_nanos_u128-requires
from_nanos_u128-requires c = omega (arith, c.nanos.ensures.fits, div-le_self c.nanos.result c.count-count.result)
