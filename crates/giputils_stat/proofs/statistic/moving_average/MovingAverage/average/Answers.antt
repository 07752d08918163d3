use Rattle.std.proofs.Common.{arith}
use Rattle.giputils_stat.proofs.Sums.{sum-le}
use Rattle.giputils_stat.proofs.statistic.moving_average.MovingAverage.average.Goals as goal

pub of_sum-requires : goal.of_sum-requires
of_sum-requires g c =
    let i = c.self.invariant in
    let most = sum-le c.self.inside.numbers.items i.3 in
    omega (arith, i.0, most, c.len.ensures.len)
