use Rattle.std.proofs.Common.{arith}
use Rattle.giputils_stat.proofs.Sums.{sum-fits}
use Rattle.giputils_stat.proofs.statistic.moving_average.MovingAverage.push.Goals as goal

pub overflow_add-self : goal.overflow_add-self
overflow_add-self g c =
    let i = c.self.invariant in
    let before = sum-fits c.self.inside.numbers.items c.self.inside.numbers.capacity i.1 i.2 i.3 in
    record { fits = omega (arith, i.0, before, c.ranges.number.fits) }
