use Rattle.std.specs.Fmt.{decimal as digits_of}
use Rattle.giputils_stat.specs.Decimals.{ratio}
use Rattle.giputils_stat.proofs.Texts.{success_rate_pieces}
use Rattle.giputils_stat.proofs.statistic.success_rate.SuccessRateDebug.fmt.Goals as goal

pub returns : goal.returns
returns g c =
    let o = c.self.inside in
    let r = c.rate-rate.result in
    let text = success_rate_pieces (digits_of o.successes) (digits_of o.failures) (ratio r.numerator r.denominator r.places) in
    let rate = c.rate-rate.ensures in
    record { writes = rw (← c.self.view_is) (rw (text, rate.successes, rate.tries, rate.places, ← c.self.view_is) at c.write.ensures.writes) }
