use Rattle.std.proofs.Common.{arith}
use Rattle.giputils_stat.proofs.Decimals.{written_decimal}
use Rattle.giputils_stat.proofs.decimal.DecimalDisplay.fmt.Goals as goal

pub returns-clause-writes : goal.returns-clause-writes
returns-clause-writes g c =
    let d = c.args.self.now in
    let text = written_decimal d.numerator d.denominator d.places _ _ d.some_places c.parts-whole.ensures.value c.parts-whole.ensures.decimals (omega arith) in
    rw (c.laid_out.ensures, text) at c.write.ensures.writes
