use Rattle.std.proofs.Common.{◌≡◌, ◌<◌, ◌≤◌, ◌*◌, ◌%◌, ◌^◌, arith}
use Rattle.std.proofs.Math.Nat.{one-le-pow}
use Rattle.giputils_stat.specs.Decimals.{rounded}
use Rattle.giputils_stat.proofs.Rounding.{rounded-split, rounded-le, whole_below}
use Rattle.giputils_stat.proofs.decimal.Decimal.parts.Goals as goal

pub overflow_add-result : goal.overflow_add-result
overflow_add-result c =
    let d = c.args.self.now in
    let some : 0 < c.pow-unit.result = rw c.pow-unit.ensures (one-le-pow _ 10 (omega arith)) in
    let carry : c.pow-unit.result ≤ rounded (d.numerator % d.denominator * c.pow-unit.result) d.denominator =
    omega (arith, c.rounded-decimals.ensures.value) in
    let below = whole_below d.numerator d.denominator c.pow-unit.result d.divides some carry in
    record { fits = omega arith }

pub returns-then-decimals-unit-clause-value : goal.returns-then-decimals-unit-clause-value
returns-then-decimals-unit-clause-value c =
    let d = c.args.self.now in
    let split = rounded-split d.numerator d.denominator d.places d.divides d.some_places in
    let decimals : c.rounded-decimals.result ≡ rounded (d.numerator % d.denominator * 10 ^ d.places) d.denominator =
    rw (← c.pow-unit.ensures) c.rounded-decimals.ensures.value in
    omega arith

pub returns-else-decimals-unit-clause-value : goal.returns-else-decimals-unit-clause-value
returns-else-decimals-unit-clause-value c =
    let d = c.args.self.now in
    let split = rounded-split d.numerator d.denominator d.places d.divides d.some_places in
    let decimals : c.rounded-decimals.result ≡ rounded (d.numerator % d.denominator * 10 ^ d.places) d.denominator =
    rw (← c.pow-unit.ensures) c.rounded-decimals.ensures.value in
    let most : rounded (d.numerator % d.denominator * 10 ^ d.places) d.denominator ≤ 10 ^ d.places =
    rounded-le (d.numerator % d.denominator) d.denominator (10 ^ d.places) (omega (arith, d.divides)) in
    omega arith

pub returns-else-decimals-unit-clause-decimals : goal.returns-else-decimals-unit-clause-decimals
returns-else-decimals-unit-clause-decimals c = one-le-pow _ 10 (omega arith)
