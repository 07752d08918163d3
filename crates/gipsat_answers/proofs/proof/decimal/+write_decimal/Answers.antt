-- The digits before the last one, if there are any, and then that.
use Rattle.std.proofs.Common.{arith}
use Rattle.std.proofs.lemmas.Grind.{common_steps}
use Rattle.gipsat_answers.proofs.DecimalLemmas.{digits_and_last, one_digit}
use Rattle.gipsat_answers.proofs.proof.decimal.+write_decimal.Goals as goal

pub returns-then-number-lt10 : goal.returns-then-number-lt10
returns-then-number-lt10 t c = let small = c.if-number-lt10.true in one_digit _ _ c.args.number (omega arith) (grind (arith, common_steps))

pub returns : goal.returns
returns t c =
    let great = c.if-number-lt10.false in
    let fits = c.ranges.number.fits in
    digits_and_last _ c.write_decimal.new.bytes.items _ c.args.number (omega arith) (omega arith)
    (grind (arith, common_steps)) (grind (arith, common_steps))
