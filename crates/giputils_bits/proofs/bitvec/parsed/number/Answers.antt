use Rattle.std.proofs.Common.{◌==◌, ◌∙◌, get_or, ap, arith}
use Rattle.std.proofs.lemmas.List.{take_all}
use Rattle.giputils_bits.specs.Prelude.{places_written, value_of}
use Rattle.giputils_bits.proofs.Parsed.{number_fits, number_more, bit_fits}
use Rattle.giputils_bits.proofs.bitvec.parsed.number.Goals as goal

pub overflow_mul-number : goal.overflow_mul-number
overflow_mul-number c = omega (arith, number_fits c.args.digits.now c.loop-digit.digit-index c.loop-digit.number (omega arith) c.loop-digit.invariant)

pub overflow_add-number : goal.overflow_add-number
overflow_add-number c =
    omega (
      arith,
      number_fits c.args.digits.now c.loop-digit.digit-index c.loop-digit.number (omega arith) c.loop-digit.invariant,
      bit_fits (get_or c.args.digits.now c.loop-digit.digit-index 0 == 49) c.from.result c.from.ensures,
    )

pub loop-digit-preserved : goal.loop-digit-preserved
loop-digit-preserved c =
    number_more c.args.digits.now c.loop-digit.digit-index c.loop-digit.number c.from.result c.loop-digit-test.true c.loop-digit.invariant c.from.ensures

pub returns : goal.returns
returns c =
    c.loop-digit.invariant
    ∙ ap (λ text. value_of (places_written text)) (take_all c.loop-digit.digit-index c.args.digits.now (omega arith))
