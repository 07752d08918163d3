-- The number falls.
use Rattle.gipsat_answers.proofs.proof.decimal.+write_decimal.Given as goal

abbrev pub decreases-write_decimal : goal.decreases-write_decimal
decreases-write_decimal l = l.number
