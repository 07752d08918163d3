-- One digit more, and half of the rest.
use Rattle.std.proofs.Common.{◌/◌, ◌++◌, ◌∷◌, [], sym, subst}
use Rattle.gipmc_builder.proofs.Numbers.{DigitsSoFar, digits_all, digits_more}
use Rattle.gipmc_builder.proofs.build.digits.Goals as goal

pub loop-rest-preserved : goal.loop-rest-preserved
loop-rest-preserved c =
    subst (λ ls. DigitsSoFar c.args.n ls (c.loop-rest.rest / 2)) (sym c.in_ok-push.ensures.items)
    (subst (λ l. DigitsSoFar c.args.n (c.loop-rest.digits.items ++ l ∷ []) (c.loop-rest.rest / 2)) (sym c.constant.ensures)
    (digits_more c.args.n c.loop-rest.digits.items c.loop-rest.rest c.loop-rest.invariant))

pub returns : goal.returns
returns c =
    digits_all c.args.n c.loop-rest.digits.items c.loop-rest.rest c.loop-rest.invariant c.loop-rest-test.false
