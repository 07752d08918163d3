-- One literal more.
use Rattle.gipsat_cnf.proofs.Places.{OnErr-always}
use Rattle.gipsat_encodings.proofs.Parities.{Defines-next, DefinesPart-then}
use Rattle.gipsat_encodings.proofs.parity.add_sum.Goals as goal

pub loop-place-preserved : goal.loop-place-preserved
loop-place-preserved g c = record {
  below = c.in_ok-sum.ensures.below;
  sum = Defines-next _ _ _ c.args.literals.now c.loop-place.place c.in_ok-sum.sum c.loop-place.sum c.index-literals-place.result _ _ _
      c.loop-place-test.true c.index-literals-place.is c.loop-place.invariant.sum c.in_ok-sum.ensures.sum;
}

pub returns-in_err-sum-clause-left : goal.returns-in_err-sum-clause-left
returns-in_err-sum-clause-left g c =
    OnErr-always _ (DefinesPart-then _ _ _ _ _ _ _ c.loop-place.invariant.sum c.in_err-sum.ensures.left)
