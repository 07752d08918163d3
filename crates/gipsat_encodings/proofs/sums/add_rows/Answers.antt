-- The rows before, and a part of the next one.
use Rattle.gipsat_cnf.proofs.Places.{OnErr-always}
use Rattle.gipsat_encodings.proofs.Rows.{AddsSome-rows}
use Rattle.gipsat_encodings.proofs.sums.add_rows.Goals as goal

pub returns-in_err-add_row-clause-left : goal.returns-in_err-add_row-clause-left
returns-in_err-add_row-clause-left g c =
    OnErr-always _
    (AddsSome-rows c.args.up c.args.left.now c.args.right.now c.args.sums.now c.loop-i.i _ _ _ c.loop-i-test.true c.loop-i.invariant c.in_err-add_row.ensures.left)
