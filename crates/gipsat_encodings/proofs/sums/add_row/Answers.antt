-- What the sums say at one place more.
use Rattle.std.proofs.Common.{◌+◌, ◌≤◌, length, sym, arith}
use Rattle.std.proofs.lemmas.Grind.{common_steps}
use Rattle.gipsat_cnf.proofs.Encodings.{Adds-more, Adds-same}
use Rattle.gipsat_cnf.proofs.Places.{OnErr-always}
use Rattle.gipsat_encodings.specs.Outputs.{SaysSum}
use Rattle.gipsat_encodings.proofs.Bounds.{SaysSum-implied}
use Rattle.gipsat_encodings.proofs.Rows.{AddsSome-row}
use Rattle.gipsat_encodings.proofs.sums.add_row.Goals as goal

pub loop-j-preserved : goal.loop-j-preserved
loop-j-preserved g c =
    let inside : c.args.i + c.loop-j.j ≤ length c.args.sums.now = grind (arith, common_steps) in
    let along : c.loop-j.j ≤ length c.args.right.now = grind (arith, common_steps) in
    Adds-more (λ a. SaysSum c.args.up c.args.left.now c.args.right.now c.args.sums.now a c.args.i) c.loop-j.j _ _ _ c.loop-j.invariant
    (Adds-same _ _ _ _ (λ a. SaysSum-implied a c.args.up c.args.left.now c.args.right.now c.args.sums.now c.args.i c.loop-j.j _ _ _ inside
    (c.said.ensures (λ is_up. c.requires) a) (c.said-in-loop-j.ensures (λ is_up. along) a) (c.said-sum.ensures (λ is_up. inside) a)) c.in_ok-add_implied.ensures.means)

pub returns-in_err-add_implied-clause-left : goal.returns-in_err-add_implied-clause-left
returns-in_err-add_implied-clause-left g c =
    let along : c.loop-j.j ≤ length c.args.right.now + 1 = grind (arith, common_steps) in
    OnErr-always _
    (AddsSome-row c.args.up c.args.left.now c.args.right.now c.args.sums.now c.args.i c.loop-j.j _ _ along
    (rw (sym c.in_err-add_implied.ensures.refused) at c.loop-j.invariant))
