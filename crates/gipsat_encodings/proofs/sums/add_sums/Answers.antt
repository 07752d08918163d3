-- No clause, or a part of them.
use Rattle.std.proofs.Common.{◌≡◌, ◌+◌, length, arith, rules}
use Rattle.std.specs.Prelude.{min}
use Rattle.gipsat_cnf.proofs.Places.{OnErr-always}
use Rattle.gipsat_encodings.proofs.Rows.{SumsPart-down, SumsPart-none, SumsPart-up}
use Rattle.gipsat_encodings.proofs.sums.add_sums.Goals as goal

pub returns-in_err-sums-clause-left : goal.returns-in_err-sums-clause-left
returns-in_err-sums-clause-left g c =
    OnErr-always _
    (SumsPart-none c.args.ways.up c.args.ways.down c.args.size _ _ c.args.left.now c.args.right.now _ c.in_err-sums.ensures.rises)

pub returns-in_err-add_way-clause-left : goal.returns-in_err-add_way-clause-left
returns-in_err-add_way-clause-left g c =
    let sized : length c.in_ok-sums.sums.items ≡ min (length c.args.left.now + length c.args.right.now) c.args.size = search rules in
    let long = c.in_ok-sums.ensures.len in
    let next = c.in_ok-sums.ensures.next in
    OnErr-always _
    (SumsPart-up c.args.ways.up c.args.ways.down c.args.size _ _ c.args.left.now c.args.right.now c.in_ok-sums.sums.items _ _ sized c.in_ok-sums.ensures.fresh
    (omega (arith, long, next)) (rw c.deref.ensures.value at c.in_err-add_way.ensures.left))

pub returns-in_err-add_way-2-clause-left : goal.returns-in_err-add_way-2-clause-left
returns-in_err-add_way-2-clause-left g c =
    let sized : length c.in_ok-sums.sums.items ≡ min (length c.args.left.now + length c.args.right.now) c.args.size = search rules in
    let long = c.in_ok-sums.ensures.len in
    let next = c.in_ok-sums.ensures.next in
    OnErr-always _
    (SumsPart-down c.args.ways.up c.args.ways.down c.args.size _ _ c.args.left.now c.args.right.now c.in_ok-sums.sums.items _ _ _ sized c.in_ok-sums.ensures.fresh
    (omega (arith, long, next)) (rw c.deref.ensures.value at c.in_ok-add_way.ensures.means) (rw c.deref-2.ensures.value at c.in_err-add_way-2.ensures.left))
