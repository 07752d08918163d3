use Rattle.std.proofs.Common.{length, refl}
use Rattle.std.proofs.lemmas.Option.{slice_get_read}
use Rattle.gipsat_kernel.proofs.Marking.{AreOfFirst-next, AreOfFirst-none}
use Rattle.gipsat_kernel.proofs.marks.mark_known.Goals as goal

pub loop-l-init : goal.loop-l-init
loop-l-init c = AreOfFirst-none c.args.literals.now c.args.flags.now.items c.requires

pub loop-l-preserved : goal.loop-l-preserved
loop-l-preserved c =
    let literals = c.args.literals.now in
    let at = slice_get_read literals (length literals) c.loop-l.l-index c.l-item.result refl c.loop-l-test.true c.l-item.is in
    rw c.put.ensures (AreOfFirst-next c.args.literals.now c.loop-l.flags.items c.loop-l.l-index c.l-item.result at c.loop-l.invariant)

pub returns : goal.returns
returns c = λ m marked. let first = c.loop-l.invariant m marked in (first.0, first.2)
