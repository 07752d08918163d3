use Rattle.std.proofs.Common.{length, refl}
use Rattle.std.proofs.lemmas.Option.{slice_get_read}
use Rattle.gipsat_kernel.proofs.Marking.{IsClearing-next, NoneMarked-cleared}
use Rattle.gipsat_kernel.proofs.marks.unmark.Goals as goal

pub loop-l-preserved : goal.loop-l-preserved
loop-l-preserved c =
    let listed = c.args.listed.now in
    let at = slice_get_read listed (length listed) c.loop-l.l-index c.l-item.result refl c.loop-l-test.true c.l-item.is in
    rw c.put.ensures (IsClearing-next c.args.listed.now c.args.flags.now.items c.loop-l.flags.items c.loop-l.l-index c.l-item.result at c.loop-l.invariant)

pub returns : goal.returns
returns c =
    NoneMarked-cleared c.args.listed.now c.args.flags.now.items c.loop-l.flags.items c.loop-l.l-index c.loop-l-test.false c.requires c.loop-l.invariant
