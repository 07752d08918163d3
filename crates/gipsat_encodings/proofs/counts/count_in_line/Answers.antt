-- One literal more.
use Rattle.gipsat_cnf.proofs.Places.{OnErr-always}
use Rattle.gipsat_encodings.proofs.Parts.{Counts-next, DefinesPart-next}
use Rattle.gipsat_encodings.proofs.counts.count_in_line.Goals as goal

pub loop-place-preserved : goal.loop-place-preserved
loop-place-preserved g c =
    Counts-next _ _ _ _ _ _ c.args.literals.now c.loop-place.place c.index-literals-place.result c.loop-place.row.items _ c.in_ok-row-2.row.items _ _ _ c.requires.some
    c.requires.below c.loop-place-test.true c.index-literals-place.is c.deref.ensures.value c.loop-place.invariant c.in_ok-row-2.ensures.len c.in_ok-row-2.ensures.fresh
    c.in_ok-row-2.ensures.next c.in_ok-row-2.ensures.means

pub returns-in_err-row-2-clause-left : goal.returns-in_err-row-2-clause-left
returns-in_err-row-2-clause-left g c =
    OnErr-always _
    (DefinesPart-next _ _ _ _ _ _ c.args.literals.now c.loop-place.place c.index-literals-place.result c.loop-place.row.items _ _ _ _ c.requires.some
    c.requires.below c.loop-place-test.true c.index-literals-place.is c.deref.ensures.value c.loop-place.invariant c.in_err-row-2.ensures.rises
    c.in_err-row-2.ensures.left)
