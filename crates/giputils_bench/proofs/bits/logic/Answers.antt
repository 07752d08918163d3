-- Each operation keeps the length.
use Rattle.std.proofs.Common.{◌∙◌, sym, ◌&&◌, ◌||◌}
use Rattle.giputils_bits.specs.Logic.{xor}
use Rattle.giputils_bench.proofs.Lengths.{length-joined, length-negated}
use Rattle.giputils_bench.proofs.bits.logic.Goals as goal

pub bitor_assign-requires : goal.bitor_assign-requires
bitor_assign-requires c =
    let xored = length-joined xor _ _ _ _ c.bitxor_assign.ensures.after c.loop.invariant.0 c.loop.invariant.1 in
    c.loop.invariant.1 ∙ sym xored

pub bitand_assign-requires : goal.bitand_assign-requires
bitand_assign-requires c =
    let xored = length-joined xor _ _ _ _ c.bitxor_assign.ensures.after c.loop.invariant.0 c.loop.invariant.1 in
    let ored = length-joined ◌||◌ _ _ _ _ c.bitor_assign.ensures.after c.loop.invariant.1 xored in
    ored ∙ sym (length-negated _ _ _ c.negate.ensures xored)

pub loop-preserved : goal.loop-preserved
loop-preserved c =
    let xored = length-joined xor _ _ _ _ c.bitxor_assign.ensures.after c.loop.invariant.0 c.loop.invariant.1 in
    let ored = length-joined ◌||◌ _ _ _ _ c.bitor_assign.ensures.after c.loop.invariant.1 xored in
    let turned = length-negated _ _ _ c.negate.ensures xored in
    (turned, length-joined ◌&&◌ _ _ _ _ c.bitand_assign.ensures.after ored turned)
