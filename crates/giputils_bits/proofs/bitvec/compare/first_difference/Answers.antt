use Rattle.std.proofs.Common.{◌<◌, ◌^◌, get_or, rules, w64}
use Rattle.std.specs.Prelude.{bit_xor}
use Rattle.std.specs.Int.{trailing_zeros}
use Rattle.std.proofs.lemmas.Nat.{xor_lt}
use Rattle.std.proofs.lemmas.Nat.Bits.{shr_and_one}
use Rattle.giputils_bits.proofs.SameWords.{same_from_xor}
use Rattle.giputils_bits.proofs.Ordered.{AlikeBelow-more, IsDecided-word}
use Rattle.giputils_bits.proofs.OnesLeft.{lowest_one}
use Rattle.giputils_bits.proofs.bitvec.compare.first_difference.Goals as goal

pub overflow_shr-result : goal.overflow_shr-result
overflow_shr-result c =
    let first : get_or c.args.words.now c.loop-k.k 0 < 2 ^ 64 = search rules in
    let second : get_or c.args.others.now c.loop-k.k 0 < 2 ^ 64 = search rules in
    let fits = xor_lt 64 _ _ first second in
    (lowest_one _ c.if-difference-ne0.true fits).0

pub returns-then-difference-ne0 : goal.returns-then-difference-ne0
returns-then-difference-ne0 c =
    let w = get_or c.args.words.now c.loop-k.k 0 in
    let v = get_or c.args.others.now c.loop-k.k 0 in
    let first : w < 2 ^ 64 = search rules in
    let second : v < 2 ^ 64 = search rules in
    let fits = xor_lt 64 w v first second in
    rw (shr_and_one w (trailing_zeros w64 (bit_xor w v))) (IsDecided-word c.args.words.now c.args.others.now c.loop-k.k c.loop-k.invariant c.if-difference-ne0.true fits)

pub loop-k-preserved : goal.loop-k-preserved
loop-k-preserved c =
    AlikeBelow-more c.args.words.now c.args.others.now c.loop-k.k c.loop-k.invariant (same_from_xor _ _ c.if-difference-ne0.false)
