use Rattle.std.proofs.Common.{◌≡◌, ◌+◌, ◌*◌, ◌/◌, ◌^◌, ◌<◌, length, get_or, arith, rules}
use Rattle.giputils_bits.proofs.Overlaid.{Overlays-more, Overlays-wider, Carries-next, IsLaid-word, IsLaid-carry}
use Rattle.giputils_bits.proofs.bitvec.words.overlay_words.Goals as goal

pub loop-k-preserved : goal.loop-k-preserved
loop-k-preserved c =
    let n = c.args.start in
    let others = c.args.others.now in
    let first = c.args.start / 64 in
    let next : 64 * (first + c.loop-k.k) + 64 ≡ 64 * (first + (c.loop-k.k + 1)) = omega arith in
    let fits : get_or others c.loop-k.k 0 < 2 ^ 64 = search rules in
    record {
      laid =
          rw next at (Overlays-more n others c.args.words.now c.loop-k.words (first + c.loop-k.k) _ (omega arith)
          (IsLaid-word n others c.loop-k.k (first + c.loop-k.k) c.loop-k.carry (omega arith) c.loop-k.invariant.carried) c.loop-k.invariant.laid);
      carried = Carries-next n others c.loop-k.k (first + (c.loop-k.k + 1)) fits (omega arith);
    }

pub returns-then-end-words : goal.returns-then-end-words
returns-then-end-words c =
    let n = c.args.start in
    let others = c.args.others.now in
    let end = c.args.start / 64 + length others in
    let all : c.loop-k.k ≡ length others = omega arith in
    Overlays-wider n others c.args.words.now _ (64 * end + 64) (64 * length c.args.words.now) (omega arith)
    (Overlays-more n others c.args.words.now c.loop-k.words end c.loop-k.carry (omega arith)
    (IsLaid-carry n others end c.loop-k.carry (omega arith) (rw all at c.loop-k.invariant.carried)) (rw all at c.loop-k.invariant.laid)) (omega arith)
