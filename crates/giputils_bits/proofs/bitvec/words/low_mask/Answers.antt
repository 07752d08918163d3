use Rattle.std.proofs.Common.{◌≡◌, ◌-◌, arith}
use Rattle.std.proofs.lemmas.Nat.Bits.{ones_shr}
use Rattle.giputils_bits.proofs.bitvec.words.low_mask.Goals as goal

pub returns : goal.returns
returns c =
    let back : 64 - (64 - c.args.count) ≡ c.args.count = omega arith in
    rw back at (ones_shr 64 (64 - c.args.count) (omega arith))
