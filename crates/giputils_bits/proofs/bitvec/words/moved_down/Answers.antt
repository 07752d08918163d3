use Rattle.std.proofs.Common.{◌+◌, ◌/◌, ◌^◌, ◌<◌, get_or, refl, arith, rules}
use Rattle.giputils_bits.proofs.Shifted.{moved_none, moved_last, moved_joined}
use Rattle.giputils_bits.proofs.bitvec.words.moved_down.Goals as goal

pub returns-then-n-words : goal.returns-then-n-words
returns-then-n-words c = moved_none c.args.n c.args.words.now c.args.k (omega (arith, c.if-n-words.true))

pub returns-then-from-words : goal.returns-then-from-words
returns-then-from-words c =
    let fits : get_or c.args.words.now (c.args.k + c.args.n / 64) 0 < 2 ^ 64 = search rules in
    moved_last c.args.n c.args.words.now c.args.k (c.args.k + c.args.n / 64) refl c.if-from-words.true fits

pub returns : goal.returns
returns c =
    let fits : get_or c.args.words.now (c.args.k + c.args.n / 64) 0 < 2 ^ 64 = search rules in
    moved_joined c.args.n c.args.words.now c.args.k (c.args.k + c.args.n / 64) refl fits
