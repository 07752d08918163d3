use Rattle.std.proofs.Common.{◌-◌, ◌^◌, ◌<◌, get_or, arith, rules}
use Rattle.giputils_bits.proofs.Shifted.{IsLaid-first, IsLaid-joined}
use Rattle.giputils_bits.proofs.bitvec.words.moved_up.Goals as goal

pub returns-then-from-eq0 : goal.returns-then-from-eq0
returns-then-from-eq0 c =
    IsLaid-first c.args.n c.args.words.now c.args.k (omega (arith, c.in-Some.ensures.0, c.in-Some.ensures.1, c.if-from-eq0.true))

pub returns : goal.returns
returns c =
    let fits : get_or c.args.words.now (c.in-Some.from - 1) 0 < 2 ^ 64 = search rules in
    IsLaid-joined c.args.n c.args.words.now c.in-Some.from c.args.k (omega (arith, c.in-Some.ensures.0, c.in-Some.ensures.1)) (omega (arith, c.if-from-eq0.false)) fits
