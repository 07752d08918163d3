use Rattle.std.proofs.Common.{◌≡◌, ◌-◌, ◌^◌, ◌∙◌, take, map, arith, sym}
use Rattle.std.specs.Fmt.{digit_glyph}
use Rattle.std.proofs.lemmas.List.{length-set}
use Rattle.std.proofs.lemmas.Nat.{and_mask}
use Rattle.std.proofs.lemmas.Str.{IsUtf8-from_ascii}
use Rattle.giputils_bits.specs.Text.{lowest_digits}
use Rattle.giputils_bits.proofs.Text.{without_lowest-more, spelt_is, spelt_more, below_16, IsAscii-lowest}
use Rattle.giputils_bits.proofs.bitvec.text.spell.Goals as goal

pub glyph-requires : goal.glyph-requires
glyph-requires c = rw (c.loop-k.invariant.mask, and_mask c.loop-k.rest c.args.shift) (below_16 c.args.shift c.loop-k.rest c.requires.some c.requires.few)

pub loop-k-preserved : goal.loop-k-preserved
loop-k-preserved c = record {
  mask = c.loop-k.invariant.mask;
  rest = rw c.loop-k.invariant.rest (sym (without_lowest-more (2 ^ c.args.shift) c.loop-k.k c.args.word));
  long = length-set c.loop-k.buffer (c.args.count - 1 - c.loop-k.k) c.glyph.result ∙ c.loop-k.invariant.long;
  each = spelt_more (2 ^ c.args.shift) c.args.count c.args.word (digit_glyph c.args.upper) c.loop-k.buffer c.loop-k.k c.glyph.result
      (omega arith) (omega (arith, c.loop-k.invariant.long, c.requires.fits))
      (rw (c.loop-k.invariant.mask, and_mask c.loop-k.rest c.args.shift, c.loop-k.invariant.rest) at c.glyph.ensures) c.loop-k.invariant.each;
}

pub from_utf8_unchecked-requires : goal.from_utf8_unchecked-requires
from_utf8_unchecked-requires c =
    let all : c.loop-k.k ≡ c.args.count = omega arith in
    let e : take c.args.count c.loop-k.buffer ≡ map (digit_glyph c.args.upper) (lowest_digits (2 ^ c.args.shift) c.args.count c.args.word) =
    spelt_is (2 ^ c.args.shift) c.args.count c.args.word (digit_glyph c.args.upper) c.loop-k.buffer
    (omega (arith, c.loop-k.invariant.long, c.requires.fits)) (λ j h. c.loop-k.invariant.each j (omega arith)) in
    rw e (IsUtf8-from_ascii _ (IsAscii-lowest c.args.upper c.args.shift c.args.count c.args.word c.requires.some c.requires.few))

pub returns : goal.returns
returns c =
    let all : c.loop-k.k ≡ c.args.count = omega arith in
    c.from_utf8_unchecked.ensures ∙ spelt_is (2 ^ c.args.shift) c.args.count c.args.word (digit_glyph c.args.upper) c.loop-k.buffer
    (omega (arith, c.loop-k.invariant.long, c.requires.fits)) (λ j h. c.loop-k.invariant.each j (omega arith))
