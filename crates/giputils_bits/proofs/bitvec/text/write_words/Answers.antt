use Rattle.std.proofs.Common.{◌^◌, ◌++◌, ℕ, List, ap, ◌∙◌, arith, refl}
use Rattle.std.specs.Fmt.{digit_glyph}
use Rattle.std.proofs.lemmas.List.{append_assoc}
use Rattle.giputils_bits.proofs.Text.{digits_of_words-step}
use Rattle.giputils_bits.proofs.Writes.{styled_more}
use Rattle.giputils_bits.proofs.bitvec.text.write_words.Goals as goal

pub loop-left-preserved : goal.loop-left-preserved
loop-left-preserved g c =
    let ws = c.args.words.now in
    let b = 2 ^ c.args.shift in (
      omega arith,
      λ flush.
          let so_far = c.loop-left.invariant.1 flush in (
            so_far.0 ++ c.spell.result.now,
            styled_more g.W.Write.write_str_gives _ _ _ so_far.0 c.spell.result.now _ so_far.1 (c.in_ok-write_str.ensures.styled so_far.1.flush refl) refl,
            append_assoc so_far.0 c.spell.result.now _
                ∙ ap (λ (t : List ℕ). so_far.0 ++ t) (rw c.spell.ensures (digits_of_words-step (digit_glyph c.args.upper) b c.args.count ws c.loop-left.left (omega arith) (omega arith)))
                ∙ so_far.2,
          ),
    )
