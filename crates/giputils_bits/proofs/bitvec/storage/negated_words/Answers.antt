use Rattle.std.proofs.Common.{◌∷◌, ◌++◌, ◌∙◌, [], get_or, sym, ap, w64, arith}
use Rattle.std.specs.Int.{bit_not}
use Rattle.std.proofs.lemmas.List.{map_more}
use Rattle.giputils_bits.proofs.bitvec.storage.negated_words.Goals as goal

pub loop-k-preserved : goal.loop-k-preserved
loop-k-preserved g c = record {
  done =
      c.push_reserved.ensures.items ∙ ap (λ ws. ws ++ bit_not w64 (get_or c.args.words.now c.loop-k.k 0) ∷ []) c.loop-k.invariant.done
      ∙ sym (map_more (bit_not w64) c.args.words.now c.loop-k.k 0 (omega arith));
  count = omega (arith, c.push_reserved.ensures.len, c.loop-k.invariant.count);
  room = omega (arith, c.push_reserved.ensures.capacity, c.loop-k.invariant.room);
}
