use Rattle.std.proofs.Common.{◌≡◌, ◌+◌, ◌≤◌, ◌%◌, ◌++◌, ◌∷◌, [], sym, ◌∙◌, arith}
use Rattle.std.proofs.lemmas.List.{append_assoc, length_push}
use Rattle.giputils_bits.specs.Places.{bits_of}
use Rattle.giputils_bits.proofs.Errors.{ok_if_not_err}
use Rattle.giputils_bits.proofs.Gathered.{Gathers, Gathers-more, Gathers-next}
use Rattle.giputils_bits.proofs.bitvec.growth.append_items.Goals.{then-end-eq0+then-end-gt0+else-is_err, else-end-eq0, else-end-eq0-via-then-end-eq0+else-end-gt0, else-end-eq0-via-else-end-eq0}
use Rattle.giputils_bits.proofs.bitvec.growth.append_items.Goals as goal

pub loop-bit-preserved : goal.loop-bit-preserved
loop-bit-preserved g c = record {
  gathers =
      let old = bits_of c.args.len c.args.words.now in
      let more : Gathers (c.loop-bit.end + 1) c.if-end-eq0.words c.if-end-eq0.last c.with_bit-word.result ((old ++ c.loop-bit.yielded) ++ c.in-Some.bit ∷ []) = elim c.if-end-eq0.branch [
        | then-end-eq0+then-end-gt0+else-is_err w ↦
            let pushed = ok_if_not_err w.push.result (sym w.is_err.ensures.value ∙ w.if-is_err.false) w.push.ensures.ok in
            rw (w.words-is, w.last-is, pushed, w.put-then-end-gt0.ensures)
            (Gathers-next _ _ _ _ _ _ _ w.if-end-eq0.true w.if-end-gt0.true (rw w.word-is at c.with_bit-word.ensures) c.loop-bit.invariant.gathers)
        | else-end-eq0 w ↦
            let room : c.loop-bit.end % 64 ≡ 0 → c.loop-bit.end ≤ 0 = elim w.else-end-eq0.branch [
              | else-end-eq0-via-then-end-eq0+else-end-gt0 w' ↦ λ e. omega arith
              | else-end-eq0-via-else-end-eq0 w' ↦ λ e. absurd (w'.if-end-eq0.false e)
            ] in
            rw (w.words-is, w.last-is) (Gathers-more _ _ _ _ _ _ _ room (rw w.word-is at c.with_bit-word.ensures) c.loop-bit.invariant.gathers)
      ] in
      rw (← append_assoc old c.loop-bit.yielded (c.in-Some.bit ∷ [])) more;
  long = omega (arith, length_push c.loop-bit.yielded c.in-Some.bit);
  left = let step = c.in-Some.ensures.goes.on c.loop-bit.iterator.1 in omega (arith, length_push c.loop-bit.yielded c.in-Some.bit, step.2);
}
