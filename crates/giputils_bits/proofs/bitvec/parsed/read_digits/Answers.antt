use Rattle.std.proofs.Common.{◌≡◌, ◌+◌, ◌-◌, ◌++◌, ◌∙◌, length, take, drop, sym, ap, arith}
use Rattle.std.proofs.lemmas.Bool.{false≢true}
use Rattle.std.proofs.lemmas.List.{append_assoc, length-append, length-drop}
use Rattle.giputils_bits.specs.Prelude.{digits_of, places_written, value_of}
use Rattle.giputils_bits.proofs.Parsed.{length-places_written, places_written-split, word_cut, word_whole}
use Rattle.giputils_bits.proofs.bitvec.parsed.read_digits.Goals as goal

pub loop-rest-preserved : goal.loop-rest-preserved
loop-rest-preserved g c =
    let rest = c.loop-rest.rest.now in
    let bits = c.loop-rest.bits in
    let n = length rest - 64 in
    let last = places_written (drop n rest) in
    let long : length last ≡ 64 = omega (arith, length-places_written (drop n rest), length-drop n rest) in
    let pushed : c.push_word.new.self ≡ bits ++ last =
    c.in_ok-push_word.ensures.ok
    ∙ ap (λ w. bits ++ digits_of 64 w) (c.number.ensures ∙ ap (λ t. value_of (places_written t)) c.split_at.ensures.back)
    ∙ word_whole bits last long in
    record {
      all =
          c.loop-rest.invariant.all
          ∙ ap (λ l. bits ++ l) (places_written-split rest n)
          ∙ sym (append_assoc bits last (places_written (take n rest)))
          ∙ sym (ap (λ l. l ++ places_written c.split_at.result.0.now) pushed ∙ ap (λ t. (bits ++ last) ++ places_written t) c.split_at.ensures.front);
      last = λ short. absurd (omega (
        arith,
        ap length c.loop-rest.invariant.all,
        length-append bits (places_written rest),
        length-places_written rest,
        length-places_written c.args.digits.now,
      ));
    }

pub returns-in_err-push_word-2-clause-inline : goal.returns-in_err-push_word-2-clause-inline
returns-in_err-push_word-2-clause-inline g c = λ short. absurd (false≢true (c.in_err-push_word-2.ensures.inline (c.loop-rest.invariant.last short)))

pub returns-clause-ok : goal.returns-clause-ok
returns-clause-ok g c =
    let rest = c.loop-rest.rest.now in
    let bits = c.loop-rest.bits in
    let ds = places_written rest in
    let sum : length c.args.digits.now ≡ length bits + length ds =
    omega (arith, ap length c.loop-rest.invariant.all, length-append bits ds, length-places_written c.args.digits.now) in
    c.truncate.ensures
    ∙ ap (take (length c.args.digits.now)) (c.in_ok-push_word-2.ensures.ok ∙ ap (λ w. bits ++ digits_of 64 w) c.number-2.ensures)
    ∙ word_cut bits ds (length c.args.digits.now) (omega (arith, length-places_written rest)) sum
    ∙ sym c.loop-rest.invariant.all
