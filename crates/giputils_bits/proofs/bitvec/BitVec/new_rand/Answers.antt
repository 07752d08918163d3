use Rattle.std.proofs.Common.{◌≡◌, ◌*◌, arith}
use Rattle.giputils_bits.proofs.Places.{place-past, IsPacked-word}
use Rattle.giputils_bits.proofs.bitvec.BitVec.new_rand.Goals as goal

pub invariant_of-result : goal.invariant_of-result
invariant_of-result g c =
    let one : 64 * c.args.num_word ≡ 64 = omega arith in
    rw (one, c.of_word-words.ensures) (IsPacked-word 64 c.next_u64.result (omega arith) (omega arith) (omega arith))

pub invariant_of-result-2 : goal.invariant_of-result-2
invariant_of-result-2 g c = rw c.of_words-words.ensures record { count = omega arith; padding = λ i past. place-past _ i (omega arith) }
