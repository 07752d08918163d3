use Rattle.giputils_bits.proofs.Patterns.{zeros_from_words, words_of_zeros}
use Rattle.giputils_bits.proofs.bitvec.BitVec.none.Goals as goal

pub returns : goal.returns
returns g c =
    let checked = rw c.words.ensures.words at c.all_equal.ensures in
    (λ yes. zeros_from_words c.args.self.now (checked.0 yes), λ e. checked.1 (words_of_zeros c.args.self.now e))
