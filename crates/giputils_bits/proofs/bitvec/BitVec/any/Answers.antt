use Rattle.giputils_bits.proofs.Ones.{HasOne-from_not_none, none_without_one, not_both, not_from}
use Rattle.giputils_bits.proofs.bitvec.BitVec.any.Goals as goal

pub returns : goal.returns
returns g c = (
  λ some. HasOne-from_not_none c.args.self.now (λ e. not_both c.none.result some (c.none.ensures.1 e)),
  λ one. not_from c.none.result (λ none. none_without_one c.args.self.now one (c.none.ensures.0 none)),
)
