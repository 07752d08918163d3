-- One word too many.
use Rattle.std.proofs.Common.{◌≡◌, ℕ, List, ◌∷◌, None, refl}
use Rattle.giputils_text.specs.Lines.{pieces, space}
use Rattle.giputils_text.proofs.Pieces.{pieces-cons}
use Rattle.gipmc_task.specs.Certificates.{k_of}

-- more than two words name no k
pub k_of-more : (word digits rest : List ℕ) → k_of (word ∷ digits ∷ pieces space rest) ≡ None
k_of-more word digits rest = let (first, more, e) = pieces-cons space rest in rw e refl
