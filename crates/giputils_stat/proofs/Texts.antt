-- Texts that are written piece by piece.
use Rattle.std.specs.Prelude.{◌≡◌, ℕ, List, ◌++◌, codes}
use Rattle.std.proofs.Common.{append_assoc}

-- the pieces of a rate of success, which are written the last first
pub success_rate_pieces : (s f r : List ℕ) → codes "success: " ++ (s ++ (codes ", fail: " ++ (f ++ (codes ", success rate: " ++ (r ++ codes "%")))))
    ≡ codes "success: " ++ s ++ codes ", fail: " ++ f ++ codes ", success rate: " ++ r ++ codes "%"
success_rate_pieces s f r = simp append_assoc
