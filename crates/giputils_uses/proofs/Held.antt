-- Which numbers a heap may hold.
use Rattle.std.proofs.Common.{ℕ, suc, List, [], ◌∷◌, get_or, ◌<◌, refl, arith, lt-ltb, Fits, w16}
use Rattle.std.proofs.Math.Facts.{Fits-lt-pow}
use Rattle.giputils.specs.Keys.{key_limit, AreBelow}

-- numbers of 16 bits are numbers of keys
pub AreBelow-16_bits : (keys : List ℕ) → ((i : ℕ) → Fits w16 (get_or keys i 0)) → AreBelow (λ k. k) key_limit keys
AreBelow-16_bits [] fits = refl
AreBelow-16_bits (k ∷ keys) fits =
    let below : k < 65536 = Fits-lt-pow {w = w16} {n = k} (fits 0) in
    rw (lt-ltb k 4294967295 (omega (arith, below))) (AreBelow-16_bits keys (λ i. fits (suc i)))
