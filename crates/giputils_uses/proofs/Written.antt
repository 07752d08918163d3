-- What is read of a list after a write.
use Rattle.std.proofs.Common.{◌≡◌, ◌≢◌, ℕ, ◌<◌, ◌⊎◌, true, false, List, length, get_or, set, eqb, ⊎_elim, inl, inr}
use Rattle.std.proofs.lemmas.Bool.Decides.{eqb_tells}
use Rattle.std.proofs.lemmas.List.{get_or-set_same, get_or-set_other}

-- what was written at its place, and at the others what stood there
pub get_or-set_cases : {X : Type 0} (xs : List X) (v : ℕ) (t d : X) → v < length xs → (u : ℕ)
    → ((eqb u v ≡ true) × (u ≡ v) × (get_or (set xs v t) u d ≡ t))
    ⊎ ((eqb u v ≡ false) × (u ≢ v) × (get_or (set xs v t) u d ≡ get_or xs u d))
get_or-set_cases xs v t d inside u =
    ⊎_elim (λ is. inl (is.0, is.1, rw is.1 (get_or-set_same xs v t d inside)))
    (λ is_not. inr (is_not.0, is_not.1, get_or-set_other xs v u t d is_not.1)) (eqb_tells u v)
