-- What is written to an output.
use Rattle.std.specs.Prelude.{◌≡◌, ℕ, List, Option, None, IsSome}
use Rattle.std.specs.Io.KnownBytes.{Appends, Keeps}

-- if no write has failed, the writer holds this text more; if one had failed before, it holds what it held
abbrev pub IsWritten : {E : Type 0} → Option E → Option E → Option (List ℕ) → Option (List ℕ) → List ℕ → Type 0
IsWritten failed fails old new text =
    (fails ≡ None → (failed ≡ None) × Appends old new text) × (IsSome failed → Keeps old new)
