-- From what was read to what the reader had left.
use Rattle.std.proofs.Common.{ℕ, List, ◌++◌, Option, Some, None, IfSome, ap, sym, subst, ◌∙◌, append-nil}
use Rattle.std.specs.Io.KnownBytes.{Consumes, IsAtEnd}

-- what was read to the end is what the reader had left
pub whole_input : (P : List ℕ → Type 0) (old new : Option (List ℕ)) (input : List ℕ) → Consumes old new input → IsAtEnd new → P input → IfSome old P
whole_input P None new input bytes end h = tt
whole_input P (Some all) None input bytes end h = absurd bytes
whole_input P (Some all) (Some rest) input bytes end h =
    subst P (sym (bytes ∙ ap (λ r. input ++ r) end ∙ append-nil input)) h
