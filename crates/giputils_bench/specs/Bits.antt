-- What the workloads keep of their vectors.
use Rattle.std.specs.Prelude.{◌≡◌, ℕ, Bool, List, length, All}

-- each of the vectors has this length
abbrev pub AreOfLength : ℕ → List (List Bool) → Type 0
AreOfLength n vectors = All (λ bits. length bits ≡ n) vectors
