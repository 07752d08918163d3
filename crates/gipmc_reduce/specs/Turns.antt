-- Literals that are met in turn.
use Rattle.std.specs.Prelude.{ℕ, zero, suc, ◌+◌, ◌%◌, ◌≤◌, ◌++◌, ◌↔◌, false, List, [], ◌∷◌, length, slice_index_or, IsTrue}
use Rattle.gipsat_cnf.specs.Prelude.{Assignment, Lit, is_true}
use Rattle.gipmc_circuits.specs.declared.circuit.Circuit.{Circuit}
use Rattle.gipmc_circuits.specs.Circuit.{FailsAfter, IsTrace}

-- the literal that is always true
abbrev pub always : Lit
always = record { variable = 0; positive = false }

-- the literal whose turn it is after so many, round and round; always true where there is none
abbrev pub turn : List Lit → ℕ → Lit
turn literals k = slice_index_or literals (k % length literals) always

-- the first k of them
abbrev pub turns : List Lit → ℕ → List Lit
turns literals zero = []
turns literals (suc k) = turns literals k ++ turn literals k ∷ []

-- the literals are true one after another, each behind the moment of the one before it, from moment m on and before
-- moment n
abbrev pub MetBetween : (ℕ → Assignment) → ℕ → ℕ → List Lit → Type 0
MetBetween t m n [] = m ≤ n
MetBetween t m n (l ∷ ls) = (i : ℕ) × (m ≤ i) × IsTrue (is_true (t i) l) × MetBetween t (i + 1) n ls

-- on a trace of n transitions k of the literals are met in turn before the last moment, and there the next one
abbrev pub MeetsMore : Circuit → List Lit → ℕ → ℕ → Type 0
MeetsMore c literals k n =
    (t : ℕ → Assignment) × IsTrace c n t × MetBetween t 0 n (turns literals k) × IsTrue (is_true (t n) (turn literals k))

-- the literal of e becomes true exactly where more than k of the literals are met in turn on a trace of c
abbrev pub CountsTo : Circuit → List Lit → ℕ → Circuit → Lit → Type 0
CountsTo c literals k e bad = (n : ℕ) → FailsAfter e bad n ↔ MeetsMore c literals k n
