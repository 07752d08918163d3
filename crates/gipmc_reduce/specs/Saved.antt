-- Circuits that save what their latches hold, by which lassos become traces that fail.
use Rattle.std.specs.Prelude.{◌≡◌, ℕ, zero, suc, ◌+◌, ◌*◌, ◌++◌, false, List, [], ◌∷◌, Some, length, slice_index_or, IsTrue}
use Rattle.std.specs.List.{list_all}
use Rattle.gipsat_cnf.specs.Prelude.{Assignment, Lit}
use Rattle.gipmc_circuits.specs.declared.circuit.And.{And}
use Rattle.gipmc_circuits.specs.declared.circuit.Circuit.{Circuit}
use Rattle.gipmc_circuits.specs.declared.circuit.Latch.{Latch}
use Rattle.gipmc_circuits.specs.Prelude.{FailsAfter, is_below, latch_variables, literal_below}
use Rattle.gipmc_reduce.specs.Chains.{not_of, yes_of}
use Rattle.gipmc_reduce.specs.Lassos.{AllMet, LoopsBack}
use Rattle.gipmc_reduce.specs.Turns.{always}

-- the gate of these operands
abbrev pub gate : ℕ → Lit → Lit → And
gate g l r = record { output = g; left = l; right = r }

-- the latch that is 0 at first, and then what the gate is not
abbrev pub latch : ℕ → ℕ → Latch
latch x g = record { variable = x; next = not_of g; reset = Some false }

-- the first gates: nothing is saved (latch s), nor now (input n); and something is saved
abbrev pub saving : ℕ → ℕ → ℕ → List And
saving n s f = gate f (not_of s) (not_of n) ∷ gate (f + 1) (yes_of s) (yes_of s) ∷ []

-- the gates of a latch y that keeps what x held when it was saved, behind the gate b: y where something is saved, and x
-- where nothing is; neither, which y is not next; y and not x; x and not y; neither, so they are the same; and so it is
-- with those before
abbrev pub shadow : ℕ → ℕ → ℕ → ℕ → List And
shadow s x y b =
    gate (b + 1) (yes_of s) (yes_of y) ∷ gate (b + 2) (not_of s) (yes_of x) ∷ gate (b + 3) (not_of (b + 1)) (not_of (b + 2))
    ∷ gate (b + 4) (yes_of y) (not_of x) ∷ gate (b + 5) (not_of y) (yes_of x) ∷ gate (b + 6) (not_of (b + 4)) (not_of (b + 5))
    ∷ gate (b + 7) (yes_of b) (yes_of (b + 6)) ∷ []

-- the gates of a latch z that notes that l was true since something was saved, behind the gate b: it is now, where f does
-- not say that nothing is saved; neither now nor before; and so it is with those before
abbrev pub note : ℕ → Lit → ℕ → ℕ → List And
note f l z b =
    gate (b + 1) (not_of f) l ∷ gate (b + 2) (not_of z) (not_of (b + 1)) ∷ gate (b + 3) (yes_of b) (yes_of z) ∷ []

-- the gates of such latches, from y on, for the first k of the variables
abbrev pub shadows : ℕ → ℕ → ℕ → List ℕ → ℕ → List And
shadows s y b xs zero = []
shadows s y b xs (suc k) = shadows s y b xs k ++ shadow s (slice_index_or xs k 0) (y + k) (b + 7 * k)

-- these latches
abbrev pub shadow_latches : ℕ → ℕ → ℕ → List Latch
shadow_latches y b zero = []
shadow_latches y b (suc k) = shadow_latches y b k ++ latch (y + k) (b + 7 * k + 3) ∷ []

-- the gates of such latches, from z on, for the first k of the literals
abbrev pub notes : ℕ → ℕ → ℕ → List Lit → ℕ → List And
notes f z b ls zero = []
notes f z b ls (suc k) = notes f z b ls k ++ note f (slice_index_or ls k always) (z + k) (b + 3 * k)

-- these latches
abbrev pub note_latches : ℕ → ℕ → ℕ → List Latch
note_latches z b zero = []
note_latches z b (suc k) = note_latches z b k ++ latch (z + k) (b + 3 * k + 2) ∷ []

-- the variable of the first gate, behind the input n and its latch, and those for x variables and l literals
abbrev pub first_gate : ℕ → ℕ → ℕ → ℕ
first_gate n x l = n + 2 + x + l

-- the latches that are added for these variables and literals
abbrev pub saver_latches : ℕ → List ℕ → List Lit → List Latch
saver_latches n xs ls =
    latch (n + 1) (first_gate n (length xs) (length ls))
    ∷ (shadow_latches (n + 2) (first_gate n (length xs) (length ls) + 1) (length xs)
    ++ note_latches (n + 2 + length xs) (first_gate n (length xs) (length ls) + 1 + 7 * length xs) (length ls))

-- the gates
abbrev pub saver_gates : ℕ → List ℕ → List Lit → List And
saver_gates n xs ls =
    saving n (n + 1) (first_gate n (length xs) (length ls))
    ++ (shadows (n + 1) (n + 2) (first_gate n (length xs) (length ls) + 1) xs (length xs)
    ++ notes (first_gate n (length xs) (length ls)) (n + 2 + length xs) (first_gate n (length xs) (length ls) + 1 + 7 * length xs) ls (length ls))

-- the variable of the last gate
abbrev pub last_of : ℕ → ℕ → ℕ → ℕ
last_of n x l = first_gate n x l + 1 + 7 * x + 3 * l

-- the new circuit is the old one with further latches and gates
pub record Adds (old new : Circuit) (more_latches : List Latch) (more_gates : List And) : Type 0 where
  pub inputs : new.inputs.items ≡ old.inputs.items
  pub latches : new.latches.items ≡ old.latches.items ++ more_latches
  pub gates : new.gates.items ≡ old.gates.items ++ more_gates
  pub bads : new.bads.items ≡ old.bads.items
  pub constraints : new.constraints.items ≡ old.constraints.items

-- the new circuit is the old one with the input n, the latch that something is saved, and the first gates
pub record AddsSaving (old new : Circuit) (n f : ℕ) : Type 0 where
  pub inputs : new.inputs.items ≡ old.inputs.items ++ n ∷ []
  pub latches : new.latches.items ≡ old.latches.items ++ latch (n + 1) f ∷ []
  pub gates : new.gates.items ≡ old.gates.items ++ saving n (n + 1) f
  pub bads : new.bads.items ≡ old.bads.items
  pub constraints : new.constraints.items ≡ old.constraints.items

-- e is c with the input n, which saves, and with latches and gates for each latch of c and each of the literals; the
-- literal of the last gate is the only bad one
pub record IsSaving (n : ℕ) (c : Circuit) (e : Circuit) (literals : List Lit) : Type 0 where
  pub inputs : e.inputs.items ≡ c.inputs.items ++ n ∷ []
  pub latches : e.latches.items ≡ c.latches.items ++ saver_latches n (latch_variables c) literals
  pub gates : e.gates.items ≡ c.gates.items ++ saver_gates n (latch_variables c) literals
  pub bads : e.bads.items ≡ yes_of (last_of n (length (latch_variables c)) (length literals)) ∷ []
  pub constraints : e.constraints.items ≡ c.constraints.items

-- e is c with an input n that saves what the latches hold, where the variables from n on are none of c; the last gate
-- alone is bad: the latches hold what was saved, and each of the literals was true since
pub record IsSaverFrom (n : ℕ) (c : Circuit) (literals : List Lit) (e : Circuit) (bad : Lit) : Type 0 where
  pub fresh : IsTrue (is_below n c)
  pub within : IsTrue (list_all (literal_below n) literals)
  pub saves : IsSaving n c e literals
  pub looped : bad ≡ yes_of (last_of n (length (latch_variables c)) (length literals))

-- e is c with such an input
abbrev pub IsSaverOf : Circuit → List Lit → Circuit → Lit → Type 0
IsSaverOf c literals e bad = (n : ℕ) × IsSaverFrom n c literals e bad

-- some trace of n transitions leads back to one of its moments, and each of the literals is true since
abbrev pub HasLasso : Circuit → List Lit → ℕ → Type 0
HasLasso c literals n = (start : ℕ) × (t : ℕ → Assignment) × LoopsBack c start n t × AllMet start n t literals

-- with each lasso of c, e fails behind its last moment
abbrev pub FailsByLassos : Circuit → List Lit → Circuit → Lit → Type 0
FailsByLassos c literals e bad = (n : ℕ) → HasLasso c literals n → FailsAfter e bad (n + 1)
