-- Chains of latches, by which a circuit counts how often literals are met in turn.
use Rattle.std.specs.Prelude.{◌≡◌, ℕ, ◌+◌, ◌*◌, ◌++◌, true, false, List, [], ◌∷◌, Some, length, IsTrue}
use Rattle.std.specs.List.{list_all}
use Rattle.gipsat_cnf.specs.Literals.{Lit}
use Rattle.gipmc_circuits.specs.declared.circuit.And.{And}
use Rattle.gipmc_circuits.specs.declared.circuit.Circuit.{Circuit}
use Rattle.gipmc_circuits.specs.declared.circuit.Latch.{Latch}
use Rattle.gipmc_circuits.specs.Encoding.{is_below, literal_below}
use Rattle.gipmc_reduce.specs.Turns.{always, turn, turns}

-- the literal of a variable, and its negation
abbrev pub yes_of : ℕ → Lit
yes_of v = record { variable = v; positive = true }

abbrev pub not_of : ℕ → Lit
not_of v = record { variable = v; positive = false }

-- the gate of a stage: the stage before it is passed, and its literal is true
abbrev pub passing : ℕ → Lit → Lit → And
passing g before l = record { output = g; left = before; right = l }

-- the other gate of a stage: it is not passed, nor is it now
abbrev pub waiting : ℕ → ℕ → And
waiting x g = record { output = g + 1; left = not_of x; right = not_of g }

-- the latch of a stage: from now on it is passed
abbrev pub passed : ℕ → ℕ → Latch
passed x g = record { variable = x; next = not_of (g + 1); reset = Some false }

-- the gates of stages, each of which waits for one of the literals, with the variables of its latch and its first gate
abbrev pub stage_gates : ℕ → ℕ → Lit → List Lit → List And
stage_gates x g before [] = []
stage_gates x g before (l ∷ ls) = passing g before l ∷ waiting x g ∷ stage_gates (x + 1) (g + 2) (yes_of x) ls

-- their latches
abbrev pub stage_latches : ℕ → ℕ → List Lit → List Latch
stage_latches x g [] = []
stage_latches x g (l ∷ ls) = passed x g ∷ stage_latches (x + 1) (g + 2) ls

-- the literal that all of them are passed
abbrev pub all_passed : ℕ → Lit → List Lit → Lit
all_passed x before [] = before
all_passed x before (l ∷ ls) = all_passed (x + 1) (yes_of x) ls

-- the variable of the last gate
abbrev pub top : ℕ → List Lit → ℕ
top n stages = n + length stages + 2 * length stages

-- the gate that tells that all of them are passed, and one more literal is true
abbrev pub last_gate : ℕ → List Lit → Lit → And
last_gate n stages last = passing (top n stages) (all_passed n always stages) last

-- the new circuit is the old one with the latch and the gates of a stage
pub record AddsStage (old new : Circuit) (x g : ℕ) (before l : Lit) : Type 0 where
  pub inputs : new.inputs.items ≡ old.inputs.items
  pub latches : new.latches.items ≡ old.latches.items ++ passed x g ∷ []
  pub gates : new.gates.items ≡ (old.gates.items ++ passing g before l ∷ []) ++ waiting x g ∷ []
  pub bads : new.bads.items ≡ old.bads.items
  pub constraints : new.constraints.items ≡ old.constraints.items

-- the new circuit is the old one with the latches and gates of stages
pub record AddsStages (old new : Circuit) (n : ℕ) (stages : List Lit) : Type 0 where
  pub inputs : new.inputs.items ≡ old.inputs.items
  pub latches : new.latches.items ≡ old.latches.items ++ stage_latches n (n + length stages) stages
  pub gates : new.gates.items ≡ old.gates.items ++ stage_gates n (n + length stages) always stages
  pub bads : new.bads.items ≡ old.bads.items
  pub constraints : new.constraints.items ≡ old.constraints.items

-- e is c with the latches and gates of stages, and a last gate, whose literal is the only bad one
pub record IsChained (n : ℕ) (c : Circuit) (e : Circuit) (stages : List Lit) (last : Lit) : Type 0 where
  pub inputs : e.inputs.items ≡ c.inputs.items
  pub latches : e.latches.items ≡ c.latches.items ++ stage_latches n (n + length stages) stages
  pub gates : e.gates.items
      ≡ c.gates.items ++ (stage_gates n (n + length stages) always stages ++ last_gate n stages last ∷ [])
  pub bads : e.bads.items ≡ yes_of (top n stages) ∷ []
  pub constraints : e.constraints.items ≡ c.constraints.items

-- e is c with a chain of k latches, whose variables are n and those behind it, as c has none: each waits for one of the
-- literals in turn, and the last gate, for one literal more, is the only bad one
pub record IsCounterFrom (n : ℕ) (c : Circuit) (literals : List Lit) (k : ℕ) (e : Circuit) (bad : Lit) : Type 0 where
  pub fresh : IsTrue (is_below n c)
  pub stages : IsTrue (list_all (literal_below n) (turns literals k))
  pub last : IsTrue (literal_below n (turn literals k))
  pub chained : IsChained n c e (turns literals k) (turn literals k)
  pub counted : bad ≡ yes_of (top n (turns literals k))

-- e is c with such a chain
abbrev pub IsCounterOf : Circuit → List Lit → ℕ → Circuit → Lit → Type 0
IsCounterOf c literals k e bad = (n : ℕ) × IsCounterFrom n c literals k e bad

-- e has the inputs, latches, gates and constraints of c, and no bad literal
pub record IsCopied (c e : Circuit) : Type 0 where
  pub inputs : e.inputs.items ≡ c.inputs.items
  pub latches : e.latches.items ≡ c.latches.items
  pub gates : e.gates.items ≡ c.gates.items
  pub bads : e.bads.items ≡ []
  pub constraints : e.constraints.items ≡ c.constraints.items
