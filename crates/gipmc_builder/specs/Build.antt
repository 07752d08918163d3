-- Circuits that are built step by step: what a step adds, and what it gives.
use Rattle.std.specs.Prelude.{◌≡◌, ℕ, ◌+◌, ◌*◌, ◌^◌, ◌/◌, ◌%◌, ◌&&◌, ◌||◌, ◌++◌, ◌==◌, ltb, Bool, false, not, List, [], ◌∷◌, length, map, Option, if◌then◌else◌, IsTrue}
use Rattle.std.specs.Bool.{beq}
use Rattle.std.specs.List.{list_all, list_any}
use Rattle.gipsat_cnf.specs.Prelude.{Assignment, Lit, is_true}
use Rattle.gipmc_circuits.specs.declared.circuit.Circuit.{Circuit}
use Rattle.gipmc_circuits.specs.Circuit.{is_initial, is_reset, is_transition, is_valuation}

-- the circuit has nothing in it
pub record IsEmpty (c : Circuit) : Type 0 where
  pub inputs : c.inputs.items ≡ []
  pub latches : c.latches.items ≡ []
  pub gates : c.gates.items ≡ []
  pub bads : c.bads.items ≡ []
  pub constraints : c.constraints.items ≡ []

-- each valuation of the new circuit is one of the old one, and so are its initial ones and its transitions
pub record Extends (old new : Circuit) : Type 0 where
  pub valuations : (a : Assignment) → IsTrue (is_valuation new a) → IsTrue (is_valuation old a)
  pub initials : (a : Assignment) → IsTrue (is_initial new a) → IsTrue (is_initial old a)
  pub transitions : (a b : Assignment) → IsTrue (is_transition new a b) → IsTrue (is_transition old a b)

-- the new circuit is the old one with further gates
pub record Keeps (old new : Circuit) : Type 0 where
  pub extends : Extends old new
  pub inputs : new.inputs.items ≡ old.inputs.items
  pub latches : new.latches.items ≡ old.latches.items
  pub bads : new.bads.items ≡ old.bads.items
  pub constraints : new.constraints.items ≡ old.constraints.items

-- the new circuit is the old one with further inputs
pub record AddsInputs (old new : Circuit) (more : List ℕ) : Type 0 where
  pub extends : Extends old new
  pub inputs : new.inputs.items ≡ old.inputs.items ++ more
  pub latches : new.latches.items ≡ old.latches.items
  pub gates : new.gates.items ≡ old.gates.items
  pub bads : new.bads.items ≡ old.bads.items
  pub constraints : new.constraints.items ≡ old.constraints.items

-- the new circuit is the old one with further latches
pub record AddsLatches (old new : Circuit) : Type 0 where
  pub extends : Extends old new
  pub inputs : new.inputs.items ≡ old.inputs.items
  pub gates : new.gates.items ≡ old.gates.items
  pub bads : new.bads.items ≡ old.bads.items
  pub constraints : new.constraints.items ≡ old.constraints.items

-- the new circuit is the old one with further bad literals and constraints
pub record AddsProperties (old new : Circuit) (more_bads more_constraints : List Lit) : Type 0 where
  pub extends : Extends old new
  pub inputs : new.inputs.items ≡ old.inputs.items
  pub latches : new.latches.items ≡ old.latches.items
  pub gates : new.gates.items ≡ old.gates.items
  pub bads : new.bads.items ≡ old.bads.items ++ more_bads
  pub constraints : new.constraints.items ≡ old.constraints.items ++ more_constraints

-- in each initial valuation the literal is what the reset allows
abbrev pub StartsAs : Circuit → Lit → Option Bool → Type 0
StartsAs c l reset = (a : Assignment) → IsTrue (is_initial c a) → IsTrue (is_reset reset (is_true a l))

-- by each transition the literal becomes what another one was
abbrev pub Becomes : Circuit → Lit → Lit → Type 0
Becomes c l next = (a b : Assignment) → IsTrue (is_transition c a b) → is_true b l ≡ is_true a next

-- in each valuation the literal is true exactly if both others are
abbrev pub GivesAnd : Circuit → Lit → Lit → Lit → Type 0
GivesAnd c x y o = (a : Assignment) → IsTrue (is_valuation c a) → is_true a o ≡ (is_true a x && is_true a y)

-- wherever variable 0 is false, the literal is true exactly if both others are
abbrev pub FoldsAnd : Lit → Lit → Lit → Type 0
FoldsAnd x y o = (a : Assignment) → a 0 ≡ false → is_true a o ≡ (is_true a x && is_true a y)

-- in each valuation the literal is true exactly if one of the others is, or both
abbrev pub GivesOr : Circuit → Lit → Lit → Lit → Type 0
GivesOr c x y o = (a : Assignment) → IsTrue (is_valuation c a) → is_true a o ≡ (is_true a x || is_true a y)

-- in each valuation the literal is true exactly if the others are both true, or both false
abbrev pub GivesEqual : Circuit → Lit → Lit → Lit → Type 0
GivesEqual c x y o = (a : Assignment) → IsTrue (is_valuation c a) → is_true a o ≡ beq (is_true a x) (is_true a y)

-- in each valuation the literal is true exactly if one of the others is, and not both
abbrev pub GivesXor : Circuit → Lit → Lit → Lit → Type 0
GivesXor c x y o = (a : Assignment) → IsTrue (is_valuation c a) → is_true a o ≡ not (beq (is_true a x) (is_true a y))

-- in each valuation the literal is what the one is where the selector is true, and else what the other is
abbrev pub GivesMux : Circuit → Lit → Lit → Lit → Lit → Type 0
GivesMux c s x y o =
    (a : Assignment) → IsTrue (is_valuation c a) → is_true a o ≡ (if is_true a s then is_true a x else is_true a y)

-- in each valuation the literal is true exactly if all of them are
abbrev pub GivesAll : Circuit → List Lit → Lit → Type 0
GivesAll c ls o = (a : Assignment) → IsTrue (is_valuation c a) → is_true a o ≡ list_all (is_true a) ls

-- in each valuation the literal is true exactly if any of them is
abbrev pub GivesAny : Circuit → List Lit → Lit → Type 0
GivesAny c ls o = (a : Assignment) → IsTrue (is_valuation c a) → is_true a o ≡ list_any (is_true a) ls

-- 1 where the literal is true, and else 0
abbrev pub bit_of : Assignment → Lit → ℕ
bit_of a l = if is_true a l then 1 else 0

-- the number whose binary digits the literals are, the lowest first
abbrev pub number_of : Assignment → List Lit → ℕ
number_of a [] = 0
number_of a (l ∷ ls) = bit_of a l + 2 * number_of a ls

-- in each valuation the two literals are the digits of the sum of three bits
abbrev pub GivesDigits : Circuit → Lit → Lit → Lit → Lit → Lit → Type 0
GivesDigits c x y z low high =
    (a : Assignment) → IsTrue (is_valuation c a) → bit_of a low + 2 * bit_of a high ≡ bit_of a x + bit_of a y + bit_of a z

-- in each valuation the literal is true exactly if the one bit is less than the other two together
abbrev pub GivesBorrow : Circuit → Lit → Lit → Lit → Lit → Type 0
GivesBorrow c x y z o =
    (a : Assignment) → IsTrue (is_valuation c a) → is_true a o ≡ ltb (bit_of a x) (bit_of a y + bit_of a z)

-- in each valuation the low digit is the one bit less the other two, with 2 borrowed where the high one is true
abbrev pub GivesDifferenceDigits : Circuit → Lit → Lit → Lit → Lit → Lit → Type 0
GivesDifferenceDigits c x y z low high =
    (a : Assignment) → IsTrue (is_valuation c a) → bit_of a low + bit_of a y + bit_of a z ≡ bit_of a x + 2 * bit_of a high

-- in each valuation the number is the sum of the others
abbrev pub GivesSum : Circuit → List Lit → List Lit → List Lit → Type 0
GivesSum c xs ys zs =
    (a : Assignment) → IsTrue (is_valuation c a) → number_of a zs ≡ number_of a xs + number_of a ys

-- in each valuation the number is one more than the other
abbrev pub GivesSuccessor : Circuit → List Lit → List Lit → Type 0
GivesSuccessor c xs zs = (a : Assignment) → IsTrue (is_valuation c a) → number_of a zs ≡ number_of a xs + 1

-- in each valuation the number is the difference of the others, and 2 to the power of its digits more where it were below 0
abbrev pub GivesDifference : Circuit → List Lit → List Lit → List Lit → Type 0
GivesDifference c xs ys zs =
    (a : Assignment) → IsTrue (is_valuation c a)
    → number_of a zs + number_of a ys
    ≡ number_of a xs + (if ltb (number_of a xs) (number_of a ys) then 2 ^ length zs else 0)

-- in each valuation the literal is true exactly if the one number is less than the other
abbrev pub GivesLess : Circuit → List Lit → List Lit → Lit → Type 0
GivesLess c xs ys o =
    (a : Assignment) → IsTrue (is_valuation c a) → is_true a o ≡ ltb (number_of a xs) (number_of a ys)

-- in each valuation the number is the one where the selector is true, and else the other
abbrev pub GivesChoice : Circuit → Lit → List Lit → List Lit → List Lit → Type 0
GivesChoice c s xs ys zs =
    (a : Assignment) → IsTrue (is_valuation c a)
    → number_of a zs ≡ (if is_true a s then number_of a xs else number_of a ys)

-- in each valuation the literal is true exactly if the numbers are the same
abbrev pub GivesSame : Circuit → List Lit → List Lit → Lit → Type 0
GivesSame c xs ys o =
    (a : Assignment) → IsTrue (is_valuation c a) → is_true a o ≡ (number_of a xs == number_of a ys)

-- in each initial valuation the register holds the number, as far as it has bits
abbrev pub StartsAt : Circuit → List Lit → ℕ → Type 0
StartsAt c bits start =
    (a : Assignment) → IsTrue (is_valuation c a) → IsTrue (is_initial c a)
    → number_of a bits ≡ start % 2 ^ length bits

-- by each transition the register takes the number that others had, as far as it has bits
abbrev pub Takes : Circuit → List Lit → List Lit → Type 0
Takes c bits next =
    (a b : Assignment) → IsTrue (is_valuation c a) → IsTrue (is_transition c a b)
    → number_of b bits ≡ number_of a next % 2 ^ length bits

-- the literal that is always this
abbrev pub constant : Bool → Lit
constant value = record { variable = 0; positive = not value }

-- the literals are the digits of the number, wherever variable 0 is false
abbrev pub AreDigits : ℕ → List Lit → Type 0
AreDigits n ls = (a : Assignment) → a 0 ≡ false → number_of a ls ≡ n

-- wherever variable 0 is false, the number is the other one, doubled so many times
abbrev pub IsShiftedLeft : List Lit → ℕ → List Lit → Type 0
IsShiftedLeft xs k zs = (a : Assignment) → a 0 ≡ false → number_of a zs ≡ number_of a xs * 2 ^ k

-- the number is the other one, halved so many times
abbrev pub IsShiftedRight : List Lit → ℕ → List Lit → Type 0
IsShiftedRight xs k zs = (a : Assignment) → number_of a zs ≡ number_of a xs / 2 ^ k

-- the variables of the literals
abbrev pub variables_of : List Lit → List ℕ
variables_of ls = map (λ l. l.variable) ls

-- each of the literals is a variable, and not its negation
abbrev pub are_positive : List Lit → Bool
are_positive ls = list_all (λ l. l.positive) ls
