-- Circuits that do what a step function does.
use Rattle.std.specs.Prelude.{◌≡◌, ℕ, zero, suc, ◌%◌, ◌^◌, Bool, false, List, [], ◌∷◌, length, map, IsTrue}
use Rattle.gipsat_cnf.specs.Prelude.{Assignment, Lit, is_true}
use Rattle.gipmc_circuits.specs.declared.circuit.Circuit.{Circuit}
use Rattle.gipmc_circuits.specs.Circuit.{is_initial, is_moment, is_transition, is_valuation}
use Rattle.gipmc_builder.specs.Build.{are_positive, number_of, variables_of}

-- the state after n steps from this one, by the inputs at each of them
abbrev pub state_after : {S I : Type 0} → (S → I → S) → S → (ℕ → I) → ℕ → S
state_after step start inputs zero = start
state_after step start inputs (suc n) = step (state_after step start inputs n) (inputs n)

-- no state that the steps reach is bad, whatever the inputs are
abbrev pub NeverBad : {S I : Type 0} → (S → I → S) → S → (S → I → Bool) → Type 0
NeverBad {I} step start is_bad =
    (inputs : ℕ → I) (n : ℕ) → is_bad (state_after step start inputs n) (inputs n) ≡ false

-- the circuit starts in a state and steps from state to state, and its literal tells which of them are bad
pub record IsMachine {S I : Type 0} (c : Circuit) (bad : Lit) (step : S → I → S) (start : S) (is_bad : S → I → Bool)
    : Type 0 where
  pub state : Assignment → S
  pub input : Assignment → I
  pub starts : (a : Assignment) → IsTrue (is_moment c a) → IsTrue (is_initial c a) → state a ≡ start
  pub steps : (a b : Assignment) → IsTrue (is_moment c a) → IsTrue (is_moment c b) → IsTrue (is_transition c a b)
      → state b ≡ step (state a) (input a)
  pub tells : (a : Assignment) → IsTrue (is_moment c a) → is_true a bad ≡ is_bad (state a) (input a)
  -- each input can be given, and no constraint forbids it
  pub given : I → Assignment
  pub gives : (i : I) (a : Assignment) → map a c.inputs.items ≡ map (given i) c.inputs.items → input a ≡ i
  pub unconstrained : c.constraints.items ≡ []

-- the values of the literals, in order
abbrev pub values_of : Assignment → List Lit → List Bool
values_of a ls = map (is_true a) ls

-- the first of some values
abbrev pub first_of : List Bool → Bool
first_of [] = false
first_of (x ∷ xs) = x

-- the value behind the first one
abbrev pub second_of : List Bool → Bool
second_of [] = false
second_of (x ∷ xs) = first_of xs

-- the first two of some values
abbrev pub two_of : List Bool → Bool × Bool
two_of xs = (first_of xs, second_of xs)

-- each input of a machine is read from some values of the literals
pub record CanRead {I : Type 0} (inputs : List Lit) (read : List Bool → I) : Type 0 where
  pub write : I → List Bool
  pub width : (i : I) → length (write i) ≡ length inputs
  pub reads : (i : I) → read (write i) ≡ i

-- the circuit has these inputs, and no constraint
pub record HasInputs (c : Circuit) (inputs : List Lit) : Type 0 where
  pub variables : c.inputs.items ≡ variables_of inputs
  pub positive : IsTrue (are_positive inputs)
  pub unconstrained : c.constraints.items ≡ []

-- in its valuations the circuit starts in a state and steps from state to state, and its literal tells which are bad
pub record DoesSteps {S I : Type 0} (c : Circuit) (bad : Lit) (state : Assignment → S) (input : Assignment → I)
    (step : S → I → S) (start : S) (is_bad : S → I → Bool) : Type 0 where
  pub starts : (a : Assignment) → IsTrue (is_valuation c a) → IsTrue (is_initial c a) → state a ≡ start
  pub steps : (a b : Assignment) → IsTrue (is_valuation c a) → IsTrue (is_valuation c b) → IsTrue (is_transition c a b)
      → state b ≡ step (state a) (input a)
  pub tells : (a : Assignment) → IsTrue (is_valuation c a) → is_true a bad ≡ is_bad (state a) (input a)

-- in each valuation the number is what the step makes of the register and the inputs, as far as the register has bits
abbrev pub GivesNext : {I : Type 0} → Circuit → List Lit → (List Bool → I) → (ℕ → I → ℕ) → List Lit → List Lit → Type 0
GivesNext c inputs read step bits next =
    (a : Assignment) → IsTrue (is_valuation c a)
    → number_of a next % 2 ^ length bits ≡ step (number_of a bits) (read (values_of a inputs))

-- in each valuation the literal tells whether the register and the inputs are bad
abbrev pub GivesBad : {I : Type 0} → Circuit → List Lit → (List Bool → I) → (ℕ → I → Bool) → List Lit → Lit → Type 0
GivesBad c inputs read is_bad bits bad =
    (a : Assignment) → IsTrue (is_valuation c a)
    → is_true a bad ≡ is_bad (number_of a bits) (read (values_of a inputs))
