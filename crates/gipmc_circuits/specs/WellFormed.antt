-- Circuits that define each variable once, the gates in order.
use Rattle.std.specs.Prelude.{ℕ, ◌&&◌, ◌||◌, Bool, true, not, List, [], ◌∷◌, map}
use Rattle.std.specs.List.{list_all}
use lib.Dec.{eqb}
use Rattle.gipmc_circuits.specs.declared.circuit.And.{And}
use Rattle.gipmc_circuits.specs.declared.circuit.Circuit.{Circuit}

-- these variables and one more
abbrev pub with_variable : ℕ → (ℕ → Bool) → ℕ → Bool
with_variable v defined w = eqb w v || defined w

-- these variables and those of the list
abbrev pub with_variables : List ℕ → (ℕ → Bool) → ℕ → Bool
with_variables [] defined = defined
with_variables (v ∷ vs) defined = with_variables vs (with_variable v defined)

-- none of the list is defined before it comes
abbrev pub are_new : List ℕ → (ℕ → Bool) → Bool
are_new [] defined = true
are_new (v ∷ vs) defined = not (defined v) && are_new vs (with_variable v defined)

-- each gate's operands are defined before it, and its output is not
abbrev pub are_in_order : List And → (ℕ → Bool) → Bool
are_in_order [] defined = true
are_in_order (g ∷ gates) defined =
    (defined g.left.variable && defined g.right.variable)
    && (not (defined g.output) && are_in_order gates (with_variable g.output defined))

-- the variable 0
abbrev pub is_constant : ℕ → Bool
is_constant v = eqb v 0

-- the variables of the latches
abbrev pub latch_variables : Circuit → List ℕ
latch_variables c = map (λ l. l.variable) c.latches.items

-- the variables whose values the gates start from: 0, those of the inputs and those of the latches
abbrev pub is_source : Circuit → ℕ → Bool
is_source c = with_variables (latch_variables c) (with_variables c.inputs.items is_constant)

-- the variables of the circuit: the sources, and the outputs of the gates
abbrev pub is_variable : Circuit → ℕ → Bool
is_variable c = with_variables (map (λ g. g.output) c.gates.items) (is_source c)

-- each literal of the latches, the bad literals and the constraints is of a variable that is defined
abbrev pub uses_defined : (ℕ → Bool) → Circuit → Bool
uses_defined defined c =
    list_all (λ l. defined l.next.variable) c.latches.items
    && (list_all (λ l. defined l.variable) c.bads.items && list_all (λ l. defined l.variable) c.constraints.items)

-- each variable is defined once, the gates in order, and each literal's variable is defined
abbrev pub is_well_formed : Circuit → Bool
is_well_formed c =
    (are_new c.inputs.items is_constant && are_new (latch_variables c) (with_variables c.inputs.items is_constant))
    && (are_in_order c.gates.items (is_source c) && uses_defined (is_variable c) c)
