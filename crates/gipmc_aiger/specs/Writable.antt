-- Which circuits the two forms have room for.
use Rattle.std.specs.Prelude.{ℕ, ◌+◌, ◌^◌, ◌<◌, ◌≤◌, ◌&&◌, nat_le, nat_lt, Bool, length}
use Rattle.gipmc_aiger.specs.Lists.{Every}
use Rattle.gipsat_cnf.specs.Literals.{Lit}
use Rattle.gipmc_circuits.specs.declared.circuit.And.{And}
use Rattle.gipmc_circuits.specs.declared.circuit.Latch.{Latch}
use Rattle.gipmc_circuits.specs.declared.circuit.Circuit.{Circuit}
use Rattle.gipmc_aiger.specs.CircuitTexts.{greatest_variable}

-- a row may define the variable: it is not 0, and at most m
abbrev pub FitsVariable : ℕ → ℕ → Type 0
FitsVariable m v = (0 < v) × (v ≤ m)

-- a row may use the literal: its variable is at most m
abbrev pub FitsLiteral : ℕ → Lit → Type 0
FitsLiteral m l = l.variable ≤ m

-- the same of a latch and its next literal
abbrev pub FitsLatch : ℕ → Latch → Type 0
FitsLatch m l = FitsVariable m l.variable × FitsLiteral m l.next

-- the same of a gate's output and its operands
abbrev pub FitsGate : ℕ → And → Type 0
FitsGate m g = FitsVariable m g.output × FitsLiteral m g.left × FitsLiteral m g.right

-- the forms have room for the circuit: its greatest variable is below 2^31, no row defines 0 or uses a greater one,
-- there are no more rows than variables, and fewer than 2^31 bad literals and constraints
pub record IsWritable (c : Circuit) : Type 0 where
  pub small : greatest_variable c < 2 ^ 31
  pub inputs : Every (FitsVariable (greatest_variable c)) c.inputs.items
  pub latches : Every (FitsLatch (greatest_variable c)) c.latches.items
  pub gates : Every (FitsGate (greatest_variable c)) c.gates.items
  pub bads : Every (FitsLiteral (greatest_variable c)) c.bads.items
  pub constraints : Every (FitsLiteral (greatest_variable c)) c.constraints.items
  pub counts : length c.inputs.items + length c.latches.items + length c.gates.items ≤ greatest_variable c
  pub bad_count : length c.bads.items < 2 ^ 31
  pub constraint_count : length c.constraints.items < 2 ^ 31

-- the greatest variable is below 2^31, there are no more rows than that, and fewer than 2^31 bad literals and
-- constraints
abbrev pub has_room : Circuit → Bool
has_room c =
    (nat_lt (greatest_variable c) (2 ^ 31)
    && nat_le (length c.inputs.items + length c.latches.items + length c.gates.items) (greatest_variable c))
    && (nat_lt (length c.bads.items) (2 ^ 31) && nat_lt (length c.constraints.items) (2 ^ 31))
