-- Circuits in which variables of equal value are merged.
use Rattle.std.specs.Prelude.{◌≡◌, if◌then◌else◌, ℕ, ◌&&◌, true, not, List, Vec, map, slice_index_or, IsTrue}
use Rattle.std.specs.declared.alloc.Global.{Global}
use Rattle.std.specs.List.{All, Contains}
use Rattle.gipsat_cnf.specs.Prelude.{Assignment, Clause, Lit, is_true, negated, satisfies_clause}
use Rattle.gipmc_circuits.specs.Certificate.{IsInductive, IsInitiated, holds}
use Rattle.gipmc_circuits.specs.declared.circuit.And.{And}
use Rattle.gipmc_circuits.specs.declared.circuit.Circuit.{Circuit}
use Rattle.gipmc_circuits.specs.declared.circuit.Latch.{Latch}

-- the literal that stands for a variable; past the table it is that of the variable itself
abbrev pub representative : List Lit → ℕ → Lit
representative merges v = slice_index_or merges v (record { variable = v; positive = true })

-- the literal that stands for a literal
abbrev pub merged : List Lit → Lit → Lit
merged merges l = if l.positive then representative merges l.variable else negated (representative merges l.variable)

-- the gate, with what stands for its operands
abbrev pub gate_merged : List Lit → And → And
gate_merged merges g = record { output = g.output; left = merged merges g.left; right = merged merges g.right }

-- the latch, with what stands for its next literal
abbrev pub latch_merged : List Lit → Latch → Latch
latch_merged merges l = record { variable = l.variable; next = merged merges l.next; reset = l.reset }

-- the smaller circuit has the inputs of the whole circuit, and each of its gates, latches and constraints is one of the whole
-- circuit, after the merges
pub record IsMergedOf (merges : List Lit) (small whole : Circuit) : Type 0 where
  pub inputs : small.inputs.items ≡ whole.inputs.items
  pub gates : All (Contains (map (gate_merged merges) whole.gates.items)) small.gates.items
  pub latches : All (Contains (map (latch_merged merges) whole.latches.items)) small.latches.items
  pub constraints : small.constraints.items ≡ map (merged merges) whole.constraints.items

-- each variable has the value of what stands for it
abbrev pub Agrees : List Lit → Assignment → Type 0
Agrees merges a = (v : ℕ) → a v ≡ is_true a (representative merges v)

-- each variable has the value of what stands for it, where 0 is false and the clauses hold
abbrev pub ImpliesMerges : List (Vec Lit Global) → List Lit → Type 0
ImpliesMerges clauses merges =
    (a : Assignment) → IsTrue (not (a 0)) → IsTrue (holds clauses a) → Agrees merges a

-- the new clauses hold where the old ones do, and this one
abbrev pub AddsClause : Clause → List (Vec Lit Global) → List (Vec Lit Global) → Type 0
AddsClause clause old new = (a : Assignment) → holds new a ≡ (holds old a && satisfies_clause a clause)

-- where 0 is false and the new clauses hold, the old ones do, and the variable has the value of the literal
abbrev pub AddsEquality : ℕ → Lit → List (Vec Lit Global) → List (Vec Lit Global) → Type 0
AddsEquality v l old new =
    (a : Assignment) → IsTrue (not (a 0)) → IsTrue (holds new a) → IsTrue (holds old a) × (a v ≡ is_true a l)

-- the clauses are an invariant of the whole circuit, by which the smaller one is that after the merges
pub record IsSweptOf (merges : List Lit) (invariant : List (Vec Lit Global)) (small whole : Circuit) : Type 0 where
  pub smaller : IsMergedOf merges small whole
  pub implied : ImpliesMerges invariant merges
  pub initiated : IsInitiated whole invariant
  pub inductive : IsInductive whole invariant

-- the clauses hold where the others do, both of them
abbrev pub HoldBoth : List (Vec Lit Global) → List (Vec Lit Global) → List (Vec Lit Global) → Type 0
HoldBoth clauses first others = (a : Assignment) → holds clauses a ≡ (holds first a && holds others a)
