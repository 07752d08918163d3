-- Which circuit, which justice properties and which fairness constraints a text in a form of AIGER writes.
use Rattle.std.specs.Prelude.{◌≡◌, ℕ, Bool, List, [], ◌∷◌, ◌++◌, map, Some}
use Rattle.std.specs.List.{list_all}
use Rattle.gipsat_cnf.specs.Literals.{Lit}
use Rattle.gipmc_circuits.specs.WellFormed.{is_variable}
use Rattle.gipmc_circuits.specs.declared.circuit.Circuit.{Circuit}
use Rattle.gipmc_aiger.specs.declared.liveness.Liveness.{Liveness}
use Rattle.gipmc_aiger.specs.declared.problem.Problem.{Problem}
use Rattle.gipmc_aiger.specs.Circuits.{IsReordering, LiveRows, live_rows_of, rows_of}

-- the literals of each justice property, without where they lie in memory
abbrev pub justice_view : Liveness → List (List Lit)
justice_view l = map (λ property. property.items) l.justice.items

-- a circuit with its justice properties and fairness constraints, without where they lie in memory
abbrev pub live_rows : Circuit → Liveness → LiveRows
live_rows c l = record { circuit = rows_of c; justice = justice_view l; fairness = l.fairness.items }

-- a circuit has these rows, its gates in some order, and these are its justice properties and fairness constraints
pub record AreRowsOf (c : Circuit) (l : Liveness) (n : LiveRows) : Type 0 where
  pub circuit : IsReordering n.circuit (rows_of c)
  pub justice : justice_view l ≡ n.justice
  pub fairness : l.fairness.items ≡ n.fairness

-- a text writes a circuit, whose gates may stand in another order, with these justice properties and fairness constraints
abbrev pub WritesLive : List ℕ → Circuit → Liveness → Type 0
WritesLive text c l = (n : LiveRows) × (live_rows_of text ≡ Some n) × AreRowsOf c l n

-- a text writes a problem
abbrev pub IsProblemOf : List ℕ → Problem → Type 0
IsProblemOf text p = WritesLive text p.netlist.circuit p.liveness

-- the literals of some lists
abbrev pub flattened : List (List Lit) → List Lit
flattened [] = []
flattened (literals ∷ lists) = literals ++ flattened lists

-- the fairness constraints, and the literals of the justice properties
abbrev pub live_literals : List (List Lit) → List Lit → List Lit
live_literals justice fairness = fairness ++ flattened justice

-- each of these literals is of a variable of the circuit
abbrev pub are_defined : Circuit → Liveness → Bool
are_defined c l = list_all (λ x. is_variable c x.variable) (live_literals (justice_view l) l.fairness.items)
