-- Cones of influence: parts of circuits, with numbers of their own.
use Rattle.std.specs.Prelude.{◌≡◌, ℕ, List, Vec, map, slice_index_or}
use Rattle.std.specs.declared.alloc.Global.{Global}
use Rattle.std.specs.List.{All, Contains}
use Rattle.gipsat_cnf.specs.Prelude.{Assignment, Lit}
use Rattle.gipmc_circuits.specs.declared.circuit.And.{And}
use Rattle.gipmc_circuits.specs.declared.circuit.Circuit.{Circuit}
use Rattle.gipmc_circuits.specs.declared.circuit.Latch.{Latch}

-- the variable of the whole circuit that a variable of the part is; past the names it is 0
abbrev pub name : List ℕ → ℕ → ℕ
name names v = slice_index_or names v 0

-- the literal of that variable
abbrev pub literal_named : List ℕ → Lit → Lit
literal_named names l = record { variable = name names l.variable; positive = l.positive }

-- the gate over those variables
abbrev pub gate_named : List ℕ → And → And
gate_named names g =
    record { output = name names g.output; left = literal_named names g.left; right = literal_named names g.right }

-- the latch over those variables
abbrev pub latch_named : List ℕ → Latch → Latch
latch_named names l = record { variable = name names l.variable; next = literal_named names l.next; reset = l.reset }

-- under the names, 0 is 0, and each gate, latch and constraint of the part is one of the whole circuit
pub record IsPartOf (names : List ℕ) (part whole : Circuit) : Type 0 where
  pub constant : name names 0 ≡ 0
  pub gates : All (λ g. Contains whole.gates.items (gate_named names g)) part.gates.items
  pub latches : All (λ l. Contains whole.latches.items (latch_named names l)) part.latches.items
  pub constraints : All (λ l. Contains whole.constraints.items (literal_named names l)) part.constraints.items

-- the values of the part's variables, where the whole circuit has these
abbrev pub read : List ℕ → Assignment → Assignment
read names a v = a (name names v)

-- the literals of the clauses
abbrev pub rows : List (Vec Lit Global) → List (List Lit)
rows clauses = map (λ c. c.items) clauses

-- the clauses of the part, over the variables of the whole circuit
abbrev pub rows_named : List ℕ → List (Vec Lit Global) → List (List Lit)
rows_named names clauses = map (map (literal_named names)) (rows clauses)
