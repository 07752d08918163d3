-- The texts of a circuit with justice properties and fairness constraints, in both forms.
use Rattle.std.specs.Prelude.{ℕ, ◌+◌, ◌<◌, ◌^◌, min, List, [], ◌∷◌, ◌++◌, length, codes}
use Rattle.gipmc_aiger.specs.Lists.{Every}
use Rattle.gipsat_cnf.specs.Literals.{Lit}
use Rattle.gipmc_circuits.specs.declared.circuit.Circuit.{Circuit}
use Rattle.gipmc_aiger.specs.declared.liveness.Liveness.{Liveness}
use Rattle.gipmc_aiger.specs.CircuitTexts.{and_lines, greatest_variable, input_lines, latch_lines, literal_lines}
use Rattle.gipmc_aiger.specs.CircuitTexts.{number_text, packed_ands, packed_latch_lines, packed_rows_of}
use Rattle.gipmc_aiger.specs.Circuits.{LiveRows}
use Rattle.gipmc_aiger.specs.LiveCircuits.{justice_view}
use Rattle.gipmc_aiger.specs.Writable.{FitsLiteral}

-- a line for each justice property: how many literals it has
abbrev pub size_lines : List (List Lit) → List ℕ
size_lines [] = []
size_lines (property ∷ justice) = number_text (length property) 10 ++ size_lines justice

-- a line for each of their literals
abbrev pub justice_lines : List (List Lit) → List ℕ
justice_lines [] = []
justice_lines (property ∷ justice) = literal_lines property ++ justice_lines justice

-- the lines of justice properties and fairness constraints
abbrev pub liveness_lines : List (List Lit) → List Lit → List ℕ
liveness_lines justice fairness = size_lines justice ++ justice_lines justice ++ literal_lines fairness

-- the header: the greatest variable, then how many inputs, latches, outputs, gates, bad literals, constraints, justice
-- properties and fairness constraints follow
abbrev pub live_header_line : ℕ → Circuit → ℕ → ℕ → List ℕ
live_header_line maximum c justice fairness =
    codes "aag " ++ number_text maximum 32 ++ number_text (length c.inputs.items) 32
    ++ number_text (length c.latches.items) 32 ++ number_text 0 32 ++ number_text (length c.gates.items) 32
    ++ number_text (length c.bads.items) 32 ++ number_text (length c.constraints.items) 32
    ++ number_text justice 32 ++ number_text fairness 10

-- the text in the ascii form
abbrev pub live_aag_text : Circuit → Liveness → List ℕ
live_aag_text c l =
    live_header_line (greatest_variable c) c (length l.justice.items) (length l.fairness.items)
    ++ input_lines c.inputs.items ++ latch_lines c.latches.items ++ literal_lines c.bads.items
    ++ literal_lines c.constraints.items ++ liveness_lines (justice_view l) l.fairness.items ++ and_lines c.gates.items

-- the header of the binary form; a machine's numbers end at 2^64
abbrev pub live_packed_header_line : Circuit → ℕ → ℕ → List ℕ
live_packed_header_line c justice fairness =
    codes "aig " ++ number_text (min (min (length c.inputs.items + length c.latches.items) 18446744073709551615
    + length c.gates.items) 18446744073709551615) 32 ++ number_text (length c.inputs.items) 32
    ++ number_text (length c.latches.items) 32 ++ number_text 0 32 ++ number_text (length c.gates.items) 32
    ++ number_text (length c.bads.items) 32 ++ number_text (length c.constraints.items) 32
    ++ number_text justice 32 ++ number_text fairness 10

-- the text in the binary form
abbrev pub live_aig_text : Circuit → Liveness → List ℕ
live_aig_text c l =
    live_packed_header_line c (length l.justice.items) (length l.fairness.items)
    ++ packed_latch_lines c.latches.items ++ literal_lines c.bads.items ++ literal_lines c.constraints.items
    ++ liveness_lines (justice_view l) l.fairness.items ++ packed_ands c.gates.items

-- what the binary form has of them: the greater operand of each gate comes first
abbrev pub packed_live_rows : Circuit → Liveness → LiveRows
packed_live_rows c l =
    record { circuit = packed_rows_of c; justice = justice_view l; fairness = l.fairness.items }

-- the forms have room for them beside a circuit of this greatest variable: there are fewer than 2^31 properties, literals
-- of each and constraints, and none is of a greater variable
pub record AreLiveWritable (m : ℕ) (justice : List (List Lit)) (fairness : List Lit) : Type 0 where
  pub justice_count : length justice < 2 ^ 31
  pub fairness_count : length fairness < 2 ^ 31
  pub sizes : Every (λ p. length p < 2 ^ 31) justice
  pub literals : Every (λ p. Every (FitsLiteral m) p) justice
  pub fairness_literals : Every (FitsLiteral m) fairness
