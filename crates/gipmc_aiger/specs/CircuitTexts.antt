-- The texts of a circuit in both forms.
use Rattle.std.specs.Prelude.{ℕ, ◌+◌, ◌-◌, ◌*◌, min, max, nat_lt, Bool, List, [], ◌∷◌, ◌++◌, length, codes, decimal, Option, Some, None, is_some, map, ◌==◌, if◌then◌else◌}
use Rattle.std.specs.List.{list_all}
use Rattle.gipsat_cnf.specs.Literals.{Lit}
use Rattle.gipmc_circuits.specs.declared.circuit.And.{And}
use Rattle.gipmc_circuits.specs.declared.circuit.Latch.{Latch}
use Rattle.gipmc_circuits.specs.declared.circuit.Circuit.{Circuit}
use Rattle.gipmc_aiger.specs.Reading.{◌>>=◌}
use Rattle.gipmc_aiger.specs.Circuits.{Rows}
use Rattle.giputils_text.specs.Groups.{groups}

-- the number of a literal: twice its variable, and 1 more for the negation
abbrev pub literal_number : Lit → ℕ
literal_number l = if l.positive then 2 * l.variable else 2 * l.variable + 1

-- a number and a byte behind it
abbrev pub number_text : ℕ → ℕ → List ℕ
number_text n end = decimal n ++ end ∷ []

-- numbers with a space before each
abbrev pub numbers_text : List ℕ → List ℕ
numbers_text [] = []
numbers_text (n ∷ numbers) = 32 ∷ (decimal n ++ numbers_text numbers)

-- the numbers of a header: the greatest variable, and how many inputs, latches, outputs, gates, bad literals and
-- constraints there are
abbrev pub header_numbers : ℕ → Circuit → List ℕ
header_numbers maximum c =
    maximum ∷ length c.inputs.items ∷ length c.latches.items ∷ 0 ∷ length c.gates.items ∷ length c.bads.items
    ∷ length c.constraints.items ∷ []

-- the header: the greatest variable, then how many inputs, latches, outputs, gates, bad literals and constraints follow
abbrev pub header_line : ℕ → Circuit → List ℕ
header_line maximum c =
    codes "aag " ++ number_text maximum 32 ++ number_text (length c.inputs.items) 32
    ++ number_text (length c.latches.items) 32 ++ number_text 0 32 ++ number_text (length c.gates.items) 32
    ++ number_text (length c.bads.items) 32 ++ number_text (length c.constraints.items) 10

-- a line for each input
abbrev pub input_lines : List ℕ → List ℕ
input_lines [] = []
input_lines (input ∷ inputs) = number_text (2 * input) 10 ++ input_lines inputs

-- a line for each literal
abbrev pub literal_lines : List Lit → List ℕ
literal_lines [] = []
literal_lines (l ∷ literals) = number_text (literal_number l) 10 ++ literal_lines literals

-- the number of a reset: 0, or 1, or the latch itself
abbrev pub reset_number : ℕ → Option Bool → ℕ
reset_number variable None = 2 * variable
reset_number variable (Some value) = if value then 1 else 0

-- the line of a latch: itself, its next literal, its reset
abbrev pub latch_line : Latch → List ℕ
latch_line l =
    number_text (2 * l.variable) 32 ++ number_text (literal_number l.next) 32
    ++ number_text (reset_number l.variable l.reset) 10

-- a line for each latch
abbrev pub latch_lines : List Latch → List ℕ
latch_lines [] = []
latch_lines (l ∷ latches) = latch_line l ++ latch_lines latches

-- the line of a gate: its output and its operands
abbrev pub and_line : And → List ℕ
and_line g =
    number_text (2 * g.output) 32 ++ number_text (literal_number g.left) 32 ++ number_text (literal_number g.right) 10

-- a line for each gate
abbrev pub and_lines : List And → List ℕ
and_lines [] = []
and_lines (g ∷ gates) = and_line g ++ and_lines gates

-- the greatest of a number and some inputs
abbrev pub greatest_input : ℕ → List ℕ → ℕ
greatest_input n [] = n
greatest_input n (input ∷ inputs) = greatest_input (max n input) inputs

-- the greatest of a number and the variables of some latches
abbrev pub greatest_latch : ℕ → List Latch → ℕ
greatest_latch n [] = n
greatest_latch n (l ∷ latches) = greatest_latch (max n l.variable) latches

-- the greatest of a number and the outputs of some gates
abbrev pub greatest_output : ℕ → List And → ℕ
greatest_output n [] = n
greatest_output n (g ∷ gates) = greatest_output (max n g.output) gates

-- the greatest variable that a circuit defines
abbrev pub greatest_variable : Circuit → ℕ
greatest_variable c = greatest_output (greatest_latch (greatest_input 0 c.inputs.items) c.latches.items) c.gates.items

-- the text of a circuit in the ascii form
abbrev pub aag_text : Circuit → List ℕ
aag_text c =
    header_line (greatest_variable c) c ++ input_lines c.inputs.items ++ latch_lines c.latches.items
    ++ literal_lines c.bads.items ++ literal_lines c.constraints.items ++ and_lines c.gates.items

-- the header of the binary form; a machine's numbers end at 2^64
abbrev pub packed_header_line : Circuit → List ℕ
packed_header_line c =
    codes "aig " ++ number_text (min (min (length c.inputs.items + length c.latches.items) 18446744073709551615
    + length c.gates.items) 18446744073709551615) 32 ++ number_text (length c.inputs.items) 32
    ++ number_text (length c.latches.items) 32 ++ number_text 0 32 ++ number_text (length c.gates.items) 32
    ++ number_text (length c.bads.items) 32 ++ number_text (length c.constraints.items) 10

-- the line of a latch without its variable
abbrev pub packed_latch_line : Latch → List ℕ
packed_latch_line l = number_text (literal_number l.next) 32 ++ number_text (reset_number l.variable l.reset) 10

-- a line for each latch
abbrev pub packed_latch_lines : List Latch → List ℕ
packed_latch_lines [] = []
packed_latch_lines (l ∷ latches) = packed_latch_line l ++ packed_latch_lines latches

-- the bytes of a gate: how far its greater operand is below the output, and the other one below that
abbrev pub packed_and : And → List ℕ
packed_and g =
    groups 4 (2 * g.output - max (literal_number g.left) (literal_number g.right))
    ++ groups 4 (max (literal_number g.left) (literal_number g.right)
    - min (literal_number g.left) (literal_number g.right))

-- the bytes of each gate
abbrev pub packed_ands : List And → List ℕ
packed_ands [] = []
packed_ands (g ∷ gates) = packed_and g ++ packed_ands gates

-- the last of some variables, if they are the numbers that follow n
abbrev pub numbered_behind : ℕ → List ℕ → Option ℕ
numbered_behind n [] = Some n
numbered_behind n (v ∷ vs) = if v == n + 1 then numbered_behind v vs else None

-- the inputs, the latches and the outputs of the gates are numbered from 1 on, in this order
abbrev pub is_numbered : Circuit → Bool
is_numbered c =
    is_some (numbered_behind 0 c.inputs.items >>= λ input.
    numbered_behind input (map (λ l. l.variable) c.latches.items) >>= λ latch.
    numbered_behind latch (map (λ g. g.output) c.gates.items))

-- the gate's output is above both operands
abbrev pub is_above : And → Bool
is_above g = nat_lt (max (literal_number g.left) (literal_number g.right)) (2 * g.output)

-- each gate's output is above both operands
abbrev pub are_above : List And → Bool
are_above gates = list_all is_above gates

-- the text of a circuit in the binary form
abbrev pub aig_text : Circuit → List ℕ
aig_text c =
    packed_header_line c ++ packed_latch_lines c.latches.items ++ literal_lines c.bads.items
    ++ literal_lines c.constraints.items ++ packed_ands c.gates.items

-- a gate with its greater operand first
abbrev pub greater_first : And → And
greater_first g =
    if nat_lt (literal_number g.left) (literal_number g.right)
    then record { output = g.output; left = g.right; right = g.left } else g

-- the parts of a circuit as the binary form has them: the greater operand of each gate comes first
abbrev pub packed_rows_of : Circuit → Rows
packed_rows_of c = record {
  inputs = c.inputs.items;
  latches = c.latches.items;
  gates = map greater_first c.gates.items;
  bads = c.bads.items;
  constraints = c.constraints.items;
}
