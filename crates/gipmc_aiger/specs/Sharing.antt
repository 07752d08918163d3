-- Which inputs and latches a certificate shares with the circuit that it certifies, as its text says.
use Rattle.std.specs.Prelude.{◌==◌, ◌++◌, ℕ, true, List, [], ◌∷◌, length, map, slice_get, Option, Some, None, if◌then◌else◌}
use Rattle.std.specs.List.{zip}
use Rattle.std.specs.Option.{option_to_list}
use Rattle.std.specs.Str.{byte}
use Rattle.giputils_text.specs.Lines.{space, text_lines}
use Rattle.gipmc_circuits.specs.WellFormed.{latch_variables}
use Rattle.gipmc_circuits.specs.declared.circuit.Circuit.{Circuit}
use Rattle.gipmc_circuits.specs.declared.witness_circuit.Link.{Link}
use Rattle.gipmc_circuits.specs.declared.witness_circuit.Register.{Register}
use Rattle.gipmc_aiger.specs.Circuits.{greatest_count, literal_of}
use Rattle.gipmc_aiger.specs.Reading.{◌>>=◌, expected_at, number_at}
use Rattle.gipmc_aiger.specs.Tails.{begins_comment}

-- the number n of a name `= n`
abbrev pub number_named : List ℕ → Option ℕ
number_named name =
    expected_at (byte "=") name >>= λ rest. expected_at space rest >>= λ rest. number_at 4294967295 rest >>= λ n.
    if length n.1 == 0 then Some n.0 else None

-- the variable of the row at a place, an input's or a latch's as the kind is `i` or `l`
abbrev pub variable_at : List ℕ → List ℕ → ℕ → ℕ → Option ℕ
variable_at inputs latches kind place =
    if kind == byte "i" then slice_get inputs place else if kind == byte "l" then slice_get latches place else None

-- the row that a symbol of this kind names `= n`, and the literal of number n
abbrev pub link_at : List ℕ → List ℕ → ℕ → List ℕ → Option Link
link_at inputs latches kind bytes =
    number_at greatest_count bytes >>= λ place. expected_at space place.1 >>= λ name. number_named name >>= λ n.
    variable_at inputs latches kind place.0 >>= λ variable.
    Some (record { variable = variable; literal = literal_of n })

abbrev pub link_in : List ℕ → List ℕ → List ℕ → Option Link
link_in inputs latches [] = None
link_in inputs latches (kind ∷ rest) = link_at inputs latches kind rest

-- what the symbols among these lines name so, up to a comment
abbrev pub links_in : List ℕ → List ℕ → List (List ℕ) → List Link
links_in inputs latches [] = []
links_in inputs latches (line ∷ lines) =
    if begins_comment line then [] else option_to_list (link_in inputs latches line) ++ links_in inputs latches lines

-- a variable that has the value of another one
abbrev pub linked : ℕ × ℕ → Link
linked pair = record { variable = pair.0; literal = record { variable = pair.1; positive = true } }

-- variables and those at the same places of another list, as far as both go
abbrev pub links_by_place : List ℕ → List ℕ → List Link
links_by_place own others = map linked (zip own others)

-- what a certificate of these inputs and latches shares with the circuit: what the symbols behind its rows name `= n`;
-- where they name nothing so, inputs and latches in order
abbrev pub links_with : Circuit → List ℕ → List ℕ → List Link → List Link
links_with c inputs latches named =
    if length named == 0
    then links_by_place inputs c.inputs.items ++ links_by_place latches (latch_variables c) else named

abbrev pub shared_with : Circuit → List ℕ → List Register → List ℕ → List Link
shared_with c inputs registers symbols =
    let latches = map (λ r. r.variable) registers in
    links_with c inputs latches (links_in inputs latches (text_lines symbols))
