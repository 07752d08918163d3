-- Circuits that certify another one, as the witness circuits of HWMCC do.
use Rattle.std.specs.Prelude.{◌≡◌, ℕ, ◌++◌, ◌&&◌, Bool, true, not, List, Vec, map, filter, cond, IsTrue}
use Rattle.std.specs.declared.alloc.Global.{Global}
use lib.Dec.{eqb, ltb}
use Rattle.std.specs.Bool.{beq}
use Rattle.std.specs.List.{list_all}
use Rattle.gipsat_cnf.specs.Prelude.{Assignment, Lit, is_true, makes_true, negated}
use Rattle.gipmc_circuits.specs.declared.circuit.And.{And}
use Rattle.gipmc_circuits.specs.declared.circuit.Circuit.{Circuit}
use Rattle.gipmc_circuits.specs.declared.witness_circuit.Link.{Link}
use Rattle.gipmc_circuits.specs.declared.witness_circuit.Register.{Register}
use Rattle.gipmc_circuits.specs.declared.witness_circuit.WitnessCircuit.{WitnessCircuit}
use Rattle.gipmc_circuits.specs.Certificate.{holds}
use Rattle.gipmc_circuits.specs.Circuit.{is_initial, is_moment, is_transition, is_valuation}
use Rattle.gipmc_circuits.specs.Encoding.{is_below, literal_below}
use Rattle.gipmc_circuits.specs.WellFormed.{are_in_order, are_new, is_constant, with_variables}

-- what a circuit claims as a certificate: its bad literals are false, and its constraints true
abbrev pub claims : Circuit → List Lit
claims w = map negated w.bads.items ++ w.constraints.items

-- what it claims is true
abbrev pub claims_hold : WitnessCircuit → Assignment → Bool
claims_hold w b = makes_true b (claims w.circuit)

-- the variable has in b the value that its literal has in a
abbrev pub is_linked : Assignment → Assignment → Link → Bool
is_linked a b k = beq (b k.variable) (is_true a k.literal)

-- each of the variables has in b the value that its literal has in a
abbrev pub are_linked : Assignment → Assignment → List Link → Bool
are_linked a b links = list_all (is_linked a b) links

-- where the values are those of the circuit's gates, some clauses hold wherever given ones do
abbrev pub Implies : Circuit → List (Vec Lit Global) → List (Vec Lit Global) → Type 0
Implies c given rows = (a : Assignment) → IsTrue (is_valuation c a) → IsTrue (holds given a) → IsTrue (holds rows a)

-- where the values are those of the circuit's gates, some clauses hold just where others do
abbrev pub SaySame : Circuit → List (Vec Lit Global) → List (Vec Lit Global) → Type 0
SaySame c first second = (a : Assignment) → IsTrue (is_valuation c a) → holds first a ≡ holds second a

-- where the values are those of the certificate's gates, the clauses say what it claims
abbrev pub SayClaims : WitnessCircuit → List (Vec Lit Global) → Type 0
SayClaims w rows = (b : Assignment) → IsTrue (is_valuation w.circuit b) → holds rows b ≡ claims_hold w b

-- a valuation of the certificate and a moment of the circuit, alike in what they share
abbrev pub are_paired : Circuit → WitnessCircuit → Assignment → Assignment → Bool
are_paired c w a b = is_valuation w.circuit b && (are_linked a b w.shared.items && is_moment c a)

-- the certificate can begin wherever the circuit does, and go on wherever the circuit does
pub record Simulates (c : Circuit) (w : WitnessCircuit) : Type 0 where
  pub begins : (a : Assignment) → IsTrue (is_moment c a)
      → (b : Assignment) × IsTrue (are_paired c w a b) × IsTrue (are_linked b b w.resets.items)
  pub goes_on : (b d : Assignment) → IsTrue (is_moment c d)
      → (e : Assignment) × IsTrue (are_paired c w d e) × IsTrue (are_linked b e w.nexts.items)

-- the claims hold wherever both begin
abbrev pub IsInitiatedBy : Circuit → WitnessCircuit → Type 0
IsInitiatedBy c w =
    (a b : Assignment) → IsTrue (are_paired c w a b) → IsTrue (is_initial c a) → IsTrue (are_linked b b w.resets.items)
    → IsTrue (claims_hold w b)

-- where the claims hold, they hold behind each transition of both
abbrev pub IsInductiveBy : Circuit → WitnessCircuit → Type 0
IsInductiveBy c w =
    (a b d e : Assignment) → IsTrue (are_paired c w a b) → IsTrue (claims_hold w b) → IsTrue (is_transition c a d)
    → IsTrue (are_linked b e w.nexts.items) → IsTrue (are_paired c w d e) → IsTrue (claims_hold w e)

-- where the claims hold, the literal is false
abbrev pub ExcludesBy : Circuit → WitnessCircuit → Lit → Type 0
ExcludesBy c w bad =
    (a b : Assignment) → IsTrue (are_paired c w a b) → IsTrue (claims_hold w b) → ¬ (IsTrue (is_true a bad))

-- the certificate simulates the circuit; its claims hold at first and are kept, and where they hold, the literal is
-- false
pub record IsCertifiedBy (c : Circuit) (bad : Lit) (w : WitnessCircuit) : Type 0 where
  pub simulates : Simulates c w
  pub initiated : IsInitiatedBy c w
  pub inductive : IsInductiveBy c w
  pub excluded : ExcludesBy c w bad

-- the variables of the links
abbrev pub link_variables : List Link → List ℕ
link_variables links = map (λ k. k.variable) links

-- each variable comes once, none of them is 0, and the gates are in order behind them
abbrev pub are_defined_from : List ℕ → List And → Bool
are_defined_from sources gates = are_new sources is_constant && are_in_order gates (with_variables sources is_constant)

-- the literal of a reset, 0 where it is the latch itself
abbrev pub start_literal : Link → Lit
start_literal k =
    cond (eqb k.literal.variable k.variable && k.literal.positive) (record { variable = 0; positive = true }) k.literal

-- the gate that gives a latch its reset
abbrev pub reset_gate : Link → And
reset_gate k = record { output = k.variable; left = start_literal k; right = start_literal k }

-- the link's variable is below n, and its literal's below m
abbrev pub link_below : ℕ → ℕ → Link → Bool
link_below n m k = ltb k.variable n && literal_below m k.literal

-- the variables of the certificate are below n, and those of the circuit that it shares below m
abbrev pub is_witness_below : ℕ → ℕ → WitnessCircuit → Bool
is_witness_below n m w =
    is_below n w.circuit && (list_all (link_below n m) w.shared.items
    && (list_all (link_below n n) w.resets.items && list_all (link_below n n) w.nexts.items))

-- what a latch holds at first
abbrev pub reset_link : Register → Link
reset_link r = record { variable = r.variable; literal = r.reset }

-- what a latch holds next
abbrev pub next_link : Register → Link
next_link r = record { variable = r.variable; literal = r.next }

-- the latches whose variables are not among those of the links
abbrev pub unlinked : List Link → List Register → List Register
unlinked links registers = filter (λ r. not (with_variables (link_variables links) is_constant r.variable)) registers

-- the variables that are not among those of the links
abbrev pub unlinked_variables : List Link → List ℕ → List ℕ
unlinked_variables links variables = filter (λ v. not (with_variables (link_variables links) is_constant v)) variables
