-- Why the rows of a text are no circuit.
use Rattle.std.specs.Prelude.{◌≡◌, ℕ, zero, suc, ◌&&◌, ◌||◌, Bool, false, not, List, [], ◌∷◌, ◌++◌, map, slice_get, slice_index_or, Option, Some, None, is_some, IsTrue}
use Rattle.std.specs.List.{list_any}
use Rattle.gipmc_aiger.specs.Lists.{Every}
use lib.Dec.{eqb}
use Rattle.gipsat_cnf.specs.Literals.{Lit}
use Rattle.gipmc_circuits.specs.WellFormed.{is_constant, with_variable, with_variables}
use Rattle.gipmc_circuits.specs.declared.circuit.And.{And}
use Rattle.gipmc_aiger.specs.Circuits.{LiveRows, Rows, circuit_of, live_rows_of}
use Rattle.gipmc_aiger.specs.LiveCircuits.{live_literals}
use Rattle.gipmc_aiger.specs.declared.error.AigerError.{AigerError}
use Rattle.gipmc_aiger.specs.declared.error.AigerError.TheVariants as error
use Rattle.gipmc_aiger.specs.declared.error.Defect.{Defect}
use Rattle.gipmc_aiger.specs.declared.error.Defect.TheVariants as defect
use Rattle.gipmc_aiger.specs.declared.order.Definition.{Definition}
use Rattle.gipmc_aiger.specs.declared.order.Visit.{Visit}
use Rattle.gipmc_aiger.specs.declared.order.Visit.TheVariants as visit

-- the variables that rows define, in turn: inputs, latches, gates
abbrev pub defined_variables : Rows → List ℕ
defined_variables n = n.inputs ++ (map (λ l. l.variable) n.latches ++ map (λ g. g.output) n.gates)

-- the variable stands in the list where it is defined already
abbrev pub comes_twice : List ℕ → (ℕ → Bool) → ℕ → Bool
comes_twice [] defined v = false
comes_twice (w ∷ ws) defined v = (eqb w v && defined w) || comes_twice ws (with_variable w defined) v

-- two rows define the variable, or it is 0 and one does
abbrev pub is_twice : Rows → ℕ → Bool
is_twice n v = comes_twice (defined_variables n) is_constant v

-- a row defines the variable, or it is 0
abbrev pub defines : Rows → ℕ → Bool
defines n = with_variables (defined_variables n) is_constant

-- the operands of gates
abbrev pub operands : List And → List Lit
operands [] = []
operands (g ∷ gates) = g.left ∷ g.right ∷ operands gates

-- the literals that rows use
abbrev pub used_literals : Rows → List Lit
used_literals n = map (λ l. l.next) n.latches ++ (operands n.gates ++ (n.bads ++ n.constraints))

-- a literal of the list is of the variable
abbrev pub has_variable : List Lit → ℕ → Bool
has_variable literals v = list_any (λ l. eqb l.variable v) literals

-- a row uses the variable, and none defines it
abbrev pub is_undefined : Rows → ℕ → Bool
is_undefined n v = has_variable (used_literals n) v && not (defines n v)

-- the gate's output is v, and it has an operand of variable w
abbrev pub uses : And → ℕ → ℕ → Bool
uses g v w = eqb g.output v && (eqb g.left.variable w || eqb g.right.variable w)

-- a gate with output v has an operand of variable w
abbrev pub UsesOnce : List And → ℕ → ℕ → Type 0
UsesOnce gates v w = (place : ℕ) × (g : And) × (slice_get gates place ≡ Some g) × IsTrue (uses g v w)

-- so many gates, each of which has the output of the next one as an operand, lead from v to w
abbrev pub Uses : List And → ℕ → ℕ → ℕ → Type 0
Uses gates zero v w = v ≡ w
Uses gates (suc n) v w = (u : ℕ) × UsesOnce gates v u × Uses gates n u w

-- the gate of the variable depends on itself
abbrev pub IsCyclic : Rows → ℕ → Type 0
IsCyclic n v = (more : ℕ) × Uses n.gates (suc more) v v

-- a text writes rows of which this is true
abbrev pub WritesRows : List ℕ → (Rows → Type 0) → Type 0
WritesRows text P = (n : Rows) × (circuit_of text ≡ Some n) × P n

-- a text writes rows, justice properties and fairness constraints of which this is true
abbrev pub WritesLiveRows : List ℕ → (LiveRows → Type 0) → Type 0
WritesLiveRows text P = (n : LiveRows) × (live_rows_of text ≡ Some n) × P n

-- the rows of a circuit with other bad literals
abbrev pub with_bads : Rows → List Lit → Rows
with_bads n bads = record {
  inputs = n.inputs;
  latches = n.latches;
  gates = n.gates;
  bads = bads;
  constraints = n.constraints;
}

-- the rows of a circuit, with the literals of its justice properties and its fairness constraints as bad literals too
abbrev pub as_bads : LiveRows → Rows
as_bads n = with_bads n.circuit (n.circuit.bads ++ live_literals n.justice n.fairness)

-- a defect of the variables that are listed, behind those that are defined
abbrev pub IsTwiceIn : List ℕ → (ℕ → Bool) → Defect → Type 0
IsTwiceIn vs defined defect.Memory = Unit {0}
IsTwiceIn vs defined (defect.Twice v) = IsTrue (comes_twice vs defined v)
IsTwiceIn vs defined _ = ⊥

-- a defect of the literals that are listed, by the variables that are defined
abbrev pub IsUndefinedIn : List Lit → (ℕ → Bool) → Defect → Type 0
IsUndefinedIn literals defined defect.Memory = Unit {0}
IsUndefinedIn literals defined (defect.Undefined v) = IsTrue (has_variable literals v && not (defined v))
IsUndefinedIn literals defined _ = ⊥

-- a defect of gates
abbrev pub IsCycleIn : List And → Defect → Type 0
IsCycleIn gates defect.Memory = Unit {0}
IsCycleIn gates (defect.Cycle v) = (more : ℕ) × Uses gates (suc more) v v
IsCycleIn gates _ = ⊥

-- a defect of rows
abbrev pub IsDefectOf : Rows → Defect → Type 0
IsDefectOf n defect.Memory = Unit {0}
IsDefectOf n (defect.Twice v) = IsTrue (is_twice n v)
IsDefectOf n (defect.Undefined v) = IsTrue (is_undefined n v)
IsDefectOf n (defect.Cycle v) = IsCyclic n v

-- an error of rows
abbrev pub IsErrorOf : Rows → AigerError → Type 0
IsErrorOf n error.Memory = Unit {0}
IsErrorOf n (error.Refused place reason) = ⊥
IsErrorOf n (error.Twice v) = IsTrue (is_twice n v)
IsErrorOf n (error.Undefined v) = IsTrue (is_undefined n v)
IsErrorOf n (error.Cycle v) = IsCyclic n v

-- the variables that a table has a definition of
abbrev pub defined_in : List (Option Definition) → ℕ → Bool
defined_in definitions v = is_some (slice_index_or definitions v None)

-- the gate at a place has the output v
abbrev pub HasOutput : List And → ℕ → ℕ → Type 0
HasOutput gates place v = (g : And) × (slice_get gates place ≡ Some g) × (g.output ≡ v)

-- the gate at one place depends on that at the other, or is that one
abbrev pub Leads : List And → ℕ → ℕ → Type 0
Leads gates p q =
    (n : ℕ) × (v : ℕ) × (w : ℕ) × HasOutput gates p v × HasOutput gates q w × Uses gates n v w

-- how far a gate has been visited; past the last one nothing is to be done
abbrev pub visit_at : List Visit → ℕ → Visit
visit_at visits place = slice_index_or visits place (visit.Done 0)

-- each gate that is open waits, and depends on those that wait behind it
abbrev pub IsStack : List And → List Visit → List ℕ → Type 0
IsStack gates visits waiting =
    (q : ℕ) → visit_at visits q ≡ visit.Open
    → (below : List ℕ) × (above : List ℕ) × (waiting ≡ below ++ q ∷ above) × Every (Leads gates q) above

-- a gate that is open has the variable as its output
abbrev pub IsOpenAt : List And → List Visit → ℕ → Type 0
IsOpenAt gates visits v = (q : ℕ) × (visit_at visits q ≡ visit.Open) × HasOutput gates q v

-- a defect of a literal whose gate is open
abbrev pub MeetsOpen : List And → List Visit → ℕ → Defect → Type 0
MeetsOpen gates visits v defect.Memory = Unit {0}
MeetsOpen gates visits v (defect.Cycle w) = (w ≡ v) × IsOpenAt gates visits v
MeetsOpen gates visits v _ = ⊥

-- no gate or one with the output v has been added
abbrev pub AddsGateOf : List And → ℕ → List ℕ → List ℕ → Type 0
AddsGateOf gates v old new =
    (added : List ℕ) × (new ≡ old ++ added) × Every (λ q. HasOutput gates q v) added
