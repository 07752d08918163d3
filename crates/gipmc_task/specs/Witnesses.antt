-- Witnesses that properties fail, as texts.
use Rattle.std.specs.Prelude.{◌≡◌, ◌==◌, ◌||◌, ℕ, Bool, true, List, [], ◌∷◌, Vec, length, map, slice_get, if◌then◌else◌, Option, Some, None, IsTrue}
use Rattle.std.specs.declared.alloc.Global.{Global}
use Rattle.std.specs.List.{list_any}
use Rattle.gipsat_cnf.specs.Literals.{Lit}
use Rattle.gipmc_aiger.specs.Prelude.{Claimed, Every, claim_by, claims_of, lassos_of}
use Rattle.gipmc_aiger.specs.declared.problem.Problem.{Problem}
use Rattle.gipmc_circuits.specs.Traces.{FailsBy}
use Rattle.gipmc_circuits.specs.declared.circuit.Circuit.{Circuit}
use Rattle.gipmc_circuits.specs.declared.trace.Trace.{Trace}
use Rattle.gipmc_reduce.specs.Lassos.{IsLasso}
use Rattle.gipmc_reduce.specs.Liveness.{FailsForever}
use Rattle.gipmc_task.specs.declared.kind.PropertyKind.{PropertyKind}
use Rattle.gipmc_task.specs.declared.kind.PropertyKind.TheVariants.{Bad, Justice}

-- the claims of properties of a kind that a text writes for so many latches and inputs, if it has the form
abbrev pub claims_by : PropertyKind → ℕ → ℕ → List ℕ → Option (List Claimed)
claims_by Bad latches inputs text = claims_of latches inputs text
claims_by Justice latches inputs text = lassos_of latches inputs text

-- the text writes witnesses for the circuit: the places of the properties of a kind that each names, and its trace
abbrev pub AreWitnessesIn : Circuit → PropertyKind → List ℕ → List (List ℕ × Trace) → Type 0
AreWitnessesIn c kind text witnesses =
    claims_by kind (length c.latches.items) (length c.inputs.items) text ≡ Some (map (λ w. claim_by w.0 w.1) witnesses)

-- a witness of these names is one of the property at a place; one without names, as there may be of bad literals alone,
-- is one of each
abbrev pub names_place : List ℕ → ℕ → Bool
names_place names place = (length names == 0) || list_any (λ name. name == place) names

-- a witness of these names is one of the property that is asked for, if one is
abbrev pub names_asked : List ℕ → Option ℕ → Bool
names_asked names None = true
names_asked names (Some asked) = names_place names asked

-- the places of the properties that a witness of these names has to show: of those that it names, or of the first where
-- it names none; if one is asked for, of that one alone
abbrev pub claimed : List ℕ → Option ℕ → List ℕ
claimed names None = if length names == 0 then 0 ∷ [] else names
claimed names (Some asked) = if names_place names asked then asked ∷ [] else []

-- the trace leads back to one of its moments, and so is a lasso
abbrev pub IsLassoBy : Circuit → List Lit → List Lit → Trace → Type 0
IsLassoBy c fairness justice trace = (start : ℕ) × IsLasso c fairness justice (record { trace = trace; start = start })

-- by the trace the property of a kind at a place fails: it ends where the bad literal is true; or it is a lasso, and so a
-- run is one on which each literal of the justice property and each fairness constraint recurs
abbrev pub FailsAt : Problem → PropertyKind → Trace → ℕ → Type 0
FailsAt p Bad trace place =
    (bad : Lit) × (slice_get p.netlist.circuit.bads.items place ≡ Some bad) × FailsBy p.netlist.circuit bad trace
FailsAt p Justice trace place =
    (justice : Vec Lit Global) × (slice_get p.liveness.justice.items place ≡ Some justice)
    × IsLassoBy p.netlist.circuit p.liveness.fairness.items justice.items trace
    × FailsForever p.netlist.circuit p.liveness.fairness.items justice.items

-- a witness shows all that it has to
abbrev pub IsRight : Problem → PropertyKind → Option ℕ → List ℕ × Trace → Type 0
IsRight p kind asked w = Every (FailsAt p kind w.1) (claimed w.0 asked)

-- the text writes witnesses for the circuit, all of which are right, and of which one is one of what is asked for
abbrev pub Replays : Problem → PropertyKind → List ℕ → Option ℕ → Type 0
Replays p kind text asked =
    (witnesses : List (List ℕ × Trace)) × AreWitnessesIn p.netlist.circuit kind text witnesses
    × IsTrue (list_any (λ w. names_asked w.0 asked) witnesses) × Every (IsRight p kind asked) witnesses

-- the text writes n witnesses for the circuit, which are right whatever they name
abbrev pub ReplaysAll : Problem → PropertyKind → List ℕ → ℕ → Type 0
ReplaysAll p kind text n =
    (witnesses : List (List ℕ × Trace)) × AreWitnessesIn p.netlist.circuit kind text witnesses × (length witnesses ≡ n)
    × Every (IsRight p kind None) witnesses
