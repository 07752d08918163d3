-- The text of an answer that a property fails is a witness that replays.
use Rattle.std.proofs.Common.{rules, ◌≡◌, ℕ, ◌<◌, ◌^◌, true, List, [], ◌∷◌, None, Some, Vec, length, refl}
use Rattle.std.specs.Prelude.{◌==◌, slice_get}
use Rattle.std.specs.declared.alloc.Global.{Global}
use Rattle.std.proofs.lemmas.Bool.{and_parts}
use Rattle.gipsat_cnf.specs.Literals.{Lit}
use Rattle.gipmc_aiger.proofs.WitnessRereads.{claims_reread, lassos_reread}
use Rattle.gipmc_aiger.specs.Traces.{witness_text}
use Rattle.gipmc_aiger.specs.declared.problem.Problem.{Problem}
use Rattle.gipmc_aiger.specs.declared.problem.Property.TheVariants as property
use Rattle.gipmc_circuits.specs.declared.circuit.Circuit.{Circuit}
use Rattle.gipmc_circuits.specs.Traces.{FailsBy, have_width}
use Rattle.gipmc_circuits.specs.declared.trace.Trace.{Trace}
use Rattle.gipmc_engines.specs.Verdicts.{NeverFailsWithin}
use Rattle.gipmc_task.specs.Answers.{AreClear, IsKnown, Tells, TellsAny}
use Rattle.gipmc_task.specs.Justice.Answers as justice
use Rattle.gipmc_task.specs.Verdicts.{answer_text, outcome_of}
use Rattle.gipmc_task.specs.Witnesses.{AreWitnessesIn, FailsAt, Replays, names_place}
use Rattle.gipmc_task.proofs.Depths.{depths-read_over}
use Rattle.gipmc_task.proofs.Widths.{every_row, same_of_test}
use Rattle.gipmc_task.specs.declared.answered.Answered.{Answered}
use Rattle.gipmc_task.specs.declared.kind.PropertyKind.{PropertyKind}
use Rattle.gipmc_task.specs.declared.kind.PropertyKind.TheVariants.{Bad, Justice}
use Rattle.gipmc_task.specs.declared.outcome.Outcome.TheVariants.{Fails}
use Rattle.gipmc_task.specs.declared.verdict.Verdict.{Verdict}
use Rattle.gipmc_task.specs.declared.verdict.Verdict.TheVariants as verdict

-- of one whose verdict says so: its text writes one witness, which names the place
witness_by : (c : Circuit) (place : ℕ) (bad : Lit) (a : Answered) (v : Verdict) → a.property ≡ property.Bad place
    → a.verdict ≡ v → place < 2 ^ 31 → AreClear c bad a.depths.items → outcome_of v ≡ Fails → IsKnown c bad v
    → (trace : Trace) × AreWitnessesIn c Bad (answer_text a) ((place ∷ [], trace) ∷ []) × FailsBy c bad trace
witness_by c place bad a (verdict.Fails trace) of says small clear outcome right =
    let (latches, rows) = and_parts (length trace.latches.items == length c.latches.items)
    (have_width (length c.inputs.items) trace.inputs.items) right.0 in
    let rereads = claims_reread (length c.latches.items) (length c.inputs.items) place trace small
    (same_of_test (length trace.latches.items) (length c.latches.items) latches)
    (every_row (length c.inputs.items) trace.inputs.items rows) in
    let over = depths-read_over (NeverFailsWithin c bad) a.depths.items (witness_text place trace) clear in
    (trace, rw (of, says, over) rereads, right)
witness_by c place bad a (verdict.Holds by) of says small clear outcome right = absurd cc
witness_by c place bad a (verdict.ClearTo n) of says small clear outcome right = absurd cc
witness_by c place bad a verdict.Unknown of says small clear outcome right = absurd cc

-- the text of one witness, which names the place, is a replay of what fails there
replays_one : (p : Problem) (kind : PropertyKind) (text : List ℕ) (place : ℕ) (trace : Trace)
    → AreWitnessesIn p.netlist.circuit kind text ((place ∷ [], trace) ∷ []) → FailsAt p kind trace place
    → Replays p kind text (Some place)
replays_one p kind text place trace are by =
    let named : names_place (place ∷ []) place ≡ true = search rules in
    ((place ∷ [], trace) ∷ [], are, rw named refl, (rw named (by, tt), tt))

told_witness : (p : Problem) (place : ℕ) (a : Answered) → Tells p.netlist.circuit place a
    → outcome_of a.verdict ≡ Fails
    → (trace : Trace) × AreWitnessesIn p.netlist.circuit Bad (answer_text a) ((place ∷ [], trace) ∷ [])
    × FailsAt p Bad trace place
told_witness p place a (of, small, (bad, here, right, clear)) fails =
    let (trace, are, by) = witness_by p.netlist.circuit place bad a a.verdict of refl small clear fails right in
    (trace, are, (bad, here, by))

-- of one on a bad literal
pub Replays-told : (p : Problem) (place : ℕ) (a : Answered) → Tells p.netlist.circuit place a
    → outcome_of a.verdict ≡ Fails → Replays p Bad (answer_text a) (Some place)
Replays-told p place a told fails =
    let (trace, are, by) = told_witness p place a told fails in
    replays_one p Bad (answer_text a) place trace are by

-- so is one in place of all, on whichever it is
pub Replays-any : (p : Problem) (a : Answered) → TellsAny p.netlist.circuit a → outcome_of a.verdict ≡ Fails
    → Replays p Bad (answer_text a) None
Replays-any p a ((place, told), safe) fails =
    let (trace, are, by) = told_witness p place a told fails in
    ((place ∷ [], trace) ∷ [], are, refl, ((by, tt), tt))

-- of one on a justice property whose verdict says so
replays_by : (p : Problem) (place : ℕ) (literals : Vec Lit Global) (a : Answered) (v : Verdict)
    → a.property ≡ property.Justice place → a.depths.items ≡ [] → a.verdict ≡ v
    → slice_get p.liveness.justice.items place ≡ Some literals → place < 2 ^ 31 → outcome_of v ≡ Fails
    → justice.IsKnown p.netlist.circuit p.liveness.fairness.items literals.items v
    → Replays p Justice (answer_text a) (Some place)
replays_by p place literals a (verdict.Fails trace) of told says here small outcome ((start, lasso), fails) =
    let c = p.netlist.circuit in
    let (latches, rows) = and_parts (length trace.latches.items == length c.latches.items)
    (have_width (length c.inputs.items) trace.inputs.items) lasso.0 in
    let rereads = lassos_reread (length c.latches.items) (length c.inputs.items) place trace small
    (same_of_test (length trace.latches.items) (length c.latches.items) latches)
    (every_row (length c.inputs.items) trace.inputs.items rows) in
    replays_one p Justice (answer_text a) place trace (rw (of, told, says) rereads) (literals, here, (start, lasso), fails)
replays_by p place literals a (verdict.Holds by) of told says here small outcome right = absurd cc
replays_by p place literals a (verdict.ClearTo n) of told says here small outcome right = absurd cc
replays_by p place literals a verdict.Unknown of told says here small outcome right = absurd cc

pub Replays-lasso : (p : Problem) (place : ℕ) (a : Answered) → justice.Tells p.netlist.circuit p.liveness place a
    → outcome_of a.verdict ≡ Fails → Replays p Justice (answer_text a) (Some place)
Replays-lasso p place a (of, small, told, (literals, here, right)) fails =
    replays_by p place literals a a.verdict of told refl here small fails right
