-- Claims that were read, as names and traces.
use Rattle.std.proofs.Common.{◌≡◌, ◌∙◌, ℕ, List, Option, Some, ap, length, sym}
use Rattle.std.specs.List.{list_any}
use Rattle.std.specs.Prelude.{map}
use Rattle.gipmc_aiger.specs.Claims.{Claimed, claims_view}
use Rattle.gipmc_aiger.specs.declared.claims.Claim.{Claim}
use Rattle.gipmc_circuits.specs.declared.circuit.Circuit.{Circuit}
use Rattle.gipmc_circuits.specs.declared.trace.Trace.{Trace}
use Rattle.gipmc_task.specs.Witnesses.{AreWitnessesIn, claims_by, names_asked}
use Rattle.gipmc_task.specs.declared.kind.PropertyKind.{PropertyKind}
use Rattle.gipmc_task.proofs.Claims.{claims_of_witnesses, witness_by}
use Rattle.gipmc_task.proofs.Each.{any_view}

-- claims that were read for so many latches and inputs as the circuit has
pub are_witnesses : (c : Circuit) (kind : PropertyKind) (latches inputs : ℕ) (text : List ℕ) (claims : List Claim)
    → latches ≡ length c.latches.items → inputs ≡ length c.inputs.items
    → claims_by kind latches inputs text ≡ Some (claims_view claims)
    → AreWitnessesIn c kind text (map witness_by claims)
are_witnesses c kind latches inputs text claims as_latches as_inputs read =
    sym (ap (λ n. claims_by kind n (length c.inputs.items) text) as_latches)
    ∙ (sym (ap (λ n. claims_by kind latches n text) as_inputs) ∙ (read
    ∙ ap (λ (cs : List Claimed). Some cs) (sym (claims_of_witnesses claims))))

-- one of them is one of what is asked for alike
pub asked_of_witnesses : (asked : Option ℕ) (claims : List Claim)
    → list_any (λ (w : List ℕ × Trace). names_asked w.0 asked) (map witness_by claims)
    ≡ list_any (λ (x : Claim). names_asked x.properties.items asked) claims
asked_of_witnesses asked claims = any_view (λ (w : List ℕ × Trace). names_asked w.0 asked) witness_by claims
