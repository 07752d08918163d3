-- Claims that were read, as names and traces.
use Rattle.std.proofs.Common.{◌≡◌, ℕ, List}
use Rattle.std.specs.Prelude.{map}
use Rattle.gipmc_aiger.specs.Claims.{claim_by, claims_view}
use Rattle.gipmc_aiger.specs.declared.claims.Claim.{Claim}
use Rattle.gipmc_circuits.specs.declared.trace.Trace.{Trace}
use Rattle.gipmc_task.proofs.Each.{map_view}

-- the names and the trace of a claim
abbrev pub witness_by : Claim → List ℕ × Trace
witness_by x = (x.properties.items, x.trace)

-- they claim the same
pub claims_of_witnesses : (claims : List Claim)
    → map (λ (w : List ℕ × Trace). claim_by w.0 w.1) (map witness_by claims) ≡ claims_view claims
claims_of_witnesses claims = map_view (λ (w : List ℕ × Trace). claim_by w.0 w.1) witness_by claims
