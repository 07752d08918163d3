-- A refusal is one of the text.
use Rattle.std.proofs.Common.{◌≡◌}
use Rattle.gipmc_aiger.specs.declared.error.AigerError.TheVariants.{Refused}
use Rattle.gipmc_aiger.proofs.Refusals.{refused_none}
use Rattle.gipmc_aiger.proofs.witness.read_witness.Goals as goal

pub returns-in-Err-clause-refused : goal.returns-in-Err-clause-refused
returns-in-Err-clause-refused c =
    λ place reason is.
    let same : c.error_at.result ≡ Refused place reason = let e = is in cc in
    refused_none c.in-Err.stop _ (c.error_at.ensures.refusal place reason same) c.in-Err.ensures
