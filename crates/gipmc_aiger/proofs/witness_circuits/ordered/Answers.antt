-- A defect is one of the rows.
use Rattle.gipmc_aiger.specs.Circuits.{rows_of}
use Rattle.gipmc_aiger.proofs.witness_circuits.ordered.Goals as goal

pub returns-in-Err-clause-error : goal.returns-in-Err-clause-error
returns-in-Err-clause-error c = c.error.ensures (rows_of c.args.circuit) c.in-Err.ensures.defect
