-- A defect is one of the rows.
use Rattle.gipmc_aiger.specs.Circuits.{rows_of}
use Rattle.gipmc_aiger.proofs.circuits.ordered.Goals as goal

pub returns-in-Err-clause-defect : goal.returns-in-Err-clause-defect
returns-in-Err-clause-defect c = c.error.ensures (rows_of c.args.circuit) c.in-Err.ensures.defect
