-- The witnesses are those that were read.
use Rattle.std.proofs.Common.{◌≡◌, arith, length}
use Rattle.std.proofs.lemmas.Grind.{common_steps}
use Rattle.gipmc_task.proofs.Claimed.{are_witnesses}
use Rattle.gipmc_task.proofs.witnesses.claims_in.Goals as goal

pub returns-in-Ok : goal.returns-in-Ok
returns-in-Ok c =
    let latches : c.len-latches.result ≡ length c.args.circuit.now.latches.items = grind (arith, common_steps) in
    let inputs : c.len-inputs.result ≡ length c.args.circuit.now.inputs.items = grind (arith, common_steps) in
    are_witnesses c.args.circuit.now c.args.kind c.len-latches.result c.len-inputs.result c.args.text.now c.in-Ok.claims.items latches inputs
    c.in-Ok.ensures
