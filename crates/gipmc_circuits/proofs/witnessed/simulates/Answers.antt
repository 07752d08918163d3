-- A certificate that begins and goes on simulates the circuit.
use Rattle.std.proofs.lemmas.Result.{IfOk-weaker}
use Rattle.gipmc_circuits.proofs.Simulated.{simulated}
use Rattle.gipmc_circuits.proofs.witnessed.simulates.Goals as goal

pub returns : goal.returns
returns c =
    IfOk-weaker c.goes_on.result _ _
    (λ does later is.
    let (order, permuted, first) = c.in_ok-begins.ensures c.if-not-branch.false in
    simulated c.args.circuit.now c.args.certificate.now order permuted first (later is))
    c.goes_on.ensures
