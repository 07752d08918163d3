-- The certificate simulates the circuit, and its claims are an invariant of both.
use Rattle.gipmc_circuits.proofs.Together.{safe_by_certificate}
use Rattle.gipmc_circuits.proofs.witnessed.certify_by.Goals as goal

pub returns-clause-certified : goal.returns-clause-certified
returns-clause-certified g c sure = record {
  simulates = c.in_ok-simulates.ensures c.if-not-branch.false;
  initiated = c.in_ok-verdict.ensures.initiated sure;
  inductive = c.in_ok-verdict.ensures.inductive sure;
  excluded = c.in_ok-verdict.ensures.excluded sure;
}

pub returns-clause-safe : goal.returns-clause-safe
returns-clause-safe g c sure =
    safe_by_certificate c.args.netlist.now.circuit c.args.certificate.now c.args.bad (record {
      simulates = c.in_ok-simulates.ensures c.if-not-branch.false;
      initiated = c.in_ok-verdict.ensures.initiated sure;
      inductive = c.in_ok-verdict.ensures.inductive sure;
      excluded = c.in_ok-verdict.ensures.excluded sure;
    })
