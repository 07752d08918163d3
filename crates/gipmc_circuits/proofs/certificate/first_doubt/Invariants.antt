use Rattle.std.proofs.Common.{◌≡◌}
use Rattle.gipsat_cnf.specs.Encodings.{AllBelow}
use Rattle.gipmc_circuits.specs.Certificate.{ImpliesItem}
use Rattle.gipmc_circuits.proofs.certificate.first_doubt.Given as goal

abbrev pub invariant-loop-place : goal.invariant-loop-place
invariant-loop-place g l =
    (g.S.ClauseSink.formula l.solver ≡ g.S.ClauseSink.formula l.fn.solver) × AllBelow l.place (ImpliesItem l.offset (g.S.ClauseSink.formula l.fn.solver) l.invariant')
