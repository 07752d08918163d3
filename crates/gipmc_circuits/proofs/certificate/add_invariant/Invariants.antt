use Rattle.gipsat_cnf.specs.Prelude.{Adds, AllBelow, satisfies_clause}
use Rattle.gipmc_circuits.specs.Encoding.{PassesAt}
use Rattle.gipmc_circuits.proofs.certificate.add_invariant.Given as goal

abbrev pub invariant-loop-place : goal.invariant-loop-place
invariant-loop-place g l =
    Adds (λ a. AllBelow l.place (PassesAt (λ c. satisfies_clause a c.items) l.invariant')) (g.S.ClauseSink.formula l.fn.solver) (g.S.ClauseSink.formula l.solver)
