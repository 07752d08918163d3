use Rattle.gipsat_cnf.specs.Encodings.{Adds, AllBelow}
use Rattle.gipmc_circuits.specs.Prelude.{PassesAt, is_linked, values_at}
use Rattle.gipmc_circuits.proofs.witnessed.add_links.Given as goal

abbrev pub invariant-loop-place : goal.invariant-loop-place
invariant-loop-place g l =
    Adds (λ a. AllBelow l.place (PassesAt (is_linked (values_at l.from a) (values_at l.to a)) l.links))
    (g.S.ClauseSink.formula l.fn.solver) (g.S.ClauseSink.formula l.solver)
