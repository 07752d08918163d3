-- The formula says the values of the gates and the given clauses.
use Rattle.gipmc_circuits.proofs.Implied.{implied_by}
use Rattle.gipmc_circuits.proofs.claims.are_implied_by.Goals as goal

pub returns-in-None : goal.returns-in-None
returns-in-None g c sure =
    implied_by c.args.circuit.now c.args.given.now c.args.rows.now _ _ _ c.requires c.in_ok-add_valuation.ensures.adds
    c.in_ok-add_invariant.ensures (rw (c.in-None.is) at c.in_ok-first_doubt.ensures)
