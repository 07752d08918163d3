-- What is added for each place is added for all.
use Rattle.std.proofs.Common.{◌≡◌, length, arith}
use Rattle.std.proofs.lemmas.Grind.{common_steps}
use Rattle.gipsat_cnf.specs.Formulas.{satisfies_clause}
use Rattle.gipmc_circuits.proofs.Encoded.{Adds-each}
use Rattle.gipmc_circuits.proofs.certificate.add_invariant.Goals as goal

pub returns : goal.returns
returns g c =
    let all : c.loop-place.place ≡ length c.args.invariant.now = grind (arith, common_steps) in
    Adds-each (λ a. λ x. satisfies_clause a x.items) c.args.invariant.now _ _ (rw all at c.loop-place.invariant)
