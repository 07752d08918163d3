-- What is added for each place is added for all.
use Rattle.std.proofs.Common.{◌≡◌, length, arith}
use Rattle.std.proofs.lemmas.Grind.{common_steps}
use Rattle.gipmc_circuits.specs.Prelude.{is_linked, values_at}
use Rattle.gipmc_circuits.proofs.Encoded.{Adds-each}
use Rattle.gipmc_circuits.proofs.witnessed.add_links.Goals as goal

pub returns : goal.returns
returns g c =
    let all : c.loop-place.place ≡ length c.args.links.now = grind (arith, common_steps) in
    Adds-each (λ a. is_linked (values_at c.args.from a) (values_at c.args.to a)) c.args.links.now _ _
    (rw all at c.loop-place.invariant)
