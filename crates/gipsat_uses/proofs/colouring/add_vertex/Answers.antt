-- One of its literals is true.
use Rattle.std.proofs.lemmas.Result.{on_ok_weaker}
use Rattle.gipsat_cnf.proofs.Encodings.{Adds-same}
use Rattle.gipsat_uses.proofs.Colours.{at_least_one-coloured}
use Rattle.gipsat_uses.proofs.colouring.add_vertex.Goals as goal

pub returns : goal.returns
returns g c =
    on_ok_weaker c.add_at_least_one.result
    (Adds-same _ _ _ _ (λ a. at_least_one-coloured a c.args.colours c.args.vertex c.in_ok-literals.literals.items c.in_ok-literals.ensures.len c.in_ok-literals.ensures.each))
    (rw c.deref.ensures.value at c.add_at_least_one.ensures.means)
