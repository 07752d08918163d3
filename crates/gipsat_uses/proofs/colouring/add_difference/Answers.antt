-- At most one of two literals is true.
use Rattle.std.proofs.lemmas.Result.{on_ok_weaker}
use Rattle.gipsat_cnf.proofs.Encodings.{Adds-same}
use Rattle.gipsat_uses.proofs.Colours.{at_most_one-differ}
use Rattle.gipsat_uses.proofs.colouring.add_difference.Goals as goal

pub returns : goal.returns
returns g c =
    on_ok_weaker c.add_at_most_one.result
    (Adds-same _ _ _ _ (λ a. at_most_one-differ a c.args.colours c.args.edge.0 c.args.edge.1 c.args.colour _ _ c.in_ok-first.ensures c.in_ok-second.ensures))
    c.add_at_most_one.ensures.means
