-- Each colour was spoken of.
use Rattle.std.proofs.Common.{◌≡◌, arith}
use Rattle.std.proofs.lemmas.Grind.{common_steps}
use Rattle.gipsat_uses.proofs.colouring.add_edge.Goals as goal

pub returns : goal.returns
returns g c =
    let all : c.loop-colour.colour ≡ c.args.colours = grind (arith, common_steps) in
    rw all at c.loop-colour.invariant
