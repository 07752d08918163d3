use Rattle.std.proofs.Common.{◌≡◌, ◌<◌, length, get_or, true, false, arith}
use Rattle.std.proofs.lemmas.Grind.{common_steps}
use Rattle.std.proofs.lemmas.List.{length-set}
use Rattle.gipsat_cnf.proofs.Counting.{number-set_false, number-set_true, twice_power}
use Rattle.gipsat_cnf.proofs.enumerate.advance.Goals as goal

pub returns-then-not-index-clause-next : goal.returns-then-not-index-clause-next
returns-then-not-index-clause-next c =
    let values = c.loop-place.values.items in
    let within : c.loop-place.place < length c.loop-place.values.items = grind (arith, common_steps) in
    let off : get_or c.loop-place.values.items c.loop-place.place false ≡ false = grind (arith, common_steps) in
    omega (arith, number-set_true values c.loop-place.place within off, c.loop-place.invariant.carried)

pub loop-place-preserved : goal.loop-place-preserved
loop-place-preserved c =
    let values = c.loop-place.values.items in
    let on : get_or c.loop-place.values.items c.loop-place.place false ≡ true = grind (arith, common_steps) in
    record {
      len = omega (arith, length-set values c.loop-place.place false, c.loop-place.invariant.len);
      carried = omega (arith, number-set_false values c.loop-place.place on, twice_power c.loop-place.place, c.loop-place.invariant.carried);
    }
