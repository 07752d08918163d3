-- A group more.
use Rattle.std.proofs.Common.{arith, refl}
use Rattle.std.proofs.lemmas.Grind.{common_steps}
use Rattle.giputils_text.proofs.GroupLemmas.{groups_pushed}
use Rattle.giputils_text.proofs.groups.write_groups.Goals as goal

pub loop-number-init : goal.loop-number-init
loop-number-init g c = let small = c.requires.small in (4, omega arith, refl)

pub loop-number-preserved : goal.loop-number-preserved
loop-number-preserved g c =
    let (more, fits, so_far) = c.loop-number.invariant in
    let great = c.loop-number-test.true in
    groups_pushed _ _ c.push.new.self.items more c.loop-number.number (omega arith) fits so_far (grind (arith, common_steps))
