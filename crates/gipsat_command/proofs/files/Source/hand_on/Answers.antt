-- The bytes that were read stood ahead.
use Rattle.std.proofs.Common.{◌≡◌, ◌-◌, arith, length}
use Rattle.std.proofs.lemmas.Grind.{common_steps}
use Rattle.gipsat_command.proofs.Sources.{handed_over}
use Rattle.gipsat_command.proofs.files.Source.hand_on.Goals as goal

pub returns-clause-bytes : goal.returns-clause-bytes
returns-clause-bytes g c =
    let old = c.args.self.now in
    let at : c.saturating_sub-self.result ≡ length old.ahead.items - length c.read.new.self.now = grind (arith, common_steps) in
    handed_over old.ahead.items c.read.new.buf _ _ old.handed _ c.in_ok-n.n c.left-left.ensures at c.in_ok-n.ensures.bytes
