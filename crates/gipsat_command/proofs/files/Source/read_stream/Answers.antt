-- A stream that gave nothing has ended.
use Rattle.std.proofs.Common.{◌<◌, arith, length, refl}
use Rattle.std.proofs.lemmas.Grind.{common_steps}
use Rattle.gipsat_command.proofs.Sources.{ended}
use Rattle.gipsat_command.proofs.files.Source.read_stream.Goals as goal

pub returns-clause-bytes : goal.returns-clause-bytes
returns-clause-bytes g c =
    let (gave, last) = c.in-Ok.ensures.bytes in
    let room : 0 < length c.read.new.buf = grind (arith, common_steps) in
    rw c.if-self.false (ended _ _ _ gave (last (omega arith) room), λ none room. refl)
