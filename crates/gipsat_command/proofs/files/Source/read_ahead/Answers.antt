-- What the stream gave stands behind what was ahead.
use Rattle.std.proofs.lemmas.Result.{IfOk-weaker}
use Rattle.gipsat_command.proofs.Sources.{put_behind}
use Rattle.gipsat_command.proofs.files.Source.read_ahead.Goals as goal

pub returns : goal.returns
returns g c =
    IfOk-weaker c.push.result _ _
    (λ done more. put_behind _ _ _ _ _ _ _ c.in-Ok.ensures.bytes.0 c.in-Ok.ensures.ahead more c.push.ensures.stream)
    c.push.ensures.ahead
