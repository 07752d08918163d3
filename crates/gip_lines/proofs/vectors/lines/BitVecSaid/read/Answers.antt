use Rattle.gip_lines.proofs.BinaryTexts.{read_is_form}
use Rattle.gip_lines.proofs.vectors.lines.BitVecSaid.read.Goals as goal

pub returns-in-Ok : goal.returns-in-Ok
returns-in-Ok g c = read_is_form c.args.line.now c.in-Ok.said c.in-Ok.ensures.ok
