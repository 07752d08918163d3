-- All was written, or not.
use Rattle.std.proofs.Common.{subst, sym}
use Rattle.gip_cli.specs.Statuses.{IsEndedStatus}
use Rattle.gip_cli.proofs.Telling.{telling}
use Rattle.gip_cli.proofs.endings.tell.Goals as goal

pub returns : goal.returns
returns c = subst IsEndedStatus (sym c.end.ensures) (telling c.write.result)
