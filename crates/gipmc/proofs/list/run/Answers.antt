-- An error ends with its status.
use Rattle.std.proofs.Common.{inr}
use Rattle.gipmc.proofs.list.run.Goals as goal

pub returns-in-Err : goal.returns-in-Err
returns-in-Err g c = inr c.refuse.ensures
