-- A list ends with 0, and an error with its status.
use Rattle.std.proofs.Common.{inl, inr}
use Rattle.gipmc.proofs.list.list_in.Goals as goal

pub returns-in-Ok : goal.returns-in-Ok
returns-in-Ok c = inl cc

pub returns-in-Err : goal.returns-in-Err
returns-in-Err c = inr c.refuse.ensures
