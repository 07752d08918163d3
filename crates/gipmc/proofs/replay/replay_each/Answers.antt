-- None of justice properties is doubted.
use Rattle.gipmc.proofs.replay.replay_each.Goals as goal

pub replay_beside-requires : goal.replay_beside-requires
replay_beside-requires c = rw c.in-None.is at c.in_ok-lassos.ensures
