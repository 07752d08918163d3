-- The run was lent the allocator that was made for it.
use Rattle.std.proofs.Common.{refl}
use Rattle.giputils_refusing.proofs.in_turn.make_run.Goals as goal

pub returns : goal.returns
returns g c =
    record {
      memory = c.refusing-memory.result;
      over = c.refusing-memory.ensures.inner;
      refuses = c.refusing-memory.ensures.refused;
      said = record { shown = _; shows = refl; says = record { met = c.run-served.ensures } };
    }
