-- The status where a program tells of itself.
use Rattle.std.proofs.Common.{Ok, Err, inl, inr, refl}
use Rattle.std.specs.Prelude.{Result}
use Rattle.gip_cli.specs.Statuses.{IsEndedStatus, ended_status}

pub telling : {E : Type 0} (ended : Result Unit E) → IsEndedStatus (ended_status ended)
telling (Ok done) = inl refl
telling (Err error) = inr refl
