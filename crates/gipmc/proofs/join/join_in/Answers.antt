-- What the parts show is verified.
use Rattle.std.proofs.Common.{subst, sym, ◌∙◌}
use Rattle.gip_cli.specs.Statuses.{IsEndedStatus}
use Rattle.gipmc.specs.Asked.{IsShownSafe, WriteOne}
use Rattle.gipmc.proofs.Ended.{check_ended, verified_ended}
use Rattle.gipmc.proofs.join.join_in.Goals as goal

pub returns-clause-verified : goal.returns-clause-verified
returns-clause-verified g c is =
    verified_ended (WriteOne c.args.bytes.now IsShownSafe) c.join-ended.result c.join-ended.ensures
    (sym c.end_check.ensures ∙ is)

pub returns-clause-ends : goal.returns-clause-ends
returns-clause-ends g c = subst IsEndedStatus (sym c.end_check.ensures) (check_ended c.join-ended.result)
