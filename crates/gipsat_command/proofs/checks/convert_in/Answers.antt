-- The outcome at status 0 is that the proof is verified, and there is no status but 0 and 1.
use Rattle.std.proofs.Common.{subst, sym, ◌∙◌}
use Rattle.gip_cli.specs.Statuses.{IsEndedStatus}
use Rattle.gipsat_command.proofs.Checked.{check-ended, verified-told}
use Rattle.gipsat_command.proofs.checks.convert_in.Goals as goal

pub returns-in-Ok-clause-verified : goal.returns-in-Ok-clause-verified
returns-in-Ok-clause-verified g c is =
    verified-told _ _ _ c.in-Ok.outcome (sym c.end_check.ensures ∙ is) c.in-Ok.ensures.has_form c.in-Ok.ensures.written

pub returns-in-Ok-clause-ends : goal.returns-in-Ok-clause-ends
returns-in-Ok-clause-ends g c = subst IsEndedStatus (sym c.end_check.ensures) (check-ended c.in-Ok.outcome)
