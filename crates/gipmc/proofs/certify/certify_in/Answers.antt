-- The certificate is verified.
use Rattle.std.proofs.Common.{subst, sym, ◌∙◌}
use Rattle.gip_cli.specs.Statuses.{IsEndedStatus}
use Rattle.gipmc_task.specs.Certificates.{Certifies}
use Rattle.gipmc.specs.Asked.{WriteOne}
use Rattle.gipmc.proofs.Ended.{check_ended, verified_ended}
use Rattle.gipmc.proofs.certify.certify_in.Goals as goal

pub returns-clause-verified : goal.returns-clause-verified
returns-clause-verified c is =
    verified_ended (WriteOne c.args.bytes.now (λ p. Certifies p c.args.text.now c.args.options.now.subject))
    c.certify-ended.result c.certify-ended.ensures
    (sym c.end_check.ensures ∙ is)

pub returns-clause-ends : goal.returns-clause-ends
returns-clause-ends c = subst IsEndedStatus (sym c.end_check.ensures) (check_ended c.certify-ended.result)
