-- What is asked about is what the certificate is of.
use Rattle.std.proofs.Common.{IfOk, subst}
use Rattle.gipmc_task.specs.Certificates.{Certifies}
use Rattle.gipmc.proofs.certificates.certificate_text.Goals as goal

pub returns : goal.returns
returns c =
    subst (λ asked. IfOk c.certificate_of.result (λ text. Certifies c.args.problem.now text.items asked))
    c.asked_or-asked.ensures c.certificate_of.ensures
