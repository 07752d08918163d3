-- What is said by the certificate is said by the one that the text writes.
use Rattle.std.proofs.lemmas.Result.{IfOk-weaker}
use Rattle.gipsat_cnf.proofs.Places.{IfNone-more}
use Rattle.gipmc_task.proofs.certificates.safe_doubt.Goals as goal

pub returns : goal.returns
returns g c =
    IfOk-weaker c.certifies_asked.result _ _
    (λ doubt. IfNone-more doubt (λ is. (c.in_ok-certificate.certificate, c.in_ok-certificate.ensures, is))) c.certifies_asked.ensures
