-- Certificates that are joined.
use Rattle.std.specs.Prelude.{⊤}
use Rattle.gipmc_aiger.specs.declared.problem.Problem.{Problem}
use Rattle.gipmc_aiger.specs.declared.problem.Subject.TheVariants.{All}
use Rattle.gipmc_task.specs.Certificates.{Certifies}
use Rattle.gipmc_task.specs.declared.join.JoinedCertificate.{JoinedCertificate}
use Rattle.gipmc_task.specs.declared.join.JoinedCertificate.TheVariants.{Certificate, Doubted}

-- if there is a text, it certifies all bad literals
abbrev pub IsJoined : Problem → JoinedCertificate → Type 0
IsJoined p (Certificate text) = Certifies p text.items All
IsJoined p (Doubted part doubt) = ⊤
