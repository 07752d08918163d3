-- Each verdict so far certifies.
use Rattle.std.proofs.Common.{◌≡◌, ℕ, ◌<◌, slice_get, Some}
use Rattle.gipmc_circuits.specs.declared.certificate.Verdict.TheVariants.{Certified}
use Rattle.gipmc_task.proofs.certificates.first_doubt.Given as goal

abbrev pub invariant-loop-further : goal.invariant-loop-further
invariant-loop-further l = (k : ℕ) → k < l.further → slice_get l.verdicts k ≡ Some Certified
