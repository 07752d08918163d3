-- Each literal so far is shown.
use Rattle.std.proofs.Common.{◌≡◌, ℕ, ◌<◌, slice_get, Some}
use Rattle.gipsat_cnf.specs.Literals.{Lit}
use Rattle.gipmc_task.specs.Certificates.{ShowsSafe}
use Rattle.gipmc_task.specs.declared.certificates.Certificate.TheVariants as certificate
use Rattle.gipmc_task.proofs.certificates.by_induction.Given as goal

abbrev pub invariant-loop-further : goal.invariant-loop-further
invariant-loop-further g l =
    (j : ℕ) (bad : Lit) → j < l.further → slice_get l.bads j ≡ Some bad
    → ShowsSafe l.netlist.circuit (certificate.Induction l.k l.clauses) bad
