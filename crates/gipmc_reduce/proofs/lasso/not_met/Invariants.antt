-- Those so far, and those that are left.
use Rattle.std.proofs.Common.{◌≡◌, ◌++◌, drop, not}
use Rattle.std.specs.Prelude.{filter}
use Rattle.gipsat_cnf.specs.Prelude.{assignment_in, is_true}
use Rattle.gipmc_reduce.proofs.lasso.not_met.Given as goal

abbrev pub invariant-loop-l : goal.invariant-loop-l
invariant-loop-l l =
    filter (λ m. not (is_true (assignment_in l.values) m)) l.literals
    ≡ l.left.items ++ filter (λ m. not (is_true (assignment_in l.values) m)) (drop l.l-index l.literals)
