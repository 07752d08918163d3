-- What makes an answer right.
use Rattle.std.proofs.Common.{◌≡◌, List, [], subst}
use Rattle.std.specs.Prelude.{slice_get, Some}
use Rattle.gipsat_cnf.specs.Prelude.{Formula, IsCore, IsSatisfiable, Lit}
use Rattle.gipsat_cnf.proofs.MakesTrue.{makes_true-each}
use Rattle.gipsat_cnf.proofs.Places.{none_some}

-- where nothing is assumed, a core says that nothing satisfies the formula
pub unsatisfied-core : (f : Formula) (assumed core : List Lit) → assumed ≡ [] → IsCore f assumed core → ¬ (IsSatisfiable f)
unsatisfied-core f assumed core none is = λ (a, sat).
    is.refuted
    (a, sat, makes_true-each a core (λ l has. let there = is.among l has in none_some l (subst (λ ls. slice_get ls there.0 ≡ Some l) none there.1)))
