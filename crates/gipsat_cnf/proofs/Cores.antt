-- Cores: what they refute.
use Rattle.std.proofs.Common.{List, IsTrue}
use Rattle.gipsat_cnf.specs.Prelude.{Assignment, Formula, Has, IsCore, IsSatisfiableUnder, Lit, makes_true, satisfies}
use Rattle.gipsat_cnf.proofs.MakesTrue.{makes_true-among, unsatisfied-under}

-- where there is a core, no model of the formula makes all assumptions true
pub core-refutes : (f : Formula) (assumed core : List Lit) → IsCore f assumed core
    → (a : Assignment) → IsTrue (satisfies a f) → ¬ (IsTrue (makes_true a assumed))
core-refutes f assumed core is a sat all = unsatisfied-under f assumed core is (a, sat, all)

-- a formula that has a model under assumptions has one under some of them
pub IsSatisfiableUnder-among : (f : Formula) (assumed some : List Lit) → ((l : Lit) → Has some l → Has assumed l)
    → IsSatisfiableUnder f assumed → IsSatisfiableUnder f some
IsSatisfiableUnder-among f assumed some among (a, sat, all) = (a, sat, makes_true-among a assumed some among all)

-- where no model makes all assumptions true, they are a core
pub IsCore-all : (f : Formula) (assumed : List Lit) → ¬ (IsSatisfiableUnder f assumed) → IsCore f assumed assumed
IsCore-all f assumed none = record { among = λ l has. has; refuted = none }
