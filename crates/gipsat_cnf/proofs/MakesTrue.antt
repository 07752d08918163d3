-- What is assumed, and cores of it.
use Rattle.std.proofs.Common.{◌≡◌, ℕ, List, [], ◌∷◌, Bool, true, false, IsTrue, subst, suc, zero, refl, sym, ◌∙◌}
use Rattle.std.specs.Prelude.{slice_get, Some}
use Rattle.std.specs.Bool.{OnFalse, OnTrue}
use Rattle.std.proofs.lemmas.Bool.{false≢true, and_from, and_parts}
use Rattle.gipsat_cnf.specs.Prelude.{Assignment, Formula, Has, IsCore, IsModelUnder, IsSatisfiableUnder, Lit, assignment_in, is_true, makes_true, satisfies}
use Rattle.gipsat_cnf.proofs.Places.{none_some, same_some}

-- literals each of which is true, all at once
pub makes_true-each : (a : Assignment) (literals : List Lit) → ((l : Lit) → Has literals l → is_true a l ≡ true)
    → makes_true a literals ≡ true
makes_true-each a [] each = refl
makes_true-each a (l ∷ literals) each =
    and_from (is_true a l) (makes_true a literals) (each l (zero, refl)) (makes_true-each a literals (λ m has. each m (suc has.0, has.1)))

-- where all are true, the one at a place is
pub makes_true-at : (a : Assignment) (literals : List Lit) (k : ℕ) (l : Lit) → makes_true a literals ≡ true
    → slice_get literals k ≡ Some l
    → is_true a l ≡ true
makes_true-at a [] k l all at = none_some l at
makes_true-at a (m ∷ literals) zero l all at =
    subst (λ x. is_true a x ≡ true) (same_some m l at) (and_parts (is_true a m) (makes_true a literals) all).0
makes_true-at a (m ∷ literals) (suc k) l all at =
    makes_true-at a literals k l (and_parts (is_true a m) (makes_true a literals) all).1 at

-- what makes literals true makes those among them true
pub makes_true-among : (a : Assignment) (literals some : List Lit) → ((l : Lit) → Has some l → Has literals l)
    → makes_true a literals ≡ true
    → makes_true a some ≡ true
makes_true-among a literals some among all =
    makes_true-each a some (λ l has. let there = among l has in makes_true-at a literals there.0 l all there.1)

-- where there is a core, nothing satisfies the formula and makes all that is assumed true
pub unsatisfied-under : (f : Formula) (assumed core : List Lit) → IsCore f assumed core → IsSatisfiableUnder f assumed → ⊥
unsatisfied-under f assumed core is sat =
    is.refuted (sat.0, sat.1, makes_true-among sat.0 assumed core is.among sat.2)

-- a test for a model under assumptions, once the formula is satisfied
pub IsModelUnder-if : (f : Formula) (assumed : List Lit) (values : List Bool) (b : Bool) → IsTrue (satisfies (assignment_in values) f)
    → b ≡ makes_true (assignment_in values) assumed → OnTrue b (IsModelUnder f assumed values)
IsModelUnder-if f assumed values true sat is = (sat, sym is)
IsModelUnder-if f assumed values false sat is = tt

pub IsModelUnder-unless : (f : Formula) (assumed : List Lit) (values : List Bool) (b : Bool)
    → b ≡ makes_true (assignment_in values) assumed → OnFalse b (¬ (IsModelUnder f assumed values))
IsModelUnder-unless f assumed values true is = tt
IsModelUnder-unless f assumed values false is = λ model. false≢true (is ∙ model.1)
