-- Literals that refute a clause, and both values of a variable.
use Rattle.std.proofs.Common.{◌≡◌, ◌∷◌, ℕ, List, Some, IsTrue, ⊎_elim}
use Rattle.std.specs.Prelude.{slice_get}
use Rattle.std.proofs.lemmas.Bool.{and_from, cases_Bool}
use Rattle.gipsat_cnf.specs.Prelude.{Assignment, Clause, Formula, IsSatisfiableUnder, Lit, is_true, makes_true, negated, satisfies_clause}
use Rattle.gipsat_cnf.proofs.Formulas.{satisfies-at}
use Rattle.gipsat_cnf.proofs.LiteralLemmas.{beq_not, not_both, true_literal}
use Rattle.gipsat_cnf.proofs.MakesTrue.{makes_true-at}
use Rattle.gipsat_plain.specs.Refuted.{AreRefuted}

-- what makes the literals true does not satisfy a clause that they refute
pub unsatisfied : (a : Assignment) (literals : List Lit) (clause : Clause) → AreRefuted literals clause
    → IsTrue (makes_true a literals) → ¬ (IsTrue (satisfies_clause a clause))
unsatisfied a literals clause refuted all some =
    let found = true_literal a clause some in
    let there = refuted found.0 found.1 in
    not_both a found.0 found.2 (makes_true-at a literals there.0 (negated found.0) all there.1)

-- a formula with such a clause is not satisfied there
pub falsified : (f : Formula) (literals : List Lit) (k : ℕ) (clause : Clause) → slice_get f k ≡ Some clause
    → AreRefuted literals clause → ¬ (IsSatisfiableUnder f literals)
falsified f literals k clause at refuted (a, sat, all) = unsatisfied a literals clause refuted all (satisfies-at a f k clause sat at)

-- where neither a literal nor its negation may be true beside others, nothing makes these true
pub neither : (f : Formula) (literals : List Lit) (l : Lit) → ¬ (IsSatisfiableUnder f (l ∷ literals))
    → ¬ (IsSatisfiableUnder f (negated l ∷ literals)) → ¬ (IsSatisfiableUnder f literals)
neither f literals l first second (a, sat, all) =
    ⊎_elim (λ yes. first (a, sat, and_from (is_true a l) (makes_true a literals) yes all))
    (λ no. second (a, sat, and_from (is_true a (negated l)) (makes_true a literals) (beq_not (a l.variable) l.positive no) all))
    (cases_Bool (is_true a l))
