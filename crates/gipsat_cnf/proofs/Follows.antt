-- Clauses that follow from a formula: those whose negation it refutes.
use Rattle.std.proofs.Common.{◌≡◌, ◌↔◌, ◌&&◌, ◌||◌, List, [], ◌∷◌, map, Bool, true, false, not, refl, sym, ap, ◌∙◌, ⊎_elim}
use Rattle.std.proofs.lemmas.Bool.{cases_Bool, false≢true}
use Rattle.gipsat_cnf.specs.Prelude.{Assignment, Clause, Formula, Implies, IsCore, IsModelUnder, IsSatisfiableUnder, Lit, assignment_in, is_true, makes_true, negated, satisfies_clause}
use Rattle.gipsat_cnf.proofs.LiteralLemmas.{is_true-negated}
use Rattle.gipsat_cnf.proofs.MakesTrue.{unsatisfied-under}

neither : (x y : Bool) → (not x && not y) ≡ not (x || y)
neither true y = refl
neither false y = refl

-- the negations of a clause's literals are true exactly if it is not satisfied
pub makes_true-negations : (a : Assignment) (c : Clause) → makes_true a (map negated c) ≡ not (satisfies_clause a c)
makes_true-negations a [] = refl
makes_true-negations a (l ∷ c) =
    ap (λ b. b && makes_true a (map negated c)) (is_true-negated a l)
    ∙ ap (λ b. not (is_true a l) && b) (makes_true-negations a c)
    ∙ neither (is_true a l) (satisfies_clause a c)

-- a clause follows exactly if the formula has no model that makes its literals false
pub Implies-refuted : (f : Formula) (c : Clause) → Implies f c ↔ ¬ (IsSatisfiableUnder f (map negated c))
Implies-refuted f c = (
  λ implied (a, sat, all).
      false≢true (sym (ap not (implied.follows a sat)) ∙ sym (makes_true-negations a c) ∙ all),
  λ refuted. record {
    follows = λ a sat. ⊎_elim (λ yes_it_is. yes_it_is)
        (λ it_is_not. absurd (refuted (a, sat, makes_true-negations a c ∙ ap not it_is_not)))
        (cases_Bool (satisfies_clause a c));
  },
)

-- a core of the negations of its literals shows that a clause follows
pub Implies-core : (f : Formula) (c : Clause) (core : List Lit) → IsCore f (map negated c) core → Implies f c
Implies-core f c core is = (Implies-refuted f c).1 (unsatisfied-under f (map negated c) core is)

-- a model that makes the negations true shows that it does not
pub Implies-unless : (f : Formula) (c : Clause) (model : List Bool) → IsModelUnder f (map negated c) model → ¬ (Implies f c)
Implies-unless f c model (sat, all) implied = (Implies-refuted f c).0 implied (assignment_in model, sat, all)
