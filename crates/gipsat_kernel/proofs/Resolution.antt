-- Resolution: what follows of clauses that follow.
use Rattle.std.proofs.Common.{◌≡◌, List, ◌++◌, subst, ⊎_elim, Bool, true}
use Rattle.gipsat_cnf.specs.Prelude.{AreHadBy, Clause, Formula, Implies, Lit, is_true, negated}
use Rattle.gipsat_kernel.specs.Marks.{AreListed, AreMarked, AreMarkedBut, Grows, ImpliesMarked, KeepsMarksBut}
use Rattle.gipsat_cnf.proofs.Formulas.{satisfies-first}
use Rattle.gipsat_cnf.proofs.LiteralLemmas.{cases_literal, not_both, satisfied_by, true_literal}

-- a clause that has the literals of one that follows, and maybe more
pub Implies-had : (f : Formula) (c d : Clause) → AreHadBy d c → Implies f c → Implies f d
Implies-had f c d had implied = record {
  follows = λ a sat.
      let found = true_literal a c (implied.follows a sat) in
      let has = had found.0 found.1 in
      satisfied_by a d has.0 found.0 has.1 found.2;
}

-- a formula with more clauses
pub Implies-more : (f g : Formula) (c : Clause) → Implies f c → Implies (f ++ g) c
Implies-more f g c implied = record { follows = λ a sat. implied.follows a (satisfies-first a f g sat) }

-- a clause that follows is marked
pub ImpliesMarked-clause : (f : Formula) (flags : List Bool) (c : Clause) → Implies f c → AreMarked c flags → ImpliesMarked f flags
ImpliesMarked-clause f flags c implied marked = record {
  follows = λ a sat. let found = true_literal a c (implied.follows a sat) in (found.0, marked found.0 found.1, found.2);
}

-- a clause without the pivot in the place of the pivot's negation
pub ImpliesMarked-resolved : (f : Formula) (old mid new : List Bool) (pivot : Lit) (c : Clause) → Implies f c
    → KeepsMarksBut (negated pivot) old mid → Grows mid new → AreMarkedBut pivot c new → ImpliesMarked f old → ImpliesMarked f new
ImpliesMarked-resolved f old mid new pivot c implied stay grows come follows = record {
  follows = λ a sat.
      let found = follows.follows a sat in
      ⊎_elim
      (λ is_opposite.
      let other = true_literal a c (implied.follows a sat) in
      let opposite_true : is_true a (negated pivot) ≡ true = subst (λ l. is_true a l ≡ true) is_opposite found.2 in
      (other.0, come other.0 other.1 (λ same. not_both a pivot (subst (λ l. is_true a l ≡ true) same other.2) opposite_true), other.2))
      (λ others. (found.0, grows found.0 (stay found.0 others found.1), found.2))
      (cases_literal found.0 (negated pivot));
}

-- the clause of the marked literals
pub Implies-taken : (f : Formula) (flags : List Bool) (c : Clause) → AreListed flags c → ImpliesMarked f flags → Implies f c
Implies-taken f flags c listed follows = record {
  follows = λ a sat.
      let found = follows.follows a sat in
      let has = listed found.0 found.1 in
      satisfied_by a c has.0 found.0 has.1 found.2;
}
