-- Cores from which literals are taken, the last one first.
use Rattle.std.proofs.Common.{◌≡◌, ℕ, zero, suc, ◌+◌, ◌<◌, ◌≤◌, List, [], ◌∷◌, length, inl, inr, arith, sym, subst, ⊎_elim}
use Rattle.std.specs.List.{remove}
use Rattle.std.proofs.lemmas.Bool.{cases_eq}
use Rattle.gipsat_cnf.specs.Prelude.{Formula, Has, IsCore, IsSatisfiableUnder, Lit}
use Rattle.gipsat_cnf.proofs.Cores.{IsSatisfiableUnder-among}
use Rattle.gipsat_uses.specs.MinimalCore.{NeedsFrom, IsNextCore}

-- one fewer
pub length-removed : (ls : List Lit) (p : ℕ) → p < length ls → length (remove ls p) + 1 ≡ length ls
length-removed [] p less = absurd (omega (arith, less))
length-removed (m ∷ ls) zero less = omega arith
length-removed (m ∷ ls) (suc p) less =
    let rest : length (remove ls p) + 1 ≡ length ls = length-removed ls p (omega (arith, less)) in omega (arith, rest)

-- what is left was there before
pub removed-among : (ls : List Lit) (p : ℕ) (l : Lit) → p < length ls → Has (remove ls p) l → Has ls l
removed-among [] p l less has = absurd (omega (arith, less))
removed-among (m ∷ ls) zero l less has = (suc has.0, has.1)
removed-among (m ∷ ls) (suc p) l less (zero, at) = (zero, at)
removed-among (m ∷ ls) (suc p) l less (suc j, at) =
    let there = removed-among ls p l (omega (arith, less)) (j, at) in (suc there.0, there.1)

-- what is left where two are taken out was left where the later one was
pub removed-later : (ls : List Lit) (p k : ℕ) (l : Lit) → p ≤ k → suc k < length ls → Has (remove (remove ls p) k) l → Has (remove ls (suc k)) l
removed-later [] p k l behind less has = absurd (omega (arith, less))
removed-later (m ∷ ls) zero k l behind less has = (suc has.0, has.1)
removed-later (m ∷ ls) (suc p) zero l behind less has = absurd (omega (arith, behind))
removed-later (m ∷ ls) (suc p) (suc k) l behind less (zero, at) = (zero, at)
removed-later (m ∷ ls) (suc p) (suc k) l behind less (suc j, at) =
    let there = removed-later ls p k l (omega (arith, behind)) (omega (arith, less)) (j, at) in (suc there.0, there.1)

-- the next core needs a literal more
pub next-needs : (f : Formula) (core next : List Lit) (p : ℕ) → p < length core → NeedsFrom f (p + 1) core → IsNextCore f core p next
    → NeedsFrom f p next
next-needs f core next p less needs (inl (same, sat)) k from below =
    subst (λ ls. IsSatisfiableUnder f (remove ls k)) (sym same)
    (⊎_elim (λ here. subst (λ j. IsSatisfiableUnder f (remove core j)) here sat)
    (λ other. needs k (omega (arith, from, other)) (subst (λ ls. k < length ls) same below)) (cases_eq p k))
next-needs f core next p less needs (inr (same, none)) k from below =
    let within : k < length (remove core p) = subst (λ ls. k < length ls) same below in
    let long = length-removed core p less in
    let more : suc k < length core = omega (arith, within, long) in
    subst (λ ls. IsSatisfiableUnder f (remove ls k)) (sym same)
    (IsSatisfiableUnder-among f (remove core (suc k)) (remove (remove core p) k) (λ l has. removed-later core p k l from more has)
    (needs (suc k) (omega (arith, from)) more))

-- the next core is one
pub next-core : (f : Formula) (assumed core next : List Lit) (p : ℕ) → p < length core → IsCore f assumed core → IsNextCore f core p next
    → IsCore f assumed next
next-core f assumed core next p less is (inl (same, sat)) = subst (IsCore f assumed) (sym same) is
next-core f assumed core next p less is (inr (same, none)) = record {
  among = λ l has. is.among l (removed-among core p l less (subst (λ ls. Has ls l) same has));
  refuted = none;
}

pub next-length : (f : Formula) (core next : List Lit) (p : ℕ) → p < length core → IsNextCore f core p next → p ≤ length next
next-length f core next p less (inl (same, sat)) = subst (λ ls. p ≤ length ls) (sym same) (omega (arith, less))
next-length f core next p less (inr (same, none)) =
    let long = length-removed core p less in subst (λ ls. p ≤ length ls) (sym same) (omega (arith, long, less))
