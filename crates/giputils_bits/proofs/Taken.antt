-- The items that a call has taken of a list.
use Rattle.std.proofs.Common.{◌≡◌, ◌<◌, List, [], ◌∷◌, length, take, Option, Some, None, refl, sym, ap, subst, ◌∙◌, arith}
use Rattle.std.specs.Iterator.{AlwaysYields, YieldsThen}

-- calls that gave xs and then another item gave the first items of the list, and not all
pub taken : {S A : Type 0} (steps : S → Option A → S → Type 0) (ys xs : List A) (s : S) (r : A) (u : S) → AlwaysYields steps (λ x. x) s ys
    → YieldsThen steps s xs (Some r) u → (xs ≡ take (length xs) ys) × (length xs < length ys)
taken steps [] [] s r u all run = absurd (all r u (subst (λ k. steps k (Some r) u) (sym run.1) run.2))
taken steps [] (x ∷ xs) s r u all run = absurd (all x run.1.0 run.1.1)
taken steps (y ∷ ys) [] s r u all run = (refl, omega arith)
taken steps (y ∷ ys) (x ∷ xs) s r u all run =
    let step = all.1 x run.1.0 run.1.1 in
    let rest : (xs ≡ take (length xs) ys) × (length xs < length ys) = taken steps ys xs run.1.0 r u step.1 (run.0, run.1.2, run.2) in
    (ap (λ z. z ∷ xs) step.0 ∙ ap (λ zs. y ∷ zs) rest.0, omega (arith, rest.1))

-- calls that gave xs and then none gave all items of the list
pub drained : {S A : Type 0} (steps : S → Option A → S → Type 0) (ys xs : List A) (s u : S) → AlwaysYields steps (λ x. x) s ys → YieldsThen steps s xs None u → xs ≡ ys
drained steps [] [] s u all run = refl
drained steps [] (x ∷ xs) s u all run = absurd (all x run.1.0 run.1.1)
drained steps (y ∷ ys) [] s u all run = absurd (all.0 u (subst (λ k. steps k None u) (sym run.1) run.2))
drained steps (y ∷ ys) (x ∷ xs) s u all run =
    let step = all.1 x run.1.0 run.1.1 in
    ap (λ z. z ∷ xs) step.0 ∙ ap (λ zs. y ∷ zs) (drained steps ys xs run.1.0 u step.1 (run.0, run.1.2, run.2))
