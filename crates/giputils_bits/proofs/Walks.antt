-- A walk over the true places by `next_one`, from each of them on to the next.
use Rattle.std.proofs.Common.{◌≡◌, ℕ, zero, suc, ◌+◌, ◌-◌, ◌<◌, Bool, true, false, List, [], ◌∷◌, get_or, drop, drop-drop, refl, sym, ap, ◌∙◌, arith}
use Rattle.std.proofs.lemmas.Bool.{false≢true}
use Rattle.std.proofs.lemmas.List.{get_or-drop}
use Rattle.giputils_bits.specs.Ones.{true_places, HasNoneFrom, IsNextOne}

-- the first true place of a list
first_place : (bs : List Bool) (start k place : ℕ) → start + k ≡ place → get_or bs k false ≡ true
    → ((j : ℕ) → j < k → get_or bs j false ≡ false) → true_places start bs ≡ place ∷ true_places (place + 1) (drop (suc k) bs)
first_place [] start k place is holds least = absurd (false≢true holds)
first_place (true ∷ bs) start zero place is holds least = let same : start ≡ place = omega (arith, is) in ap (λ n. n ∷ true_places (n + 1) bs) same
first_place (true ∷ bs) start (suc k) place is holds least = absurd (false≢true (sym (least 0 (omega arith))))
first_place (false ∷ bs) start zero place is holds least = absurd (false≢true holds)
first_place (false ∷ bs) start (suc k) place is holds least =
    first_place bs (start + 1) k place (omega (arith, is)) holds (λ j before. least (suc j) (omega (arith, before)))

-- a list without one
without_place : (bs : List Bool) (start : ℕ) → ((k : ℕ) → get_or bs k false ≡ false) → true_places start bs ≡ []
without_place [] start none = refl
without_place (true ∷ bs) start none = absurd (false≢true (sym (none 0)))
without_place (false ∷ bs) start none = without_place bs (start + 1) (λ k. none (suc k))

-- of the true places from `start` on the next is the first, and those behind it follow
pub true_places-next : (bs : List Bool) (start place : ℕ) → IsNextOne bs start place
    → true_places start (drop start bs) ≡ place ∷ true_places (place + 1) (drop (place + 1) bs)
true_places-next bs start place next =
    let at : start + (place - start) ≡ place = omega (arith, next.past) in
    let behind : start + suc (place - start) ≡ place + 1 = omega (arith, next.past) in
    first_place (drop start bs) start (place - start) place at
    (get_or-drop start bs (place - start) false ∙ ap (λ n. get_or bs n false) at ∙ next.holds)
    (λ j before. get_or-drop start bs j false ∙ next.least (start + j) (omega arith) (omega (arith, before, next.past)))
    ∙ ap (λ cs. place ∷ true_places (place + 1) cs) (drop-drop (suc (place - start)) start bs ∙ ap (λ n. drop n bs) behind)

-- where none is from `start` on, no true place is left
pub true_places-none : (bs : List Bool) (start : ℕ) → HasNoneFrom bs start → true_places start (drop start bs) ≡ []
true_places-none bs start none = without_place (drop start bs) start (λ k. get_or-drop start bs k false ∙ none (start + k) (omega arith))
