-- Keys compared by rank and number: the held key that is at least each held one is the script's greatest.
use Rattle.std.proofs.Common.{◌≡◌, ℕ, Bool, true, false, ◌||◌, ◌==◌, cond, List, [], ◌∷◌, refl, ap, arith, Option, Some, None, eqb-true}
use Rattle.std.proofs.lemmas.Bool.{and_parts}
use Rattle.std.proofs.lemmas.Bool.Decides.{nat_tests}
use Rattle.std.specs.List.{list_all}
use Rattle.std.specs.Option.{option_map_or}
use Rattle.gip_lines.specs.Scripts.Replies.{is_held, goes_before, first_of, greatest}

-- of two keys of which each goes before the other there is one
goes_before-tie : (ranks : List ℕ) (x y : ℕ) → goes_before ranks x y ≡ true → goes_before ranks y x ≡ true → x ≡ y
goes_before-tie ranks x y xy yx = grind (arith, nat_tests)

-- what goes before two keys goes before the first of them
before_first_of : (ranks : List ℕ) (k x : ℕ) (best : Option ℕ) → goes_before ranks k x ≡ true → option_map_or (goes_before ranks k) best true ≡ true
    → goes_before ranks k (option_map_or (first_of ranks x) best x) ≡ true
before_first_of ranks k x None before all = before
before_first_of ranks k x (Some y) before all =
    elim (goes_before ranks x y) as (λ b. goes_before ranks k (cond b x y) ≡ true) [ true ↦ before | false ↦ all ]

-- what goes before each held key goes before the greatest
before_greatest : (ranks : List ℕ) (k : ℕ) (held : List ℕ) → list_all (goes_before ranks k) held ≡ true
    → option_map_or (goes_before ranks k) (greatest ranks held) true ≡ true
before_greatest ranks k [] all = refl
before_greatest ranks k (x ∷ held) all =
    let (here, others) = and_parts (goes_before ranks k x) (list_all (goes_before ranks k) held) all in
    before_first_of ranks k x (greatest ranks held) here (before_greatest ranks k held others)

-- a key that goes before the greatest of the others is the greatest with them
first_stays : (ranks : List ℕ) (k : ℕ) (best : Option ℕ) → option_map_or (goes_before ranks k) best true ≡ true
    → option_map_or (first_of ranks k) best k ≡ k
first_stays ranks k None all = refl
first_stays ranks k (Some y) all = rw all refl

-- and it stays so beside a key that it goes before
first_gives_way : (ranks : List ℕ) (k x : ℕ) → goes_before ranks k x ≡ true → first_of ranks x k ≡ k
first_gives_way ranks k x before =
    let by_case : (b : Bool) → goes_before ranks x k ≡ b → cond b x k ≡ k =
    elim [ true ↦ λ other. goes_before-tie ranks x k other before | false ↦ λ _. refl ]
    in
    by_case (goes_before ranks x k) refl

-- a held key that goes before each held key is the greatest
pub greatest-held : (ranks : List ℕ) (k : ℕ) (held : List ℕ) → is_held k held ≡ true → list_all (goes_before ranks k) held ≡ true
    → greatest ranks held ≡ Some k
greatest-held ranks k [] here all = cc
greatest-held ranks k (x ∷ held) here all =
    let (first, others) = and_parts (goes_before ranks k x) (list_all (goes_before ranks k) held) all in
    let by_case : (b : Bool) → (k == x) ≡ b → (b || is_held k held) ≡ true → greatest ranks (x ∷ held) ≡ Some k =
    λ b. elim b as (λ v. (k == x) ≡ v → (v || is_held k held) ≡ true → greatest ranks (x ∷ held) ≡ Some k) [
      | true ↦ λ e _.
          let same : k ≡ x = eqb-true k x e in
          rw (← same) (ap Some (first_stays ranks k (greatest ranks held) (before_greatest ranks k held others)))
      | false ↦ λ e found. rw (greatest-held ranks k held found others) (ap Some (first_gives_way ranks k x first))
    ] in
    by_case (k == x) refl here
