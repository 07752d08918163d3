-- What is found of each item of a list in turn.
use Rattle.std.proofs.Common.{◌≡◌, ℕ, ◌+◌, ◌<◌, ◌≤◌, List, [], ◌∷◌, ◌++◌, length, drop, get_or}
use Rattle.std.proofs.lemmas.List.{drop_all, drop_more}
use Rattle.std.proofs.Common.{Bool, refl}
use Rattle.std.specs.List.{list_any}
use Rattle.std.specs.Prelude.{map}
use Rattle.gipmc_aiger.specs.Lists.{Every}

-- those that are left have it if the first of them has, and those behind it
pub every_next : {X : Type 0} (P : X → Type 0) (xs : List X) (i : ℕ) (d : X) → i < length xs → P (get_or xs i d)
    → Every P (drop (i + 1) xs) → Every P (drop i xs)
every_next P xs i d less here others = rw (drop_more xs i d less) (here, others)

-- none is left at the end
pub every_last : {X : Type 0} (P : X → Type 0) (xs : List X) (n : ℕ) → length xs ≤ n → Every P (drop n xs)
every_last P xs n past = rw (drop_all n xs past) tt

-- those of two lists have it
pub every_append : {X : Type 0} (P : X → Type 0) (xs ys : List X) → Every P xs → Every P ys → Every P (xs ++ ys)
every_append P [] ys all more = more
every_append P (x ∷ xs) ys (here, rest) more = (here, every_append P xs ys rest more)

-- what a view of each has
pub every_view : {X Y : Type 0} (P : Y → Type 0) (view : X → Y) (xs : List X) → Every (λ x. P (view x)) xs
    → Every P (map view xs)
every_view P view [] all = tt
every_view P view (x ∷ xs) (here, others) = (here, every_view P view xs others)

pub map_view : {X Y Z : Type 0} (f : Y → Z) (view : X → Y) (xs : List X)
    → map f (map view xs) ≡ map (λ x. f (view x)) xs
map_view f view [] = refl
map_view f view (x ∷ xs) = rw (map_view f view xs) refl

pub any_view : {X Y : Type 0} (test : Y → Bool) (view : X → Y) (xs : List X)
    → list_any test (map view xs) ≡ list_any (λ x. test (view x)) xs
any_view test view [] = refl
any_view test view (x ∷ xs) = rw (any_view test view xs) refl
