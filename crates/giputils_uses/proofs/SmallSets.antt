-- Sets as lists of truth values, place by place.
use Rattle.std.proofs.Common.{◌≡◌, ◌↔◌, ℕ, ◌<◌, ◌||◌, ◌&&◌, Bool, true, false, List, length, set, refl, sym, ⊎_elim}
use Rattle.giputils.specs.Logic.{and_of, or_of, not_of}
use Rattle.giputils.specs.Ones.{true_count, true_places}
use Rattle.giputils.proofs.Logic.{length-zip_with, get_or-zip_with_all}
use Rattle.giputils.proofs.Sets as sets
use Rattle.giputils.proofs.Sets.{get_or-without, length-without}
use Rattle.giputils.proofs.TruePlaces.{length-true_places}
use Rattle.giputils_uses.proofs.Written.{get_or-set_cases}
use Rattle.giputils_uses.specs.SmallSet.{Inserts, Removes, IsUnion, IsIntersection, IsDifference, IsWithin}

pub inserted : (n : ℕ) (bs : List Bool) → n < length bs → Inserts n bs (set bs n true)
inserted n bs inside q = ⊎_elim (λ is. rw is.0 is.2) (λ is_not. rw is_not.0 is_not.2) (get_or-set_cases bs n true false inside q)

pub removed : (n : ℕ) (bs : List Bool) → n < length bs → Removes n bs (set bs n false)
removed n bs inside q = ⊎_elim (λ is. rw is.0 is.2) (λ is_not. rw is_not.0 is_not.2) (get_or-set_cases bs n false false inside q)

pub joined : (xs ys : List Bool) → length xs ≡ length ys → IsUnion xs ys (or_of xs ys)
joined xs ys long q = get_or-zip_with_all ◌||◌ xs ys q refl long

pub met : (xs ys : List Bool) → length xs ≡ length ys → IsIntersection xs ys (and_of xs ys)
met xs ys long q = get_or-zip_with_all ◌&&◌ xs ys q refl long

pub taken : (xs ys : List Bool) → length xs ≡ length ys → IsDifference xs ys (and_of xs (not_of ys))
taken xs ys long q = get_or-without xs ys q long

pub within : (xs ys : List Bool) → length xs ≡ length ys → (and_of xs ys ≡ xs) ↔ IsWithin xs ys
within = sets.within

pub counted : (bs : List Bool) → true_count bs ≡ length (true_places 0 bs)
counted bs = sym (length-true_places 0 bs)

-- what two sets of one bound have together, either alone or in common is as long
pub ruleset as_long = (length-zip_with, length-without)
