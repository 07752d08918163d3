-- What was written of one text after another.
use Rattle.std.proofs.Common.{◌≡◌, ◌∙◌, ℕ, List, [], ◌∷◌, ◌++◌, None, Some, IsTrue, ap, append-nil, refl, subst, sym}
use Rattle.std.specs.List.{flat_map}
use Rattle.std.specs.Prelude.{Option, IsSome, is_some}
use Rattle.std.proofs.lemmas.List.Concat.{flat_map-append}
use Rattle.std.proofs.KnownBytes.{Appends-nil, Appends-trans, Keeps-refl, Keeps-trans}
use Rattle.gipmc_task.specs.Output.{IsWritten}

-- nothing was
pub IsWritten-none : {E : Type 0} (failed : Option E) (old : Option (List ℕ)) → IsWritten failed failed old old []
IsWritten-none failed old = ((λ none. (none, Appends-nil old)), (λ some. Keeps-refl old))

-- nothing was behind a write that failed
pub IsWritten-lost : {E : Type 0} (failed : Option E) (old : Option (List ℕ)) (text : List ℕ)
    → IsTrue (is_some failed) → IsWritten failed failed old old text
IsWritten-lost None old text some = absurd cc
IsWritten-lost (Some error) old text some = ((λ none. absurd cc), (λ is. Keeps-refl old))

-- where a write had failed before, one has failed
still_failed : {E A : Type 0} (one two : Option E) → IsSome one → (two ≡ None → (one ≡ None) × A) → IsSome two
still_failed one None some back = subst (λ o. IsSome o) (back refl).0 some
still_failed one (Some error) some back = refl

pub IsWritten-more : {E : Type 0} (one two three : Option E) (old mid new : Option (List ℕ)) (before last : List ℕ)
    → IsWritten one two old mid before → IsWritten two three mid new last → IsWritten one three old new (before ++ last)
IsWritten-more one two three old mid new before last written more = (
  (λ is.
      let (then, grown) = more.0 is in
      let (first, grew) = written.0 then in
      (first, Appends-trans old mid new before last grew grown)),
  (λ some. Keeps-trans old mid new (written.1 some) (more.1 (still_failed one two some written.0))),
)

-- the text of one item more was
pub IsWritten-push : {E X : Type 0} (f : X → List ℕ) (one two three : Option E) (old mid new : Option (List ℕ)) (xs : List X) (x : X)
    → IsWritten one two old mid (flat_map f xs) → IsWritten two three mid new (f x)
    → IsWritten one three old new (flat_map f (xs ++ x ∷ []))
IsWritten-push f one two three old mid new xs x written more =
    subst (λ t. IsWritten one three old new t)
    (sym (flat_map-append f xs (x ∷ []) ∙ ap (λ t. flat_map f xs ++ t) (append-nil (f x))))
    (IsWritten-more one two three old mid new (flat_map f xs) (f x) written more)
