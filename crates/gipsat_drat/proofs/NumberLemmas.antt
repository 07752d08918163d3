-- Formulas of variables that have other numbers: what their values say.
use Rattle.std.proofs.Common.{◌≡◌, ◌+◌, ◌++◌, ◌∷◌, ◌∙◌, ℕ, List, [], Some, take, sym, ap}
use Rattle.std.specs.Prelude.{◌&&◌, slice_get}
use Rattle.std.specs.List.{list_all}
use Rattle.std.proofs.lemmas.List.{take_more}
use Rattle.std.proofs.lemmas.List.Folds.{list_all-append}
use Rattle.std.proofs.lemmas.Option.{get_or_from_slice_get, slice_get_within}
use Rattle.gipsat_cnf.specs.Formulas.{Assignment, Clause, Formula, satisfies, satisfies_clause}

-- one element more
take_next : {A : Type 0} (xs : List A) (i : ℕ) (x : A) → slice_get xs i ≡ Some x → take (i + 1) xs ≡ take i xs ++ x ∷ []
take_next xs i x at =
    take_more xs i x (slice_get_within xs i x at) ∙ ap (λ y. take i xs ++ y ∷ []) (get_or_from_slice_get xs i x x at)

-- a clause more
pub satisfies-more : (b a : Assignment) (made f : Formula) (i : ℕ) (c d : Clause) → satisfies b made ≡ satisfies a (take i f)
    → slice_get f i ≡ Some d → satisfies_clause b c ≡ satisfies_clause a d
    → satisfies b (made ++ c ∷ []) ≡ satisfies a (take (i + 1) f)
satisfies-more b a made f i c d so_far at is =
    list_all-append (satisfies_clause b) made (c ∷ []) ∙ ap (λ x. x && list_all (satisfies_clause b) (c ∷ [])) so_far
    ∙ ap (λ x. satisfies a (take i f) && (x && list_all (satisfies_clause b) [])) is
    ∙ sym (list_all-append (satisfies_clause a) (take i f) (d ∷ [])) ∙ ap (satisfies a) (sym (take_next f i d at))
