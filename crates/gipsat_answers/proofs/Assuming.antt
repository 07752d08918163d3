-- The literals of some clauses, in order.
use Rattle.std.proofs.Common.{◌≡◌, ◌<◌, ℕ, List, [], ◌∷◌, length, take, ◌++◌, ◌+◌, sym, ap, ◌∙◌, true, add-one}
use Rattle.std.specs.Prelude.{slice_get, Some}
use Rattle.std.proofs.lemmas.Grind.{flat_map-append}
use Rattle.std.proofs.lemmas.List.{append-nil, take_more}
use Rattle.std.proofs.lemmas.Option.{get_or_from_slice_get, slice_get_within}
use Rattle.gipsat_cnf.specs.Prelude.{Clause, Formula, Lit}
use Rattle.gipsat_answers.specs.Assumed.{first_variables, literals_of}

-- the literals of a clause more
pub literals_of-more : (f : Formula) (i : ℕ) (c : Clause) (so_far : List Lit) → so_far ≡ literals_of (take i f)
    → slice_get f i ≡ Some c → so_far ++ c ≡ literals_of (take (i + 1) f)
literals_of-more f i c so_far is at =
    let within : i < length f = slice_get_within f i c at in
    let next : take (i + 1) f ≡ take i f ++ c ∷ [] =
    take_more f i c within ∙ ap (λ x. take i f ++ x ∷ []) (get_or_from_slice_get f i c c at) in
    ap (λ xs. xs ++ c) is ∙ ap (λ xs. literals_of (take i f) ++ xs) (sym (append-nil c))
    ∙ sym (flat_map-append (λ clause. clause) (take i f) (c ∷ [])) ∙ ap literals_of (sym next)

-- a variable more
pub first_variables-more : (n : ℕ) (xs ys : List Lit) (l : Lit) → ys ≡ xs ++ l ∷ [] → xs ≡ first_variables n
    → l ≡ record { variable = n; positive = true } → ys ≡ first_variables (n + 1)
first_variables-more n xs ys l more so_far is =
    rw add-one (more ∙ ap (λ zs. zs ++ l ∷ []) so_far ∙ ap (λ m. first_variables n ++ m ∷ []) is)
