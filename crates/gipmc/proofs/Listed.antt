-- The rows of a list.
use Rattle.std.proofs.Common.{◌≡◌, List, [], ◌∷◌, ◌++◌, ap, map, refl}
use Rattle.gipmc.specs.declared.list.Listing.{Listing}

-- one row more
pub one_more : (rows : List Listing) (row : Listing)
    → map (λ r. r.property) (rows ++ row ∷ []) ≡ map (λ r. r.property) rows ++ row.property ∷ []
one_more [] row = refl
one_more (first ∷ rows) row = ap (λ rest. first.property ∷ rest) (one_more rows row)
