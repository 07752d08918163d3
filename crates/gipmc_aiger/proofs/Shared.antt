-- Links of variables at the same places of two lists, place by place.
use Rattle.std.proofs.Common.{◌≡◌, ℕ, ◌+◌, ◌<◌, ◌++◌, min, List, [], ◌∷◌, length, map, take, get_or, append_assoc, sym, ap, ◌∙◌, arith}
use Rattle.std.specs.List.{zip}
use Rattle.std.proofs.Math.Seq.{take-length}
use Rattle.std.proofs.lemmas.List.{map-append, take_more}
use Rattle.std.proofs.lemmas.Slice.Zip.{get_or-zip, length-zip}
use Rattle.gipmc_circuits.specs.declared.witness_circuit.Link.{Link}
use Rattle.gipmc_aiger.specs.Sharing.{linked, links_by_place}

-- one place more
pub links_by_place-more : (own others : List ℕ) (front links : List Link) (i x y : ℕ) → i < length own → i < length others
    → get_or own i 0 ≡ x → get_or others i 0 ≡ y → links ≡ front ++ map linked (take i (zip own others))
    → links ++ linked (x, y) ∷ [] ≡ front ++ map linked (take (i + 1) (zip own others))
links_by_place-more own others front links i x y first second reads also so_far =
    let pairs = zip own others in
    let within : i < length pairs = omega (arith, length-zip own others) in
    let more : take (i + 1) pairs ≡ take i pairs ++ (x, y) ∷ [] =
    take_more pairs i (0, 0) within
    ∙ ap (λ p. take i pairs ++ p ∷ []) (get_or-zip own others i (0, 0) first second ∙ ap (λ v. (v, get_or others i 0)) reads
    ∙ ap (λ w. (x, w)) also) in
    ap (λ ls. ls ++ linked (x, y) ∷ []) so_far ∙ append_assoc front (map linked (take i pairs)) (linked (x, y) ∷ [])
    ∙ ap (λ ls. front ++ ls) (sym (map-append linked (take i pairs) ((x, y) ∷ [])) ∙ ap (map linked) (sym more))

-- all places
pub links_by_place-all : (own others : List ℕ) (front links : List Link) (i : ℕ) → i ≡ min (length own) (length others)
    → links ≡ front ++ map linked (take i (zip own others)) → links ≡ front ++ links_by_place own others
links_by_place-all own others front links i end so_far =
    let all : i ≡ length (zip own others) = end ∙ sym (length-zip own others) in
    so_far ∙ ap (λ ps. front ++ map linked ps)
    (ap (λ n. take n (zip own others)) all ∙ take-length (zip own others))
