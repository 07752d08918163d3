-- Rows of what latches hold, one more at a time.
use Rattle.std.proofs.Common.{◌≡◌, ℕ, zero, suc, ◌+◌, ◌<◌, Bool, List, [], ◌∷◌, ◌++◌, Some, Vec, length}
use Rattle.std.proofs.Common.{arith, refl, sym, ap, subst, ◌∙◌}
use Rattle.std.specs.Prelude.{slice_get}
use Rattle.std.specs.declared.alloc.Global.{Global}
use Rattle.gipsat_cnf.specs.Formulas.{Assignment}
use Rattle.gipsat_cnf.proofs.Places.{same_some}
use Rattle.gipmc_circuits.proofs.Traces.{followed_by, followed_by-new, followed_by-old}
use Rattle.gipmc_circuits.specs.declared.circuit.Circuit.{Circuit}
use Rattle.gipmc_traces.specs.Rows.{AreHeld, held}

-- what is at a place of a list with one element more is an old one or the new one
snoc-cases : {X : Type 0} (P : Type 0) (xs : List X) (y x : X) (i : ℕ) → slice_get (xs ++ y ∷ []) i ≡ Some x
    → (i < length xs → slice_get xs i ≡ Some x → P) → (i ≡ length xs → y ≡ x → P) → P
snoc-cases P [] y x zero at old new = new refl (same_some y x at)
snoc-cases P [] y x (suc i) at old new = absurd cc
snoc-cases P (z ∷ xs) y x zero at old new = old (omega arith) at
snoc-cases P (z ∷ xs) y x (suc i) at old new =
    snoc-cases P xs y x i at (λ less is. old (omega (arith, less)) is) (λ last is. new (omega (arith, last)) is)

-- the row of the first moment
pub held-first : (c : Circuit) (a : Assignment) (rows : List (Vec Bool Global)) (row : Vec Bool Global)
    → rows ≡ row ∷ [] → row.items ≡ held c a → AreHeld c (λ i. a) rows
held-first c a rows row only is i other at =
    snoc-cases (other.items ≡ held c a) [] row other i (subst (λ rs. slice_get rs i ≡ Some other) only at)
    (λ less none. absurd (omega (arith, less)))
    (λ last same. subst (λ r. r.items ≡ held c a) same is)

-- the row of one more moment
pub held-more : (c : Circuit) (n : ℕ) (t : ℕ → Assignment) (b : Assignment)
    (rows more : List (Vec Bool Global)) (row : Vec Bool Global)
    → length rows ≡ n + 1 → AreHeld c t rows → more ≡ rows ++ row ∷ [] → row.items ≡ held c b
    → AreHeld c (followed_by b n t) more
held-more c n t b rows more row all are with_row is i other at =
    snoc-cases (other.items ≡ held c (followed_by b n t i)) rows row other i
    (subst (λ rs. slice_get rs i ≡ Some other) with_row at)
    (λ less here. are i other here ∙ ap (held c) (sym (followed_by-old b n t i (omega (arith, less, all)))))
    (λ last same.
    let next : i ≡ n + 1 = omega (arith, last, all) in
    subst (λ j. other.items ≡ held c (followed_by b n t j)) (sym next)
    (subst (λ r. r.items ≡ held c b) same is ∙ ap (held c) (sym (followed_by-new b n t))))
