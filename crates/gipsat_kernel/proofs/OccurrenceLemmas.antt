-- Ids that are noted for literals.
use Rattle.std.proofs.Common.{◌≡◌, ℕ, ◌+◌, ◌<◌, ◌≤◌, List, [], ◌∷◌, ◌++◌, length, Some, sym, subst, arith, ⊎_elim}
use Rattle.std.specs.Prelude.{slice_get}
use Rattle.std.proofs.lemmas.Bool.{cases_lt}
use Rattle.std.proofs.lemmas.Option.{slice_get_within}
use Rattle.gipsat_cnf.specs.Prelude.{Clause, Has, Lit, Reorders}
use Rattle.gipsat_kernel.specs.Occurrences.{AreNoted, Covers, IsWithin, Widens, ids_at}
use Rattle.gipsat_kernel.specs.declared.occurrences.Ids.{Ids}
use Rattle.gipsat_cnf.proofs.Places.{before_or_last, same_at}

-- more ids than before
pub Covers-widened : (old new : List Ids) (cs : List Clause) → Widens old new → Covers old cs → Covers new cs
Covers-widened old new cs widens covers k c at l has = widens l k (covers k c at l has)

-- a clause more, whose id was noted
pub Covers-pushed : (os : List Ids) (cs : List Clause) (c : Clause) → Covers os cs → AreNoted os c (length cs) → Covers os (cs ++ c ∷ [])
Covers-pushed os cs c covers noted k d at =
    ⊎_elim (λ before. covers k d before)
    (λ last. subst (AreNoted os d) (sym last.0) (subst (λ e. AreNoted os e (length cs)) last.1 noted))
    (before_or_last cs c k d at)

-- literals change their places within clauses
pub Covers-reordered : (os : List Ids) (cs ds : List Clause) → Reorders cs ds → Covers os cs → Covers os ds
Covers-reordered os cs ds same covers k d at l has =
    let was = same k d at in
    covers k was.0 was.1 l ((was.2 l).0 has)

-- the first clauses are noted
abbrev pub CoversFirst : List Ids → List Clause → ℕ → Type 0
CoversFirst os cs i = (k : ℕ) (c : Clause) → k < i → slice_get cs k ≡ Some c → AreNoted os c k

pub CoversFirst-next : (old new : List Ids) (cs : List Clause) (i : ℕ) (c : Clause) → slice_get cs i ≡ Some c → Widens old new
    → AreNoted new c i → CoversFirst old cs i → CoversFirst new cs (i + 1)
CoversFirst-next old new cs i c here widens noted first k d less at l has =
    ⊎_elim (λ earlier. widens l k (first k d earlier at l has))
    (λ later.
    let same : k ≡ i = omega (arith, less, later) in
    subst (IsWithin (ids_at new l)) (sym same) (noted l (subst (λ e. Has e l) (sym (same_at cs i c k d same here at)) has)))
    (cases_lt k i)

pub CoversFirst-all : (os : List Ids) (cs : List Clause) (i : ℕ) → length cs ≤ i → CoversFirst os cs i → Covers os cs
CoversFirst-all os cs i all first k c at = first k c (omega (arith, all, slice_get_within cs k c at)) at

-- an id was noted for the first literals of a clause
pub record IsNoting (before now : List Ids) (clause : Clause) (id i : ℕ) : Type 0 where
  pub widens : Widens before now
  pub noted : (k : ℕ) (m : Lit) → k < i → slice_get clause k ≡ Some m → IsWithin (ids_at now m) id

pub IsNoting-next : (before now new : List Ids) (clause : Clause) (id i : ℕ) (l : Lit) → slice_get clause i ≡ Some l → Widens now new
    → IsWithin (ids_at new l) id → IsNoting before now clause id i → IsNoting before new clause id (i + 1)
IsNoting-next before now new clause id i l at widens within is = record {
  widens = λ m k was. widens m k (is.widens m k was);
  noted = λ k m less there.
      ⊎_elim (λ earlier. widens m id (is.noted k m earlier there))
      (λ later.
      let same : k ≡ i = omega (arith, less, later) in
      subst (λ n. IsWithin (ids_at new n) id) (same_at clause i l k m same at there) within)
      (cases_lt k i);
}

pub AreNoted-all : (before now : List Ids) (clause : Clause) (id i : ℕ) → length clause ≤ i → IsNoting before now clause id i
    → AreNoted now clause id
AreNoted-all before now clause id i all is l has = is.noted has.0 l (omega (arith, all, slice_get_within clause has.0 l has.1)) has.1
