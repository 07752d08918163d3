-- What a kernel keeps: clauses that follow, and marked literals that follow.
use Rattle.std.proofs.Common.{◌≡◌, ◌≢◌, ℕ, ◌<◌, List, [], ◌∷◌, ◌++◌, length, set, Some, sym, ap, subst, ◌∙◌, arith, ⊎_elim, Bool, true, false, IsTrue}
use Rattle.std.specs.Prelude.{slice_get, slice_index_or}
use Rattle.std.proofs.lemmas.List.{get_or-set_same, get_or-set_other, length_push}
use Rattle.std.proofs.lemmas.Bool.{false≢true, cases_eq}
use Rattle.std.proofs.lemmas.Option.{slice_get_within}
use Rattle.gipsat_cnf.specs.Prelude.{AreHadBy, Clause, Implies, KeepsBut, Lit, Reorders, SaysSame, negated, retained, satisfies_clause}
use Rattle.gipsat_kernel.specs.Kernel.{IsKernel, OriginalStay, original_among}
use Rattle.gipsat_kernel.specs.Marks.{AreMarked, AreMarkedBut, Grows, ImpliesMarked, KeepsMarksBut, TakesMarked}
use Rattle.gipsat_kernel.proofs.Originals.{length-retained, original_among-but, original_among-derived, original_among-original, original_among-retained, satisfies-flagged, satisfies-original}
use Rattle.gipsat_kernel.proofs.Resolution.{Implies-had, Implies-more, Implies-taken, ImpliesMarked-clause, ImpliesMarked-resolved}
use Rattle.gipsat_cnf.proofs.Formulas.{satisfies-at}
use Rattle.gipsat_cnf.proofs.LiteralLemmas.{satisfied_by, true_literal}
use Rattle.gipsat_cnf.proofs.Places.{each_push, same_some, stands_last}
use Rattle.gipsat_cnf.proofs.Retaining.{retained-among}

-- the clauses of a formula
pub IsKernel-given : (fs : List Bool) (cs : List Clause) (ms : List Bool) → length fs ≡ length cs → original_among fs cs ≡ cs
    → IsKernel fs cs ms false
IsKernel-given fs cs ms as_many all = record {
  as_many = as_many;
  implied = λ k c at. subst (λ f. Implies f c) (sym all) (record { follows = λ a sat. satisfies-at a cs k c sat at });
  follows = λ e. absurd (false≢true e);
}

IsKernel-open : (fs : List Bool) (cs : List Clause) (ms ns : List Bool) (b : Bool) → ImpliesMarked (original_among fs cs) ns
    → IsKernel fs cs ms b → IsKernel fs cs ns true
IsKernel-open fs cs ms ns b follows is = record { as_many = is.as_many; implied = is.implied; follows = λ e. follows }

-- a derivation begins
pub IsKernel-begun : (fs : List Bool) (cs : List Clause) (ms ns : List Bool) (b : Bool) (id : ℕ) (c : Clause) → slice_get cs id ≡ Some c
    → AreMarked c ns → IsKernel fs cs ms b → IsKernel fs cs ns true
IsKernel-begun fs cs ms ns b id c at marked is =
    IsKernel-open fs cs ms ns b (ImpliesMarked-clause (original_among fs cs) ns c (is.implied id c at) marked) is

-- and goes on
pub IsKernel-resolved : (fs : List Bool) (cs : List Clause) (ms mid ns : List Bool) (b : Bool) (pivot : Lit) (id : ℕ) (c : Clause) → IsTrue b
    → slice_get cs id ≡ Some c → KeepsMarksBut (negated pivot) ms mid → Grows mid ns → AreMarkedBut pivot c ns
    → IsKernel fs cs ms b → IsKernel fs cs ns true
IsKernel-resolved fs cs ms mid ns b pivot id c is_open at stay grows come is =
    IsKernel-open fs cs ms ns b
    (ImpliesMarked-resolved (original_among fs cs) ms mid ns pivot c (is.implied id c at) stay grows come (is.follows is_open)) is

-- a derived clause more
pub IsKernel-concluded : (fs : List Bool) (cs ds : List Clause) (ms ns : List Bool) (b : Bool) → IsTrue b → TakesMarked ms cs ds
    → IsKernel fs cs ms b → IsKernel (fs ++ false ∷ []) ds ns false
IsKernel-concluded fs cs ds ms ns b is_open takes is =
    let c : Clause = takes.clause in
    subst (λ es. IsKernel (fs ++ false ∷ []) es ns false) (sym takes.added) (record {
      as_many = omega (arith, length_push fs false, length_push cs takes.clause, is.as_many);
      implied = subst (λ f. (k : ℕ) (d : Clause) → slice_get (cs ++ takes.clause ∷ []) k ≡ Some d → Implies f d) (sym (original_among-derived fs cs takes.clause is.as_many))
          (each_push (Implies (original_among fs cs)) cs takes.clause is.implied
          (Implies-taken (original_among fs cs) ms takes.clause takes.all (is.follows is_open)));
      follows = λ e. absurd (false≢true e);
    })

pub original_among-concluded : (fs : List Bool) (cs ds : List Clause) (ms : List Bool) (b : Bool) → TakesMarked ms cs ds
    → IsKernel fs cs ms b → original_among (fs ++ false ∷ []) ds ≡ original_among fs cs
original_among-concluded fs cs ds ms b takes is =
    ap (original_among (fs ++ false ∷ [])) takes.added ∙ original_among-derived fs cs takes.clause is.as_many

-- a clause of the formula more
pub IsKernel-added : (fs : List Bool) (cs : List Clause) (ms ns : List Bool) (b : Bool) (c : Clause) → IsKernel fs cs ms b
    → IsKernel (fs ++ true ∷ []) (cs ++ c ∷ []) ns false
IsKernel-added fs cs ms ns b c is =
    let f = original_among fs cs in
    record {
      as_many = omega (arith, length_push fs true, length_push cs c, is.as_many);
      implied = subst (λ g. (k : ℕ) (d : Clause) → slice_get (cs ++ c ∷ []) k ≡ Some d → Implies g d) (sym (original_among-original fs cs c is.as_many))
          (each_push (Implies (original_among fs cs ++ c ∷ [])) cs c
          (λ k d at. Implies-more (original_among fs cs) (c ∷ []) d (is.implied k d at))
          (record { follows = λ a sat. satisfies-at a (original_among fs cs ++ c ∷ []) (length f) c sat (stands_last (original_among fs cs) c) }));
      follows = λ e. absurd (false≢true e);
    }

-- literals of a derived clause change their places
pub IsKernel-swapped : (fs : List Bool) (cs ds : List Clause) (ms : List Bool) (b : Bool) (place : ℕ) → length ds ≡ length cs
    → slice_index_or fs place false ≡ false → Reorders cs ds → KeepsBut place cs ds → IsKernel fs cs ms b → IsKernel fs ds ms b
IsKernel-swapped fs cs ds ms b place len derived same keeps is =
    let formula : original_among fs cs ≡ original_among fs ds = sym (original_among-but fs cs ds place len derived keeps) in
    record {
      as_many = is.as_many ∙ sym len;
      implied = subst (λ f. (k : ℕ) (c : Clause) → slice_get ds k ≡ Some c → Implies f c) formula
          (λ k c at.
          let was = same k c at in
          Implies-had (original_among fs cs) was.0 c (λ l has. (was.2 l).1 has) (is.implied k was.0 was.1));
      follows = λ e. subst (λ f. ImpliesMarked f ms) formula (is.follows e);
    }

-- derived clauses go
pub IsKernel-collected : (stays fs : List Bool) (cs : List Clause) (ms : List Bool) (b : Bool) → OriginalStay fs stays → IsKernel fs cs ms b
    → IsKernel (retained stays fs) (retained stays cs) ms b
IsKernel-collected stays fs cs ms b all is =
    let formula : original_among fs cs ≡ original_among (retained stays fs) (retained stays cs) = sym (original_among-retained stays fs cs all) in
    record {
      as_many = length-retained stays fs cs is.as_many;
      implied = subst (λ f. (k : ℕ) (c : Clause) → slice_get (retained stays cs) k ≡ Some c → Implies f c) formula
          (λ k c at. let was = retained-among stays cs k c at in is.implied was.0 c was.1);
      follows = λ e. subst (λ f. ImpliesMarked f ms) formula (is.follows e);
    }

flag_kept : (fs : List Bool) (id by k : ℕ) → k ≢ id → k ≢ by → slice_index_or (set (set fs by true) id false) k false ≡ slice_index_or fs k false
flag_kept fs id by k not_id not_by = get_or-set_other (set fs by true) id k false false not_id ∙ get_or-set_other fs by k true false not_by

flag_by : (fs : List Bool) (id by : ℕ) → by < length fs → by ≢ id → slice_index_or (set (set fs by true) id false) by false ≡ true
flag_by fs id by within other = get_or-set_other (set fs by true) id by false false other ∙ get_or-set_same fs by true false within

-- a clause of the formula has only literals of another one, and stands for it
pub SaysSame-subsumed : (fs : List Bool) (cs : List Clause) (ms : List Bool) (b : Bool) (id by : ℕ) (c d : Clause) → by ≢ id
    → slice_get cs id ≡ Some c → slice_get cs by ≡ Some d → AreHadBy c d → IsKernel fs cs ms b
    → SaysSame (original_among fs cs) (original_among (set (set fs by true) id false) cs)
SaysSame-subsumed fs cs ms b id by c d other at_id at_by had is a =
    let fits_by : by < length fs = omega (arith, is.as_many, slice_get_within cs by d at_by) in
    let fits_id : id < length fs = omega (arith, is.as_many, slice_get_within cs id c at_id) in (
      (λ sat.
          let d_true = satisfies-flagged a (set (set fs by true) id false) cs by d sat (flag_by fs id by fits_by other) at_by in
          let found = true_literal a d d_true in
          let has = had found.0 found.1 in
          satisfies-original a fs cs (λ k e flagged at.
          ⊎_elim (λ is_id. subst (λ x. IsTrue (satisfies_clause a x)) (same_some c e (sym at_id ∙ ap (slice_get cs) (sym is_id) ∙ at)) (satisfied_by a c has.0 found.0 has.1 found.2))
          (λ not_id.
          ⊎_elim (λ is_by. subst (λ x. IsTrue (satisfies_clause a x)) (same_some d e (sym at_by ∙ ap (slice_get cs) (sym is_by) ∙ at)) d_true)
          (λ not_by. satisfies-flagged a (set (set fs by true) id false) cs k e sat (flag_kept fs id by k not_id not_by ∙ flagged) at)
          (cases_eq k by))
          (cases_eq k id))),
      (λ sat.
          satisfies-original a (set (set fs by true) id false) cs (λ k e flagged at. (is.implied k e at).follows a sat)),
    )

pub IsKernel-same : (fs gs : List Bool) (cs : List Clause) (ms ns : List Bool) (b : Bool) → length gs ≡ length fs
    → SaysSame (original_among fs cs) (original_among gs cs) → IsKernel fs cs ms b → IsKernel gs cs ns false
IsKernel-same fs gs cs ms ns b len same is = record {
  as_many = len ∙ is.as_many;
  implied = λ k c at. record { follows = λ a sat. (is.implied k c at).follows a ((same a).0 sat) };
  follows = λ e. absurd (false≢true e);
}
