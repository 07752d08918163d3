-- `admits` and `inner` at a call. Assumes `Logic`.
--     Admits, at_admits, admits_goes, admits_gives      the contract of `admits`, what it is handed, and the allocator that it shows, if it shows one
--     Inner, at_inner, inner_goes, inner_gives      the same for `inner`, which always shows one
--
-- How it is proved: a function that runs its argument repeatedly is proved by records over `FnReturnsAt F.Fn run`:
-- `IsRun` holds the allocator that the run borrowed.
use Rattle.std.proofs.Common.{◌≡◌, ℕ, ◌^◌, ◌<◌, List, [], ◌∷◌, ◌++◌, Option, None, Some, IfSome, refl, ap, ◌∙◌, lit<, w64, Bor}
use lib.Dec.{T}
use seplogic.Ra.Ura.{Ura}
use mir.Syntax.{Callee, a_type, named}
use mir.Val.{Val, vint, vptr, of_list, has_ty, WT}
use base.Logic.{SProp, ent, sep, ex, guard, emp, id⊢}
use base.Fml.{Lft, Share, Fml, ftrue, fsep}
use prog.Memory.{Memory}
use prog.Routine.{Routine}
use types.Logic.{Logic, sem}
use contract.BorrowLft.{◌⊑◌}
use contract.Monad.{Fun, fact, fact_i}
use types.Kit.{‵, raw, ◌⊛◌, some, later, given, ◌$◌, ◌∵◌, !, qed, move, keep, use0, use1, split, join, pick, learn, fsplit, fjoin, fpick, feq_l, feq_i, flt_i, check, show, await, updating, now as at_once, done}
use types.Match.{live}
use denote.RattleType.{RattleType}
use denote.Memory.{hidden_shr}
use denote.Param.{layout, layouts, param}
use denote.Ref.{ShrRef, shr_vals}
use denote.Steps.{only, nothing}
use denote.Triple.Statement.{Contract}
use denote.Triple.Spec.{triple_of}
use Rattle.std.specs.contracts.option.Option as O
use Rattle.std.proofs.alloc.Calls.{Al, seen}
use Rattle.giputils_refusing.specs.Refusing.{allocator_of}
use Rattle.giputils_refusing.specs.declared.Refusing.{Refusing}
use Rattle.giputils_refusing.specs.contracts.Refusing as R
use Rattle.giputils_refusing.specs.contracts.Refusing.admits as AD
use Rattle.giputils_refusing.specs.contracts.Refusing.admits.Key as admits_at
use Rattle.giputils_refusing.specs.contracts.Refusing.inner as IN
use Rattle.giputils_refusing.specs.contracts.Refusing.inner.Key as inner_at

-- the machine's value of an allocator that is shown, or of none
abbrev pub shown_val : {X : Type 0} → Option (Bor X) → Val
shown_val None = live 0 (of_list [])
shown_val (Some b) = live 1 (of_list (vptr b.ref_ptr.0 b.ref_ptr.1 ∷ []))

module _ (Z : Al) where
  abbrev pub admits_key : Callee
  admits_key = admits_at.name (layouts (a_type ∷ []) (Z.row, tt))

  abbrev pub inner_key : Callee
  inner_key = inner_at.name (layouts (a_type ∷ []) (Z.row, tt))

  abbrev pub Held : RattleType
  Held = R.the_row (param 0 Z.row)

  abbrev pub Shown : Lft → RattleType
  Shown κ = O.the_row (ShrRef (named 0) κ (param 0 Z.row))

  abbrev pub seen_if : Lft → Option (Bor Z.row.Denot) → Fml
  seen_if κ None = ftrue
  seen_if κ (Some b) = seen Z κ b.ref_ptr b.now

  pub Shown-typed : (o : Option (Bor Z.row.Denot)) → T (has_ty (layout (Shown [])) (shown_val o)) × WT (shown_val o)
  Shown-typed None = (tt, (record { fits = lit< tt }, tt))
  Shown-typed (Some b) = (tt, (record { fits = lit< tt }, (tt, tt)))

module _ (Z : Al) {M : Type 1} {𝓤 : Ura M} (𝓛 : Logic 𝓤) (at_mem : Memory → SProp 𝓤) (run : Routine → Fun 𝓤) where
  open 𝓛 use {H, A}

  abbrev pub Admits : Contract 𝓤
  Admits = triple_of 𝓛 (AD.signature Z.row) (AD.spec Z.row 𝓛 at_mem run)

  abbrev pub Inner : Contract 𝓤
  Inner = triple_of 𝓛 (IN.signature Z.row) (IN.spec Z.row 𝓛 at_mem run)

  module _ (κ ρ : Lft) (q s : Share) (out : κ ⊑ ρ) (r : Bor (Refusing Z.row.Denot)) where
    abbrev Tokens : SProp 𝓤
    Tokens = sep 𝓤 (A.lft κ q) (sep 𝓤 (A.lft ρ s) (emp 𝓤))

    abbrev pub at_admits : ℕ → Admits.Ghost
    at_admits n = (((κ, (ρ, tt)), (q, (s, tt)), (out, tt), (r, (n, tt)), (shr_vals r, (vint w64 n ∷ [], tt))), tt)

    -- what `admits` says of its answer
    abbrev pub Admitted : Option (Bor Z.row.Denot) → Type 0
    Admitted o = IfSome o (λ b. b.now ≡ allocator_of r.now)

    pub admits_goes : (n : ℕ) → n < 2 ^ 64 → ρ ⊑ Z.row.lives → ent 𝓤 (sep 𝓤 (sem 𝓛 (hidden_shr (Held Z) κ r.now r.ref_ptr.0 r.ref_ptr.1)) Tokens) (Admits.pre (at_admits n))
    admits_goes n fn le = qed 𝓛 (‵ (hidden_shr (Held Z) κ r.now r.ref_ptr.0 r.ref_ptr.1) ∷ raw Tokens ∷ []) ∵
        feq_i ! (List Val) (shr_vals r) (shr_vals r) refl $ fjoin ! $
        nothing ! $ flt_i ! n (2 ^ 64) fn $ feq_i ! (List Val) (vint w64 n ∷ []) (vint w64 n ∷ []) refl $ fjoin ! $ fjoin ! $
        move ! (1 ∷ 0 ∷ []) $ fjoin ! $ move ! (1 ∷ 0 ∷ []) $ join ! $
        nothing ! $ use0 𝓛 (raw (fact 𝓤 (ρ ⊑ Z.row.lives))) (fact_i 𝓤 (ρ ⊑ Z.row.lives) (emp 𝓤) le) $ join ! $ move ! (1 ∷ 0 ∷ []) $ done !

    opened : (o : Option (Bor Z.row.Denot)) (v : Val) → ent 𝓤 (sem 𝓛 ((Shown Z κ).own_val o (v ∷ []))) (guard 𝓤 (v ≡ shown_val o) (sem 𝓛 (seen_if Z κ o)))
    opened None v = qed 𝓛 (‵ ((Shown Z κ).own_val None (v ∷ [])) ∷ []) ∵ fpick ! (λ us. fsplit ! $ feq_l ! (λ e. fpick ! (λ vss. fsplit ! $ feq_l ! (λ e'.
        check ! (ap only e ∙ ap (λ (ws : List Val). live 0 (of_list ws)) e') $ done !))))
    opened (Some b) v = qed 𝓛 (‵ ((Shown Z κ).own_val (Some b) (v ∷ [])) ∷ []) ∵ fpick ! (λ us. fsplit ! $ feq_l ! (λ e. fpick ! (λ vss. fsplit ! $
        feq_l ! (λ e'. fsplit ! $ fsplit ! $ feq_l ! (λ e''.
        check ! (ap only e ∙ ap (λ (ws : List Val). live 1 (of_list ws)) (e' ∙ ap (λ (ws : List Val). ws ++ []) e'')) $ keep ! (0 ∷ []) $ done !)))))

    abbrev pub Found : Val → Option (Bor Z.row.Denot) → SProp 𝓤
    Found v o = guard 𝓤 ((v ≡ shown_val o) × Admitted o) (sep 𝓤 (sem 𝓛 (seen_if Z κ o)) Tokens)

    pub admits_gives : (n : ℕ) (v : Val) → ent 𝓤 (Admits.post (at_admits n) v) (H.⇛ (ex 𝓤 (Found v)))
    admits_gives n v = qed 𝓛 (raw (Admits.post (at_admits n) v) ∷ []) ∵ updating ! $
        use1 𝓛 (later (some (λ (o : Option (Bor Z.row.Denot)). (raw Tokens ⊛ ‵ ((Shown Z κ).own_val o (v ∷ [])))
        ⊛ some (λ (ws : Unit {0} × (Unit {0} × Unit {0})). ‵ (fsep ftrue (fsep ftrue ftrue))
        ⊛ given (Admitted o) (‵ ftrue))))) (id⊢ 𝓤 _) $ await ! tt $ pick ! (λ o.
        split ! $ split ! $ move ! (1 ∷ []) $ use1 𝓛 (given (v ≡ shown_val o) (‵ (seen_if Z κ o))) (opened o v) $
        learn ! (λ e. move ! (2 ∷ []) $ pick ! (λ ws. split ! $ move ! (1 ∷ []) $ learn ! (λ k.
        at_once ! $ show ! (Found v) o $ check ! (e, k) $ keep ! (2 ∷ 3 ∷ []) $ done !))))

    abbrev pub at_inner : Inner.Ghost
    at_inner = (((κ, (ρ, tt)), (q, (s, tt)), (out, tt), (r, tt), (shr_vals r, tt)), tt)

    pub inner_goes : ρ ⊑ Z.row.lives → ent 𝓤 (sep 𝓤 (sem 𝓛 (hidden_shr (Held Z) κ r.now r.ref_ptr.0 r.ref_ptr.1)) Tokens) (Inner.pre at_inner)
    inner_goes le = qed 𝓛 (‵ (hidden_shr (Held Z) κ r.now r.ref_ptr.0 r.ref_ptr.1) ∷ raw Tokens ∷ []) ∵
        feq_i ! (List Val) (shr_vals r) (shr_vals r) refl $ fjoin ! $ nothing ! $ move ! (1 ∷ 0 ∷ []) $ fjoin ! $ move ! (1 ∷ 0 ∷ []) $ join ! $
        nothing ! $ use0 𝓛 (raw (fact 𝓤 (ρ ⊑ Z.row.lives))) (fact_i 𝓤 (ρ ⊑ Z.row.lives) (emp 𝓤) le) $ join ! $ move ! (1 ∷ 0 ∷ []) $ done !

    abbrev pub Given : Val → Bor Z.row.Denot → SProp 𝓤
    Given v b = guard 𝓤 ((v ≡ vptr b.ref_ptr.0 b.ref_ptr.1) × (b.now ≡ allocator_of r.now)) (sep 𝓤 (sem 𝓛 (seen Z κ b.ref_ptr b.now)) Tokens)

    pub inner_gives : (v : Val) → ent 𝓤 (Inner.post at_inner v) (H.⇛ (ex 𝓤 (Given v)))
    inner_gives v = qed 𝓛 (raw (Inner.post at_inner v) ∷ []) ∵ updating ! $
        use1 𝓛 (later (some (λ (b : Bor Z.row.Denot).
        (raw Tokens ⊛ ‵ ((ShrRef (named 0) κ (param 0 Z.row)).own_val b (v ∷ [])))
        ⊛ some (λ (ws : Unit {0} × Unit {0}). ‵ (fsep ftrue ftrue)
        ⊛ given (b.now ≡ allocator_of r.now) (‵ ftrue))))) (id⊢ 𝓤 _) $ await ! tt $ pick ! (λ b.
        split ! $ split ! $ move ! (1 ∷ []) $ fsplit ! $ feq_l ! (λ e. move ! (2 ∷ []) $ pick ! (λ ws. split ! $ move ! (1 ∷ []) $ learn ! (λ k.
        at_once ! $ show ! (Given v) b $ check ! (ap only e, k) $ keep ! (2 ∷ 3 ∷ []) $ done !))))
