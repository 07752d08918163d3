-- The moments of a lasso, one after another.
use Rattle.std.proofs.Common.{◌≡◌, ◌⊎◌, ⊎_elim, inl, inr, ℕ, zero, suc, ◌+◌, ◌≤◌, Bool, false, not, List, [], ◌∷◌, Some, Vec, length, get_or, IsTrue, arith, refl, sym, ap, subst, ◌∙◌}
use Rattle.std.specs.Prelude.{filter, slice_get}
use Rattle.std.specs.declared.alloc.Global.{Global}
use Rattle.std.proofs.lemmas.Bool.{cases_Bool, cases_lt, cond-false, cond-true}
use Rattle.std.proofs.lemmas.Option.{get_or_from_slice_get, slice_get_within}
use Rattle.gipsat_cnf.specs.Prelude.{Assignment, Has, Lit, is_true}
use Rattle.gipsat_cnf.proofs.Places.{none_some, same_some}
use Rattle.gipmc_circuits.specs.declared.circuit.Circuit.{Circuit}
use Rattle.gipmc_circuits.specs.declared.trace.Trace.{Trace}
use Rattle.gipmc_circuits.specs.Prelude.{HoldsRow, IsTrace, is_initial, is_moment, is_transition, latch_variables}
use Rattle.gipmc_circuits.proofs.Traces.{IsTrace-first, IsTrace-more, followed_by, followed_by-new, followed_by-old}
use Rattle.gipmc_reduce.specs.declared.lasso.Lasso.{Lasso}
use Rattle.gipmc_reduce.specs.Lassos.{FollowsUpTo, IsMet, IsReachedBy, Loops}

-- a row that stands at a place is the one that is read there
row_read : (rows : List (Vec Bool Global)) (k : ℕ) (last row : Vec Bool Global) → last ≡ get_or rows k last
    → slice_get rows k ≡ Some row → last ≡ row
row_read rows k last row read at = read ∙ get_or_from_slice_get rows k row last at

-- the first moment
pub reached_first : (c : Circuit) (trace : Trace) (a : Assignment) (first : Vec Bool Global)
    → first ≡ get_or trace.inputs.items 0 first → IsTrue (is_initial c a) → IsTrue (is_moment c a)
    → HoldsRow a (latch_variables c) trace.latches.items → HoldsRow a c.inputs.items first.items → IsReachedBy c trace 0 a
reached_first c trace a first read initial moment latches inputs = (
  (λ i. a),
  IsTrace-first c a initial moment,
  refl,
  (
    latches,
    λ i row within at.
        let none : i ≡ 0 = omega (arith, within) in
        subst (λ r. HoldsRow a c.inputs.items r.items)
        (row_read trace.inputs.items 0 first row read (subst (λ j. slice_get trace.inputs.items j ≡ Some row) none at)) inputs,
  ),
)

-- what the trace says of one more moment
follows_more : (n : ℕ) (c : Circuit) (trace : Trace) (t : ℕ → Assignment) (b : Assignment) (last : Vec Bool Global)
    → last ≡ get_or trace.inputs.items (n + 1) last → HoldsRow b c.inputs.items last.items → FollowsUpTo n c trace t
    → FollowsUpTo (n + 1) c trace (followed_by b n t)
follows_more n c trace t b last read new (latches, old) = (
  subst (λ a. HoldsRow a (latch_variables c) trace.latches.items) (sym (followed_by-old b n t 0 (omega arith))) latches,
  λ i row within at.
      ⊎_elim
      (λ less. subst (λ a. HoldsRow a c.inputs.items row.items) (sym (followed_by-old b n t i (omega (arith, less))))
      (old i row (omega (arith, less)) at))
      (λ more.
      let here : i ≡ n + 1 = omega (arith, within, more) in
      let same : last ≡ row = row_read trace.inputs.items (n + 1) last row read
      (subst (λ j. slice_get trace.inputs.items j ≡ Some row) here at) in
      subst (λ j. HoldsRow (followed_by b n t j) c.inputs.items row.items) (sym here)
      (subst (λ a. HoldsRow a c.inputs.items row.items) (sym (followed_by-new b n t))
      (subst (λ r. HoldsRow b c.inputs.items r.items) same new)))
      (cases_lt i (n + 1)),
)

-- one more moment
pub reached_more : (c : Circuit) (trace : Trace) (n : ℕ) (a b : Assignment) (last : Vec Bool Global)
    → IsReachedBy c trace n a → last ≡ get_or trace.inputs.items (n + 1) last → IsTrue (is_transition c a b)
    → IsTrue (is_moment c b) → HoldsRow b c.inputs.items last.items → IsReachedBy c trace (n + 1) b
reached_more c trace n a b last (t, is, at, follows) read goes moment row = (
  followed_by b n t,
  IsTrace-more c n t b is (subst (λ v. IsTrue (is_transition c v b)) (sym at) goes) moment,
  followed_by-new b n t,
  follows_more n c trace t b last read row follows,
)

-- what passes the test, and what is kept as it does not
met_or_left : (test : Lit → Bool) (ls : List Lit) (l : Lit) (k : ℕ) → slice_get ls k ≡ Some l
    → IsTrue (test l) ⊎ Has (filter (λ m. not (test m)) ls) l
met_or_left test [] l k at = none_some l at
met_or_left test (m ∷ ls) l zero at =
    let here : m ≡ l = same_some m l at in
    ⊎_elim
    (λ yes. inl (subst (λ x. IsTrue (test x)) here yes))
    (λ fails. inr (0, ap (λ xs. slice_get xs 0) (kept test m ls fails) ∙ at))
    (cases_Bool (test m))
  where
    kept : (test : Lit → Bool) (m : Lit) (ls : List Lit) → test m ≡ false
        → filter (λ x. not (test x)) (m ∷ ls) ≡ m ∷ filter (λ x. not (test x)) ls
    kept test m ls fails = cond-true (not (test m)) (m ∷ filter (λ x. not (test x)) ls) (filter (λ x. not (test x)) ls) (ap not fails)
met_or_left test (m ∷ ls) l (suc k) at =
    ⊎_elim (λ met. inl met) (λ left. inr (later test m ls l left)) (met_or_left test ls l k at)
  where
    later : (test : Lit → Bool) (m : Lit) (ls : List Lit) (l : Lit) → Has (filter (λ x. not (test x)) ls) l
        → Has (filter (λ x. not (test x)) (m ∷ ls)) l
    later test m ls l (j, there) =
        let rest = filter (λ x. not (test x)) ls in
        ⊎_elim
        (λ yes. (j, ap (λ xs. slice_get xs j) (cond-false (not (test m)) (m ∷ rest) rest (ap not yes)) ∙ there))
        (λ fails. (suc j, ap (λ xs. slice_get xs (suc j)) (cond-true (not (test m)) (m ∷ rest) rest (ap not fails)) ∙ there))
        (cases_Bool (test m))

-- the loop so far: where it started, where it is, and which of the literals are left to be met
abbrev pub LoopSoFar : Circuit → List Lit → Lasso → Assignment → ℕ → Assignment → List Lit → Type 0
LoopSoFar c literals lasso first n a left =
    (t : ℕ → Assignment) × IsTrace c n t × (t n ≡ a) × FollowsUpTo n c lasso.trace t × (t lasso.start ≡ first)
    × ((l : Lit) → Has literals l → IsMet lasso.start n t l ⊎ Has left l)

-- where it starts
pub loop_first : (c : Circuit) (literals left : List Lit) (lasso : Lasso) (a : Assignment)
    → IsReachedBy c lasso.trace lasso.start a → left ≡ filter (λ l. not (is_true a l)) literals
    → LoopSoFar c literals lasso a lasso.start a left
loop_first c literals left lasso a (t, is, at, follows) are = (
  t,
  is,
  at,
  follows,
  at,
  λ l (k, has).
      ⊎_elim
      (λ met. inl (lasso.start, omega arith, omega arith, subst (λ v. IsTrue (is_true v l)) (sym at) met))
      (λ rest. inr (subst (λ ls. Has ls l) (sym are) rest))
      (met_or_left (is_true a) literals l k has),
)

-- one more moment of it
pub loop_more : (c : Circuit) (literals left rest : List Lit) (lasso : Lasso) (first : Assignment) (n : ℕ)
    (a b : Assignment) (last : Vec Bool Global)
    → LoopSoFar c literals lasso first n a left → lasso.start ≤ n → last ≡ get_or lasso.trace.inputs.items (n + 1) last
    → IsTrue (is_transition c a b) → IsTrue (is_moment c b) → HoldsRow b c.inputs.items last.items
    → rest ≡ filter (λ l. not (is_true b l)) left → LoopSoFar c literals lasso first (n + 1) b rest
loop_more c literals left rest lasso first n a b last (t, is, at, follows, start, met) within read goes moment row are =
    let u = followed_by b n t in (
      u,
      IsTrace-more c n t b is (subst (λ v. IsTrue (is_transition c v b)) (sym at) goes) moment,
      followed_by-new b n t,
      follows_more n c lasso.trace t b last read row follows,
      followed_by-old b n t lasso.start within ∙ start,
      λ l has. ⊎_elim
          (λ (m, from, upto, true_). inl (
            m,
            from,
            omega (arith, upto),
            subst (λ v. IsTrue (is_true v l)) (sym (followed_by-old b n t m upto)) true_,
          ))
          (λ (k, there). ⊎_elim
          (λ now. inl (
            n + 1,
            omega (arith, within),
            omega arith,
            subst (λ v. IsTrue (is_true v l)) (sym (followed_by-new b n t)) now,
          ))
          (λ later. inr (subst (λ ls. Has ls l) (sym are) later))
          (met_or_left (is_true b) left l k there))
          (met l has),
    )

-- where its last moment leads back to where it started, and nothing is left
pub loop_closed : (c : Circuit) (literals left : List Lit) (lasso : Lasso) (n : ℕ) (first a : Assignment)
    → LoopSoFar c literals lasso first n a left → lasso.start ≤ n → length lasso.trace.inputs.items ≡ n + 1
    → IsTrue (is_transition c a first) → left ≡ [] → Loops c literals lasso
loop_closed c literals left lasso n first a (t, is, at, (latches, inputs), start, met) within rows goes none = (
  n,
  t,
  rows,
  record {
    trace = is;
    within = within;
    back = subst (λ v. IsTrue (is_transition c v (t lasso.start))) (sym at)
        (subst (λ v. IsTrue (is_transition c a v)) (sym start) goes);
  },
  (latches, λ i row there. inputs i row (within_rows i row there) there),
  λ l has. ⊎_elim (λ is_met. is_met) (λ (k, there). none_some l (subst (λ ls. slice_get ls k ≡ Some l) none there)) (met l has),
)
  where
    within_rows : (i : ℕ) (row : Vec Bool Global) → slice_get lasso.trace.inputs.items i ≡ Some row → i ≤ n
    within_rows i row there =
        let less = slice_get_within lasso.trace.inputs.items i row there in omega (arith, rows, less)
