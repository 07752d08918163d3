-- Marks that are set and taken away.
use Rattle.std.proofs.Common.{◌≡◌, ◌≢◌, ℕ, ◌+◌, ◌<◌, ◌≤◌, List, [], ◌∷◌, ◌++◌, length, set, take, get_or, Some, sym, ap, subst, ◌∙◌, arith, ◌⊎◌, ⊎_elim, inl, inr, Bool, true, false, suc, zero, refl}
use Rattle.std.specs.Prelude.{slice_get, Result, Ok, Err, OnOk}
use Rattle.std.proofs.lemmas.List.{get_or-set_same, get_or-set_other, get_or_past, length-set, take_more_set}
use Rattle.std.proofs.lemmas.Bool.{false≢true, cases_lt, cases_Bool}
use Rattle.std.proofs.lemmas.Option.{slice_get_within}
use Rattle.gipsat_cnf.specs.Prelude.{AreHadBy, Clause, Formula, Has, Lit, code}
use Rattle.gipsat_kernel.specs.Marks.{AreListed, AreMarked, Grows, IsTaken, MarksSame, NoneMarked, TakesMarked, is_marked}
use Rattle.gipsat_cnf.proofs.Places.{same_some, stands_last, stays_before}
use Rattle.gipsat_cnf.proofs.LiteralLemmas.{cases_literal, code-injective}

-- a mark that is written is the one of its literal
pub marked-set_other : (flags : List Bool) (l m : Lit) (b : Bool) → m ≢ l
    → is_marked (set flags (code l) b) m ≡ is_marked flags m
marked-set_other flags l m b other = get_or-set_other flags (code l) (code m) b false (λ e. other (code-injective m l e))

pub marked-set_same : (flags : List Bool) (l : Lit) (b : Bool) → code l < length flags
    → is_marked (set flags (code l) b) l ≡ b
marked-set_same flags l b within = get_or-set_same flags (code l) b false within

-- a mark that is taken away is gone
pub unmarked : (flags : List Bool) (l : Lit) → is_marked (set flags (code l) false) l ≡ false
unmarked flags l =
    ⊎_elim (λ within. get_or-set_same flags (code l) false false within)
    (λ past. get_or_past (set flags (code l) false) (code l) false (omega (arith, past, length-set flags (code l) false)))
    (cases_lt (code l) (length flags))

-- what is marked after a mark was taken away was marked before, and is another literal
pub still_marked : (flags : List Bool) (l m : Lit) → is_marked (set flags (code l) false) m ≡ true
    → (m ≢ l) × (is_marked flags m ≡ true)
still_marked flags l m is =
    ⊎_elim (λ same. absurd (false≢true (sym (unmarked flags l) ∙ ap (is_marked (set flags (code l) false)) (sym same) ∙ is)))
    (λ other. (other, sym (marked-set_other flags l m false other) ∙ is)) (cases_literal m l)

-- one more literal is marked and listed
pub AreListed-add : (flags : List Bool) (listed : Clause) (l : Lit) → AreListed flags listed
    → AreListed (set flags (code l) true) (listed ++ l ∷ [])
AreListed-add flags listed l is m marked =
    ⊎_elim (λ same. (length listed, stands_last listed l ∙ ap Some (sym same)))
    (λ other. let was = is m (sym (marked-set_other flags l m true other) ∙ marked) in (was.0, stays_before listed (l ∷ []) was.0 m was.1))
    (cases_literal m l)

pub AreListed-same : (old new : List Bool) (listed : Clause) → MarksSame old new → AreListed old listed → AreListed new listed
AreListed-same old new listed same is m marked = is m (sym (same m) ∙ marked)

-- what is marked stays marked where one literal more is
pub Grows-add : (old mid : List Bool) (l : Lit) → MarksSame old mid → Grows old (set mid (code l) true)
Grows-add old mid l same m marked =
    ⊎_elim (λ is_l. ap (λ k. get_or (set mid (code l) true) (code k) false) is_l ∙ get_or-set_same mid (code l) true false (within (code l) mid (ap code is_l) (same m ∙ marked)))
    (λ other. marked-set_other mid l m true other ∙ same m ∙ marked)
    (cases_literal m l)
  where
    within : (p : ℕ) (flags : List Bool) → code m ≡ p → is_marked flags m ≡ true → p < length flags
    within p flags is flagged =
        ⊎_elim (λ inside. inside)
        (λ past. absurd (false≢true (sym (get_or_past flags p false past) ∙ ap (λ q. get_or flags q false) (sym is) ∙ flagged)))
        (cases_lt p (length flags))

pub AreListed-none : (flags : List Bool) (listed : Clause) → NoneMarked flags → AreListed flags listed
AreListed-none flags listed none m marked = absurd (false≢true (sym (none m) ∙ marked))

-- the marks of the first i literals are gone
pub record IsClearing (listed : Clause) (before now : List Bool) (i : ℕ) : Type 0 where
  pub len : length now ≡ length before
  pub shrinks : Grows now before
  pub cleared : (k : ℕ) (m : Lit) → k < i → slice_get listed k ≡ Some m → is_marked now m ≡ false

cleared_next : (listed : Clause) (now : List Bool) (i : ℕ) (l : Lit) → slice_get listed i ≡ Some l
    → ((k : ℕ) (m : Lit) → k < i → slice_get listed k ≡ Some m → is_marked now m ≡ false)
    → (k : ℕ) (m : Lit) → k < i + 1 → slice_get listed k ≡ Some m → is_marked (set now (code l) false) m ≡ false
cleared_next listed now i l at cleared k m less there =
    ⊎_elim (λ same. ap (is_marked (set now (code l) false)) same ∙ unmarked now l)
    (λ other.
    marked-set_other now l m false other
    ∙ ⊎_elim (λ earlier. cleared k m earlier there)
    (λ later. let k_is : k ≡ i = omega (arith, less, later) in absurd (other (same_some m l (sym there ∙ ap (slice_get listed) k_is ∙ at))))
    (cases_lt k i))
    (cases_literal m l)

pub IsClearing-next : (listed : Clause) (before now : List Bool) (i : ℕ) (l : Lit) → slice_get listed i ≡ Some l
    → IsClearing listed before now i → IsClearing listed before (set now (code l) false) (i + 1)
IsClearing-next listed before now i l at is = record {
  len = length-set now (code l) false ∙ is.len;
  shrinks = λ m marked. is.shrinks m (still_marked now l m marked).1;
  cleared = cleared_next listed now i l at is.cleared;
}

pub NoneMarked-cleared : (listed : Clause) (before now : List Bool) (i : ℕ) → length listed ≤ i → AreListed before listed
    → IsClearing listed before now i → NoneMarked now
NoneMarked-cleared listed before now i all was is m =
    ⊎_elim (λ marked. let has = was m (is.shrinks m marked) in is.cleared has.0 m (omega (arith, all, slice_get_within listed has.0 m has.1)) has.1)
    (λ not_marked. not_marked) (cases_Bool (is_marked now m))

-- what was taken of the first i literals of the list, and which marks are left
pub record IsTaking (listed : Clause) (before now : List Bool) (taken : Clause) (i : ℕ) : Type 0 where
  pub shrinks : Grows now before
  pub caught : (m : Lit) → is_marked before m ≡ true → (is_marked now m ≡ true) ⊎ Has taken m
  pub cleared : (k : ℕ) (m : Lit) → k < i → slice_get listed k ≡ Some m → is_marked now m ≡ false

-- a marked literal is taken
pub IsTaking-took : (listed : Clause) (before now : List Bool) (taken : Clause) (i : ℕ) (l : Lit)
    → slice_get listed i ≡ Some l
    → IsTaking listed before now taken i → IsTaking listed before (set now (code l) false) (taken ++ l ∷ []) (i + 1)
IsTaking-took listed before now taken i l at is = record {
  shrinks = λ m marked. is.shrinks m (still_marked now l m marked).1;
  caught = λ m was.
      ⊎_elim (λ still. ⊎_elim (λ same. inr (length taken, stands_last taken l ∙ ap Some (sym same)))
      (λ other. inl (marked-set_other now l m false other ∙ still)) (cases_literal m l))
      (λ has. inr (has.0, stays_before taken (l ∷ []) has.0 m has.1)) (is.caught m was);
  cleared = cleared_next listed now i l at is.cleared;
}

-- a literal that was not marked is left out
pub IsTaking-left : (listed : Clause) (before now : List Bool) (taken : Clause) (i : ℕ) (l : Lit)
    → slice_get listed i ≡ Some l → is_marked now l ≡ false
    → IsTaking listed before now taken i → IsTaking listed before now taken (i + 1)
IsTaking-left listed before now taken i l at not_marked is = record {
  shrinks = is.shrinks;
  caught = is.caught;
  cleared = λ k m less there.
      ⊎_elim (λ earlier. is.cleared k m earlier there)
      (λ later. let k_is : k ≡ i = omega (arith, less, later) in ap (is_marked now) (same_some m l (sym there ∙ ap (slice_get listed) k_is ∙ at)) ∙ not_marked)
      (cases_lt k i);
}

-- at the end all that was marked is taken
pub IsTaken-end : (listed : Clause) (before now : List Bool) (taken : Clause) (i : ℕ) → length listed ≤ i
    → AreListed before listed → IsTaking listed before now taken i → IsTaken before now taken
IsTaken-end listed before now taken i all was is =
    let clear : NoneMarked now = λ m.
    ⊎_elim (λ marked. let has = was m (is.shrinks m marked) in is.cleared has.0 m (omega (arith, all, slice_get_within listed has.0 m has.1)) has.1)
    (λ not_marked. not_marked) (cases_Bool (is_marked now m))
    in
    record {
      all = λ m marked. ⊎_elim (λ still. absurd (false≢true (sym (clear m) ∙ still))) (λ has. has) (is.caught m marked);
      clear = clear;
    }

-- a list whose first literals were taken, each written to the next place at its front
pub record IsGathering (old : Clause) (before now : List Bool) (listed : Clause) (count i : ℕ) : Type 0 where
  pub taking : IsTaking old before now (take count listed) i
  pub small : count ≤ i
  pub len : length listed ≡ length old
  pub later : (k : ℕ) → i ≤ k → slice_get listed k ≡ slice_get old k

set_before : {A : Type 0} (xs : List A) (i k : ℕ) (x : A) → i < k → slice_get (set xs i x) k ≡ slice_get xs k
set_before [] i k x less = refl
set_before (y ∷ xs) i zero x less = absurd (omega (arith, less))
set_before (y ∷ xs) zero (suc k) x less = refl
set_before (y ∷ xs) (suc i) (suc k) x less = set_before xs i k x (omega (arith, less))

pub IsGathering-took : (old : Clause) (before now : List Bool) (listed : Clause) (count i : ℕ) (l : Lit) → i < length listed
    → slice_get listed i ≡ Some l
    → IsGathering old before now listed count i → IsGathering old before (set now (code l) false) (set listed count l) (count + 1) (i + 1)
IsGathering-took old before now listed count i l within at is = record {
  taking = subst (λ taken. IsTaking old before (set now (code l) false) taken (i + 1))
      (sym (take_more_set listed count l (omega (arith, is.small, within))))
      (IsTaking-took old before now (take count listed) i l (sym (is.later i (omega arith)) ∙ at) is.taking);
  small = omega (arith, is.small);
  len = length-set listed count l ∙ is.len;
  later = λ k least. set_before listed count k l (omega (arith, is.small, least)) ∙ is.later k (omega (arith, least));
}

pub IsGathering-left : (old : Clause) (before now : List Bool) (listed : Clause) (count i : ℕ) (l : Lit)
    → slice_get listed i ≡ Some l → is_marked now l ≡ false
    → IsGathering old before now listed count i → IsGathering old before now listed count (i + 1)
IsGathering-left old before now listed count i l at not_marked is = record {
  taking = IsTaking-left old before now (take count listed) i l (sym (is.later i (omega arith)) ∙ at) not_marked is.taking;
  small = omega (arith, is.small);
  len = is.len;
  later = λ k least. is.later k (omega (arith, least));
}

pub IsGathering-start : (old : Clause) (flags : List Bool) → IsGathering old flags flags old 0 0
IsGathering-start old flags = record {
  taking = record { shrinks = λ m marked. marked; caught = λ m marked. inl marked; cleared = λ k m less at. absurd (omega (arith, less)) };
  small = omega arith;
  len = refl;
  later = λ k least. refl;
}

-- the first i of these literals are marked, and no others
abbrev pub AreOfFirst : Clause → List Bool → ℕ → Type 0
AreOfFirst literals flags i = (m : Lit) → is_marked flags m ≡ true → (k : ℕ) × (k < i) × (slice_get literals k ≡ Some m)

pub AreOfFirst-next : (literals : Clause) (flags : List Bool) (i : ℕ) (l : Lit) → slice_get literals i ≡ Some l
    → AreOfFirst literals flags i → AreOfFirst literals (set flags (code l) true) (i + 1)
AreOfFirst-next literals flags i l at is m marked =
    ⊎_elim (λ same. (i, omega arith, at ∙ ap Some (sym same)))
    (λ other. let was = is m (sym (marked-set_other flags l m true other) ∙ marked) in (was.0, omega (arith, was.1), was.2))
    (cases_literal m l)

pub AreOfFirst-none : (literals : Clause) (flags : List Bool) → NoneMarked flags → AreOfFirst literals flags 0
AreOfFirst-none literals flags none m marked = absurd (false≢true (sym (none m) ∙ marked))

-- where only others' literals are marked, a clause of marked literals has only literals of others
pub AreHadBy-marked : (others clause : Clause) (flags : List Bool) → AreListed flags others → AreMarked clause flags → AreHadBy others clause
AreHadBy-marked others clause flags listed marked l has = listed l (marked l has)

-- a clause that has each marked literal was added, where it could be
pub OnOk-takes : {T E : Type 0} (r : Result T E) (flags : List Bool) (old new : Formula) (c : Clause) → AreListed flags c
    → OnOk r (new ≡ old ++ c ∷ []) → OnOk r (TakesMarked flags old new)
OnOk-takes (Ok u) flags old new c all added = record { clause = c; all = all; added = added }
OnOk-takes (Err e) flags old new c all added = tt
