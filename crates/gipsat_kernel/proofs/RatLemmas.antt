-- Steps that keep satisfiability. Where a clause that is RAT is false, its pivot's variable is flipped.
use Rattle.std.proofs.Common.{◌≡◌, ◌≢◌, ◌∙◌, ℕ, suc, zero, ◌+◌, ◌<◌, List, [], ◌∷◌, ◌++◌, length, set, take, take_all, Bool, true, false, not, Some, IsTrue, refl, sym, ap, subst, arith, ⊎_elim}
use lib.Seq.{take-append-le}
use Rattle.std.specs.Prelude.{◌==◌, if◌then◌else◌, slice_get, slice_index_or}
use Rattle.std.specs.Bool.{beq}
use Rattle.std.specs.Cmp.{bool_eq_equiv}
use Rattle.std.proofs.lemmas.Bool.{false≢true, cases_Bool, cases_lt, cases_eq}
use Rattle.std.proofs.lemmas.Bool.Decides.{eqb_tells}
use Rattle.std.proofs.lemmas.List.{get_or-set_same, get_or-set_other, get_or_past, length-set, length_push}
use Rattle.std.proofs.lemmas.Option.{slice_get_within}
use Rattle.gipsat_cnf.specs.Prelude.{AreHadBy, Assignment, Clause, Formula, Has, Implies, Lit, Reorders, is_true, negated, retained, satisfies, satisfies_clause}
use Rattle.gipsat_cnf.proofs.Formulas.{satisfies-at, satisfies-push}
use Rattle.gipsat_cnf.proofs.LiteralLemmas.{beq_not, cases_literal, satisfied_by, true_literal}
use Rattle.gipsat_cnf.proofs.Places.{same_some, stands_last}
use Rattle.gipsat_kernel.specs.Kernel.{original_among}
use Rattle.gipsat_kernel.specs.Marks.{AreListed, AreMarked, AreMarkedBut, Grows, KeepsMarksBut, TakesMarked, is_marked}
use Rattle.gipsat_kernel.specs.Occurrences.{AreNoted, Covers}
use Rattle.gipsat_kernel.specs.Rat.{AreResolved, HasResolvent, IsOfResolvent, IsRatKernel, KeepsSatisfiable}
use Rattle.gipsat_kernel.specs.declared.occurrences.Ids.{Ids}
use Rattle.gipsat_kernel.proofs.OccurrenceLemmas.{Covers-pushed, Covers-reordered}
use Rattle.gipsat_kernel.proofs.Originals.{original_among-has, satisfies-flagged, satisfies-original}
use Rattle.gipsat_kernel.proofs.Resolution.{Implies-had, Implies-taken, ImpliesMarked-clause, ImpliesMarked-resolved}

-- no clause is being derived
pub IsRatKernel-idle : (fs : List Bool) (cs : List Clause) (os : List Ids) (ms : List Bool) → length fs ≡ length cs → Covers os cs
    → IsRatKernel fs cs os ms false
IsRatKernel-idle fs cs os ms as_many covers = record { as_many = as_many; covers = covers; follows = λ e. absurd (false≢true e) }

-- a clause more, which was noted
pub IsRatKernel-pushed : (fs : List Bool) (cs : List Clause) (os : List Ids) (ms : List Bool) (b : Bool) (c : Clause) → length fs ≡ length cs
    → Covers os cs → AreNoted os c (length cs) → IsRatKernel (fs ++ b ∷ []) (cs ++ c ∷ []) os ms false
IsRatKernel-pushed fs cs os ms b c as_many covers noted =
    IsRatKernel-idle (fs ++ b ∷ []) (cs ++ c ∷ []) os ms (omega (arith, length_push fs b, length_push cs c, as_many)) (Covers-pushed os cs c covers noted)

-- a clause of the formula follows from it
pub Implies-flagged : (fs : List Bool) (cs : List Clause) (k : ℕ) (c : Clause) → slice_index_or fs k false ≡ true → slice_get cs k ≡ Some c
    → Implies (original_among fs cs) c
Implies-flagged fs cs k c flagged at = record { follows = λ a sat. satisfies-flagged a fs cs k c sat flagged at }

-- a derivation begins
pub IsRatKernel-begun : (fs : List Bool) (cs : List Clause) (os : List Ids) (ms : List Bool) (id : ℕ) (c : Clause) → length fs ≡ length cs
    → Covers os cs → slice_index_or fs id false ≡ true → slice_get cs id ≡ Some c → AreMarked c ms → IsRatKernel fs cs os ms true
IsRatKernel-begun fs cs os ms id c as_many covers flagged at marked = record {
  as_many = as_many;
  covers = covers;
  follows = λ e. ImpliesMarked-clause (original_among fs cs) ms c (Implies-flagged fs cs id c flagged at) marked;
}

-- with the clause that a literal is true or false
pub IsRatKernel-tautology : (fs : List Bool) (cs : List Clause) (os : List Ids) (mid ms : List Bool) (l : Lit) → length fs ≡ length cs
    → Covers os cs → is_marked mid l ≡ true → Grows mid ms → is_marked ms (negated l) ≡ true → IsRatKernel fs cs os ms true
IsRatKernel-tautology fs cs os mid ms l as_many covers first grows second = record {
  as_many = as_many;
  covers = covers;
  follows = λ e. record {
    follows = λ a sat.
        ⊎_elim (λ yes. (l, grows l first, yes)) (λ no. (negated l, second, beq_not (a l.variable) l.positive no)) (cases_Bool (is_true a l));
  };
}

-- and goes on
pub IsRatKernel-resolved : (fs : List Bool) (cs : List Clause) (os : List Ids) (ms mid ns : List Bool) (b : Bool) (pivot : Lit) (id : ℕ) (c : Clause)
    → IsTrue b
    → slice_index_or fs id false ≡ true → slice_get cs id ≡ Some c → KeepsMarksBut (negated pivot) ms mid → Grows mid ns → AreMarkedBut pivot c ns
    → IsRatKernel fs cs os ms b → IsRatKernel fs cs os ns true
IsRatKernel-resolved fs cs os ms mid ns b pivot id c is_open flagged at stay grows come is = record {
  as_many = is.as_many;
  covers = is.covers;
  follows = λ e.
      ImpliesMarked-resolved (original_among fs cs) ms mid ns pivot c (Implies-flagged fs cs id c flagged at) stay grows come (is.follows is_open);
}

-- a clause that follows is added
pub KeepsSatisfiable-implied : (f : Formula) (c : Clause) → Implies f c → KeepsSatisfiable f (f ++ c ∷ [])
KeepsSatisfiable-implied f c implied (a, sat) = (a, satisfies-push a f c sat (implied.follows a sat))

-- the derived clause is part of the one that is added
pub Implies-concluded : (fs : List Bool) (cs : List Clause) (os : List Ids) (ms : List Bool) (b : Bool) (derived c : Clause) → IsTrue b
    → AreListed ms derived → AreHadBy c derived → IsRatKernel fs cs os ms b → Implies (original_among fs cs) c
Implies-concluded fs cs os ms b derived c is_open listed had is =
    Implies-had (original_among fs cs) derived c had (Implies-taken (original_among fs cs) ms derived listed (is.follows is_open))

-- the derived clause is looked at, and taken away again
pub truncated : (cs ds : List Clause) (ms : List Bool) (n : ℕ) → TakesMarked ms cs ds → n ≡ length cs → take n ds ≡ cs
truncated cs ds ms n takes is =
    ap (take n) takes.added ∙ take-append-le n cs (takes.clause ∷ []) (omega (arith, is)) ∙ take_all n cs (omega (arith, is))

pub Implies-taken-part : (fs : List Bool) (cs ds : List Clause) (os : List Ids) (ms : List Bool) (b : Bool) (n : ℕ) (derived c : Clause) → IsTrue b
    → TakesMarked ms cs ds → n ≡ length cs → slice_get ds n ≡ Some derived → AreHadBy c derived → IsRatKernel fs cs os ms b
    → Implies (original_among fs cs) c
Implies-taken-part fs cs ds os ms b n derived c is_open takes is at had kernel =
    let same : takes.clause ≡ derived =
    same_some takes.clause derived
    (sym (stands_last cs takes.clause) ∙ ap (λ es. slice_get es (length cs)) (sym takes.added) ∙ ap (slice_get ds) (sym is) ∙ at)
    in
    Implies-concluded fs cs os ms b derived c is_open (subst (AreListed ms) same takes.all) had kernel

pub KeepsSatisfiable-added : (old mid new : Formula) (c : Clause) → mid ≡ old → new ≡ mid ++ c ∷ [] → Implies old c → KeepsSatisfiable old new
KeepsSatisfiable-added old mid new c same added implied =
    subst (KeepsSatisfiable old) (sym (added ∙ ap (λ f. f ++ c ∷ []) same)) (KeepsSatisfiable-implied old c implied)

-- a clause is deleted
still_flagged : (fs : List Bool) (id k : ℕ) → slice_index_or (set fs id false) k false ≡ true → slice_index_or fs k false ≡ true
still_flagged fs id k flagged =
    ⊎_elim
    (λ same. absurd (false≢true (sym (gone fs id) ∙ ap (λ p. slice_index_or (set fs id false) p false) (sym same) ∙ flagged)))
    (λ other. sym (get_or-set_other fs id k false false other) ∙ flagged)
    (cases_eq k id)
  where
    gone : (fs : List Bool) (id : ℕ) → slice_index_or (set fs id false) id false ≡ false
    gone fs id =
        ⊎_elim (λ within. get_or-set_same fs id false false within)
        (λ past. get_or_past (set fs id false) id false (omega (arith, past, length-set fs id false)))
        (cases_lt id (length fs))

pub KeepsSatisfiable-deleted : (fs : List Bool) (cs : List Clause) (id : ℕ)
    → KeepsSatisfiable (original_among fs cs) (original_among (set fs id false) cs)
KeepsSatisfiable-deleted fs cs id (a, sat) =
    (a, satisfies-original a (set fs id false) cs (λ k c flagged at. satisfies-flagged a fs cs k c sat (still_flagged fs id k flagged) at))

-- the literals of a clause change their places
satisfies-reordered : (a : Assignment) (fs : List Bool) (cs ds : List Clause) → Reorders cs ds → IsTrue (satisfies a (original_among fs cs))
    → IsTrue (satisfies a (original_among fs ds))
satisfies-reordered a fs cs ds same sat =
    satisfies-original a fs ds (λ k d flagged at.
    let was = same k d at in
    let found = true_literal a was.0 (satisfies-flagged a fs cs k was.0 sat flagged was.1) in
    let has = (was.2 found.0).1 found.1 in
    satisfied_by a d has.0 found.0 has.1 found.2)

-- as many clauses, each of which has the literals of the old one, say nothing else the other way round
get_within : {A : Type 0} (xs : List A) (k : ℕ) → k < length xs → (x : A) × (slice_get xs k ≡ Some x)
get_within [] k within = absurd (omega (arith, within))
get_within (x ∷ xs) zero within = (x, refl)
get_within (x ∷ xs) (suc k) within = get_within xs k (omega (arith, within))

Reorders-back : (cs ds : List Clause) → length ds ≡ length cs → Reorders cs ds → Reorders ds cs
Reorders-back cs ds len same k c at =
    let now = get_within ds k (omega (arith, len, slice_get_within cs k c at)) in
    let was = same k now.0 now.1 in
    let is : was.0 ≡ c = same_some was.0 c (sym was.1 ∙ at) in
    (now.0, now.1, λ l. subst (λ e. (Has e l → Has now.0 l) × (Has now.0 l → Has e l)) is ((was.2 l).1, (was.2 l).0))

pub KeepsSatisfiable-swapped : (fs : List Bool) (cs ds : List Clause) → Reorders cs ds
    → KeepsSatisfiable (original_among fs cs) (original_among fs ds)
KeepsSatisfiable-swapped fs cs ds same (a, sat) = (a, satisfies-reordered a fs cs ds same sat)

pub IsRatKernel-swapped : (fs : List Bool) (cs ds : List Clause) (os : List Ids) (ms : List Bool) (b : Bool) → length ds ≡ length cs → Reorders cs ds
    → IsRatKernel fs cs os ms b → IsRatKernel fs ds os ms b
IsRatKernel-swapped fs cs ds os ms b len same is = record {
  as_many = is.as_many ∙ sym len;
  covers = Covers-reordered os cs ds same is.covers;
  follows = λ e. record {
    follows = λ a sat. (is.follows e).follows a (satisfies-reordered a fs ds cs (Reorders-back cs ds len same) sat);
  };
}

-- deleted clauses go
pub retained-flagged : (fs : List Bool) (cs : List Clause) → length fs ≡ length cs → retained fs cs ≡ original_among fs cs
retained-flagged [] [] same = refl
retained-flagged [] (c ∷ cs) same = absurd (omega (arith, same))
retained-flagged (flag ∷ fs) [] same = absurd (omega (arith, same))
retained-flagged (true ∷ fs) (c ∷ cs) same = ap (λ f. c ∷ f) (retained-flagged fs cs (omega (arith, same)))
retained-flagged (false ∷ fs) (c ∷ cs) same = retained-flagged fs cs (omega (arith, same))

-- the assignment that makes the literal true, and else is the same
abbrev flip : Lit → Assignment → Assignment
flip l a = λ v. if v == l.variable then l.positive else a v

flip_makes_true : (l : Lit) (a : Assignment) → is_true (flip l a) l ≡ true
flip_makes_true l a =
    ⊎_elim (λ same. ap (λ t. beq (if t then l.positive else a l.variable) l.positive) same.0 ∙ bool_eq_equiv.refl l.positive)
    (λ other. absurd (other.1 refl)) (eqb_tells l.variable l.variable)

same_sign : (v w : ℕ) (b c : Bool) → v ≡ w
    → ◌≢◌ {A = Lit} (record { variable = v; positive = b }) (record { variable = w; positive = not c }) → beq c b ≡ true
same_sign v w true true same other = refl
same_sign v w false false same other = refl
same_sign v w true false same other = absurd (other (ap (λ u. record { variable = u; positive = true }) same))
same_sign v w false true same other = absurd (other (ap (λ u. record { variable = u; positive = false }) same))

-- it makes no literal false but the negation
flip_keeps : (l : Lit) (a : Assignment) (m : Lit) → m ≢ negated l → is_true a m ≡ true → is_true (flip l a) m ≡ true
flip_keeps l a m other was =
    ⊎_elim
    (λ same. ap (λ t. beq (if t then l.positive else a m.variable) m.positive) same.0
    ∙ same_sign m.variable l.variable m.positive l.positive same.1 other)
    (λ apart. ap (λ t. beq (if t then l.positive else a m.variable) m.positive) apart.0 ∙ was)
    (eqb_tells m.variable l.variable)

-- a clause of the formula stays true where the pivot of a false clause is flipped, if it is resolved
flip_clause : (f : Formula) (pivot : Lit) (c : Clause) (a : Assignment) (d : Clause) → IsTrue (satisfies a f) → satisfies_clause a c ≡ false
    → satisfies_clause a d ≡ true → (Has d (negated pivot) → HasResolvent f (negated pivot) c d)
    → satisfies_clause (flip pivot a) d ≡ true
flip_clause f pivot c a d sat none some resolved =
    let found = true_literal a d some in
    ⊎_elim
    (λ same.
    let has : Has d (negated pivot) = (found.1.0, found.1.1 ∙ ap Some same) in
    let part = resolved has in
    let other = true_literal a part.0 (satisfies-at a f part.1.0 part.0 sat part.1.1) in
    ⊎_elim (λ of_c. absurd (false≢true (sym none ∙ satisfied_by a c of_c.0 other.0 of_c.1 other.2)))
    (λ of_d. satisfied_by (flip pivot a) d of_d.0.0 other.0 of_d.0.1 (flip_keeps pivot a other.0 of_d.1 other.2))
    (part.2 other.0 other.1))
    (λ apart. satisfied_by (flip pivot a) d found.1.0 found.0 found.1.1 (flip_keeps pivot a found.0 apart found.2))
    (cases_literal found.0 (negated pivot))

-- a clause that is RAT is added
pub KeepsSatisfiable-rat : (fs : List Bool) (cs : List Clause) (pivot : Lit) (c : Clause) → slice_get c 0 ≡ Some pivot
    → AreResolved fs cs (negated pivot) c (length cs)
    → KeepsSatisfiable (original_among fs cs) (original_among fs cs ++ c ∷ [])
KeepsSatisfiable-rat fs cs pivot c first resolved (a, sat) =
    let f = original_among fs cs in
    ⊎_elim (λ some. (a, satisfies-push a f c sat some))
    (λ none. (
      flip pivot a,
      satisfies-push (flip pivot a) f c
          (satisfies-original (flip pivot a) fs cs (λ k d flagged at.
          flip_clause f pivot c a d sat none (satisfies-flagged a fs cs k d sat flagged at)
          (λ has. resolved k d (slice_get_within cs k d at) flagged at has)))
          (satisfied_by (flip pivot a) c 0 pivot first (flip_makes_true pivot a)),
    ))
    (cases_Bool (satisfies_clause a c))

-- one clause more was looked at
pub AreResolved-next : (fs : List Bool) (cs : List Clause) (but : Lit) (c : Clause) (i : ℕ)
    → ((d : Clause) → slice_index_or fs i false ≡ true → slice_get cs i ≡ Some d → Has d but → HasResolvent (original_among fs cs) but c d)
    → AreResolved fs cs but c i → AreResolved fs cs but c (i + 1)
AreResolved-next fs cs but c i here all k d less flagged at has =
    ⊎_elim (λ earlier. all k d earlier flagged at has)
    (λ later.
    let same : k ≡ i = omega (arith, less, later) in
    here d (ap (λ p. slice_index_or fs p false) (sym same) ∙ flagged) (ap (slice_get cs) (sym same) ∙ at) has)
    (cases_lt k i)

pub HasResolvent-at : (fs : List Bool) (cs : List Clause) (but : Lit) (c d part : Clause) (k : ℕ) → slice_index_or fs k false ≡ true
    → slice_get cs k ≡ Some part → IsOfResolvent but c d part → HasResolvent (original_among fs cs) but c d
HasResolvent-at fs cs but c d part k flagged at of = (part, original_among-has fs cs k part flagged at, of)
