-- The circuit that saves: with each lasso it fails, and where it is safe, the circuit is live.
use Rattle.std.proofs.Common.{◌≡◌, ⊎_elim, ℕ, zero, suc, ◌+◌, ◌-◌, ◌*◌, ◌<◌, ◌≤◌, ◌++◌, ◌&&◌, ◌||◌, eqb, ltb, cond, get_or, Bool, true, false, not, List, [], ◌∷◌, length, IsTrue, arith, refl, sym, ap, subst, ◌∙◌}
use Rattle.std.specs.Prelude.{slice_get, Some}
use Rattle.std.specs.Bool.{beq}
use Rattle.std.specs.Cmp.{booleans_Decides}
use Rattle.std.specs.List.{list_all}
use Rattle.std.proofs.lemmas.Bool.{and_from, and_parts, cases_Bool, cases_lt, cond-false, cond-true, eq-eqb, eqb-true, le-ltb, lt-ltb, or_left}
use Rattle.std.proofs.lemmas.List.Folds.{list_all-append}
use Rattle.std.proofs.lemmas.Option.{slice_get-get_or}
use Rattle.gipsat_cnf.specs.Prelude.{Assignment, Lit, is_true, makes_true}
use Rattle.gipsat_cnf.proofs.Formulas.{all-at}
use Rattle.gipmc_circuits.specs.declared.circuit.And.{And}
use Rattle.gipmc_circuits.specs.declared.circuit.Circuit.{Circuit}
use Rattle.gipmc_circuits.specs.declared.circuit.Latch.{Latch}
use Rattle.gipmc_circuits.specs.Prelude.{IsSafe, IsTrace, has_value, holds_next, holds_reset, is_below, is_initial, is_moment, is_transition, is_valuation, latch_variables}
use Rattle.gipmc_circuits.proofs.Agreeing.{AgreeBelow, below-parts, is_initial-alike, is_moment-alike, is_transition-alike, is_true-alike}
use Rattle.gipmc_circuits.proofs.Widened.{IsTrace-widened}
use Rattle.gipmc_reduce.specs.Chains.{not_of, yes_of}
use Rattle.gipmc_reduce.specs.Lassos.{LoopsBack}
use Rattle.gipmc_reduce.specs.Liveness.{IsLive}
use Rattle.gipmc_reduce.specs.Saved.{FailsByLassos, IsSaverFrom, IsSaverOf, IsSaving, first_gate, gate, last_of, latch, note, note_latches, notes, saver_gates, saver_latches, saving, shadow, shadow_latches, shadows}
use Rattle.gipmc_reduce.specs.Turns.{always}
use Rattle.gipmc_reduce.proofs.Rounds.{IsLive-without_lasso}
use Rattle.gipmc_reduce.proofs.Savers.{IsWidened-saving, at_below, is_below-more, lit_below, variables_below}

-- What latches and gates do along n transitions.

record Runs (n : ℕ) (ls : List Latch) (gs : List And) (u : ℕ → Assignment) : Type 0 where
  first : IsTrue (list_all (holds_reset (u 0)) ls)
  gates : (i : ℕ) → i ≤ n → IsTrue (list_all (has_value (u i)) gs)
  latches : (i : ℕ) → i < n → IsTrue (list_all (holds_next (u i) (u (i + 1))) ls)

append_parts : {X : Type 0} (p : X → Bool) (xs ys : List X) → IsTrue (list_all p (xs ++ ys))
    → IsTrue (list_all p xs) × IsTrue (list_all p ys)
append_parts p xs ys all = and_parts (list_all p xs) (list_all p ys) (sym (list_all-append p xs ys) ∙ all)

before : (n : ℕ) (ls ms : List Latch) (gs hs : List And) (u : ℕ → Assignment) → Runs n (ls ++ ms) (gs ++ hs) u → Runs n ls gs u
before n ls ms gs hs u runs = record {
  first = (append_parts (holds_reset (u 0)) ls ms runs.first).0;
  gates = λ i within. (append_parts (has_value (u i)) gs hs (runs.gates i within)).0;
  latches = λ i less. (append_parts (holds_next (u i) (u (i + 1))) ls ms (runs.latches i less)).0;
}

behind : (n : ℕ) (ls ms : List Latch) (gs hs : List And) (u : ℕ → Assignment) → Runs n (ls ++ ms) (gs ++ hs) u → Runs n ms hs u
behind n ls ms gs hs u runs = record {
  first = (append_parts (holds_reset (u 0)) ls ms runs.first).1;
  gates = λ i within. (append_parts (has_value (u i)) gs hs (runs.gates i within)).1;
  latches = λ i less. (append_parts (holds_next (u i) (u (i + 1))) ls ms (runs.latches i less)).1;
}

same_value : (x y : Bool) → IsTrue (beq x y) → x ≡ y
same_value x y is = (booleans_Decides x y).0 is

gate_at : (a : Assignment) (gs : List And) (k g : ℕ) (l r : Lit) → IsTrue (list_all (has_value a) gs) → slice_get gs k ≡ Some (gate g l r)
    → a g ≡ (is_true a l && is_true a r)
gate_at a gs k g l r all at =
    same_value (a g) (is_true a l && is_true a r) (all-at (has_value a) gs k (gate g l r) all at)

latch_next : (x g : ℕ) (a d : Assignment) → IsTrue (list_all (holds_next a d) (latch x g ∷ [])) → d x ≡ beq (a g) false
latch_next x g a d all = same_value (d x) (beq (a g) false) (and_parts (holds_next a d (latch x g)) true all).0

latch_first : (x g : ℕ) (a : Assignment) → IsTrue (list_all (holds_reset a) (latch x g ∷ [])) → a x ≡ false
latch_first x g a all = same_value (a x) false (and_parts (holds_reset a (latch x g)) true all).0

mux_of : (s y x : Bool) → beq (beq (beq s true && beq y true) false && beq (beq s false && beq x true) false) false ≡ cond s y x
mux_of true true true = refl
mux_of true true false = refl
mux_of true false true = refl
mux_of true false false = refl
mux_of false true true = refl
mux_of false true false = refl
mux_of false false true = refl
mux_of false false false = refl

same_of : (p y x : Bool)
    → (beq p true && beq (beq (beq y true && beq x false) false && beq (beq y false && beq x true) false) true) ≡ (p && beq y x)
same_of true true true = refl
same_of true true false = refl
same_of true false true = refl
same_of true false false = refl
same_of false true true = refl
same_of false true false = refl
same_of false false true = refl
same_of false false false = refl

either_of : (z n l : Bool) → beq (beq z false && beq (beq n false && l) false) false ≡ (z || (not n && l))
either_of true true true = refl
either_of true true false = refl
either_of true false true = refl
either_of true false false = refl
either_of false true true = refl
either_of false true false = refl
either_of false false true = refl
either_of false false false = refl

both_of : (x y : Bool) → (beq x true && beq y true) ≡ (x && y)
both_of true true = refl
both_of true false = refl
both_of false true = refl
both_of false false = refl

-- a shadow is next what it is where something is saved, and else what is to be kept
shadow-next : (s x y b n : ℕ) (u : ℕ → Assignment) → Runs n (latch y (b + 3) ∷ []) (shadow s x y b) u → (i : ℕ) → i < n
    → u (i + 1) y ≡ cond (u i s) (u i y) (u i x)
shadow-next s x y b n u runs i less =
    let a = u i in
    let all = runs.gates i (omega (arith, less)) in
    let kept : a (b + 1) ≡ (beq (a s) true && beq (a y) true) = gate_at a (shadow s x y b) 0 (b + 1) (yes_of s) (yes_of y) all refl in
    let taken : a (b + 2) ≡ (beq (a s) false && beq (a x) true) = gate_at a (shadow s x y b) 1 (b + 2) (not_of s) (yes_of x) all refl in
    let neither : a (b + 3) ≡ (beq (a (b + 1)) false && beq (a (b + 2)) false) =
    gate_at a (shadow s x y b) 2 (b + 3) (not_of (b + 1)) (not_of (b + 2)) all refl in
    latch_next y (b + 3) a (u (i + 1)) (runs.latches i less)
    ∙ ap (λ v. beq v false) neither
    ∙ ap (λ v. beq (beq v false && beq (a (b + 2)) false) false) kept
    ∙ ap (λ v. beq (beq (beq (a s) true && beq (a y) true) false && beq v false) false) taken
    ∙ mux_of (a s) (a y) (a x)

-- its last gate tells that it is the same, and that those before are
shadow-same : (s x y b n : ℕ) (u : ℕ → Assignment) → Runs n (latch y (b + 3) ∷ []) (shadow s x y b) u → (i : ℕ) → i ≤ n
    → u i (b + 7) ≡ (u i b && beq (u i y) (u i x))
shadow-same s x y b n u runs i within =
    let a = u i in
    let all = runs.gates i within in
    let one : a (b + 4) ≡ (beq (a y) true && beq (a x) false) = gate_at a (shadow s x y b) 3 (b + 4) (yes_of y) (not_of x) all refl in
    let other : a (b + 5) ≡ (beq (a y) false && beq (a x) true) = gate_at a (shadow s x y b) 4 (b + 5) (not_of y) (yes_of x) all refl in
    let neither : a (b + 6) ≡ (beq (a (b + 4)) false && beq (a (b + 5)) false) =
    gate_at a (shadow s x y b) 5 (b + 6) (not_of (b + 4)) (not_of (b + 5)) all refl in
    let so : a (b + 7) ≡ (beq (a b) true && beq (a (b + 6)) true) =
    gate_at a (shadow s x y b) 6 (b + 7) (yes_of b) (yes_of (b + 6)) all refl in
    so
    ∙ ap (λ v. beq (a b) true && beq v true) neither
    ∙ ap (λ v. beq (a b) true && beq (beq v false && beq (a (b + 5)) false) true) one
    ∙ ap (λ v. beq (a b) true && beq (beq (beq (a y) true && beq (a x) false) false && beq v false) true) other
    ∙ same_of (a b) (a y) (a x)

-- a note is next true where it is, or where its literal is, and something is saved
note-next : (f z b n : ℕ) (l : Lit) (u : ℕ → Assignment) → Runs n (latch z (b + 2) ∷ []) (note f l z b) u → (i : ℕ) → i < n
    → u (i + 1) z ≡ (u i z || (not (u i f) && is_true (u i) l))
note-next f z b n l u runs i less =
    let a = u i in
    let all = runs.gates i (omega (arith, less)) in
    let now : a (b + 1) ≡ (beq (a f) false && is_true a l) = gate_at a (note f l z b) 0 (b + 1) (not_of f) l all refl in
    let neither : a (b + 2) ≡ (beq (a z) false && beq (a (b + 1)) false) =
    gate_at a (note f l z b) 1 (b + 2) (not_of z) (not_of (b + 1)) all refl in
    latch_next z (b + 2) a (u (i + 1)) (runs.latches i less)
    ∙ ap (λ v. beq v false) neither
    ∙ ap (λ v. beq (beq (a z) false && beq v false) false) now
    ∙ either_of (a z) (a f) (is_true a l)

note-same : (f z b n : ℕ) (l : Lit) (u : ℕ → Assignment) → Runs n (latch z (b + 2) ∷ []) (note f l z b) u → (i : ℕ) → i ≤ n
    → u i (b + 3) ≡ (u i b && u i z)
note-same f z b n l u runs i within =
    let so : u i (b + 3) ≡ (beq (u i b) true && beq (u i z) true) =
    gate_at (u i) (note f l z b) 2 (b + 3) (yes_of b) (yes_of z) (runs.gates i within) refl in
    so ∙ both_of (u i b) (u i z)

-- A trace that saves at one moment alone, start.

-- something is saved behind this moment, and not before
record SavedAt (s f start n : ℕ) (u : ℕ → Assignment) : Type 0 where
  not_yet : u start s ≡ false
  saved : (i : ℕ) → start < i → i ≤ n → u i s ≡ true
  inside : (i : ℕ) → start ≤ i → i ≤ n → u i f ≡ false

-- the shadow keeps what the latch held then
kept : (s f x y b start n : ℕ) (u : ℕ → Assignment) → Runs n (latch y (b + 3) ∷ []) (shadow s x y b) u → SavedAt s f start n u
    → (d : ℕ) → start + 1 + d ≤ n → u (start + 1 + d) y ≡ u start x
kept s f x y b start n u runs at zero within =
    let none : start + 1 + 0 ≡ start + 1 = omega arith in
    ap (λ i. u i y) none ∙ shadow-next s x y b n u runs start (omega (arith, within))
    ∙ cond-false (u start s) (u start y) (u start x) at.not_yet
kept s f x y b start n u runs at (suc d) within =
    let i = start + 1 + d in
    let next : start + 1 + suc d ≡ i + 1 = omega arith in
    ap (λ j. u j y) next ∙ shadow-next s x y b n u runs i (omega (arith, within))
    ∙ cond-true (u i s) (u i y) (u i x) (at.saved i (omega arith) (omega (arith, within)))
    ∙ kept s f x y b start n u runs at d (omega (arith, within))

-- where the latches hold again what they held then, the gates say so
shadows-same : (s f y b start n : ℕ) (xs : List ℕ) (k : ℕ) (u : ℕ → Assignment)
    → Runs n (shadow_latches y b k) (shadows s y b xs k) u → SavedAt s f start n u → start < n
    → ((j : ℕ) → u n (get_or xs j 0) ≡ u start (get_or xs j 0)) → u n b ≡ true → u n (b + 7 * k) ≡ true
shadows-same s f y b start n xs zero u runs at less again is =
    let none : b + 7 * 0 ≡ b = omega arith in ap (u n) none ∙ is
shadows-same s f y b start n xs (suc k) u runs at less again is =
    let x = get_or xs k 0 in
    let ls = latch (y + k) (b + 7 * k + 3) ∷ [] in
    let gs = shadow s x (y + k) (b + 7 * k) in
    let first = before n (shadow_latches y b k) ls (shadows s y b xs k) gs u runs in
    let last = behind n (shadow_latches y b k) ls (shadows s y b xs k) gs u runs in
    let so_far = shadows-same s f y b start n xs k u first at less again is in
    let whole : start + 1 + (n - (start + 1)) ≡ n = omega (arith, less) in
    let keeps : u n (y + k) ≡ u start x =
    ap (λ i. u i (y + k)) (sym whole)
    ∙ kept s f x (y + k) (b + 7 * k) start n u last at (n - (start + 1)) (omega (arith, less)) in
    let same : beq (u n (y + k)) (u n x) ≡ true = (booleans_Decides (u n (y + k)) (u n x)).1 (keeps ∙ sym (again k)) in
    let next : b + 7 * suc k ≡ b + 7 * k + 7 = omega arith in
    ap (u n) next ∙ shadow-same s x (y + k) (b + 7 * k) n u last n (omega arith)
    ∙ and_from (u n (b + 7 * k)) (beq (u n (y + k)) (u n x)) so_far same

or_yes : (z b : Bool) → b ≡ true → (z || b) ≡ true
or_yes true b is = refl
or_yes false b is = is

-- what is true inside is noted behind it
noted : (s f z b start n : ℕ) (l : Lit) (u : ℕ → Assignment) → Runs n (latch z (b + 2) ∷ []) (note f l z b) u → SavedAt s f start n u
    → (m : ℕ) → start ≤ m → IsTrue (is_true (u m) l) → (d : ℕ) → m + 1 + d ≤ n → u (m + 1 + d) z ≡ true
noted s f z b start n l u runs at m from is zero within =
    let none : m + 1 + 0 ≡ m + 1 = omega arith in
    let inside : not (u m f) ≡ true = ap not (at.inside m from (omega (arith, within))) in
    ap (λ i. u i z) none ∙ note-next f z b n l u runs m (omega (arith, within))
    ∙ or_yes (u m z) (not (u m f) && is_true (u m) l) (and_from (not (u m f)) (is_true (u m) l) inside is)
noted s f z b start n l u runs at m from is (suc d) within =
    let i = m + 1 + d in
    let next : m + 1 + suc d ≡ i + 1 = omega arith in
    let stays = noted s f z b start n l u runs at m from is d (omega (arith, within)) in
    ap (λ j. u j z) next ∙ note-next f z b n l u runs i (omega (arith, within))
    ∙ or_left (u i z) (not (u i f) && is_true (u i) l) stays

-- where each of the literals was true inside, the gates say so
notes-same : (s f z b start n : ℕ) (ls : List Lit) (k : ℕ) (u : ℕ → Assignment) → Runs n (note_latches z b k) (notes f z b ls k) u
    → SavedAt s f start n u
    → ((j : ℕ) → j < k → (m : ℕ) × (start ≤ m) × (m < n) × IsTrue (is_true (u m) (get_or ls j always)))
    → u n b ≡ true → u n (b + 3 * k) ≡ true
notes-same s f z b start n ls zero u runs at met is =
    let none : b + 3 * 0 ≡ b = omega arith in ap (u n) none ∙ is
notes-same s f z b start n ls (suc k) u runs at met is =
    let l = get_or ls k always in
    let ms = latch (z + k) (b + 3 * k + 2) ∷ [] in
    let gs = note f l (z + k) (b + 3 * k) in
    let first = before n (note_latches z b k) ms (notes f z b ls k) gs u runs in
    let last = behind n (note_latches z b k) ms (notes f z b ls k) gs u runs in
    let so_far = notes-same s f z b start n ls k u first at (λ j less. met j (omega (arith, less))) is in
    let (m, from, upto, there) = met k (omega arith) in
    let whole : m + 1 + (n - (m + 1)) ≡ n = omega (arith, upto) in
    let now : u n (z + k) ≡ true =
    ap (λ i. u i (z + k)) (sym whole)
    ∙ noted s f (z + k) (b + 3 * k) start n l u last at m from there (n - (m + 1)) (omega (arith, upto)) in
    let next : b + 3 * suc k ≡ b + 3 * k + 3 = omega arith in
    ap (u n) next ∙ note-same f (z + k) (b + 3 * k) n l u last n (omega arith)
    ∙ and_from (u n (b + 3 * k)) (u n (z + k)) so_far now

-- the latch that something is saved
saved-next : (n s f m : ℕ) (u : ℕ → Assignment) → Runs m (latch s f ∷ []) (saving n s f) u → (i : ℕ) → i < m
    → u (i + 1) s ≡ (u i s || u i n)
saved-next n s f m u runs i less =
    let outside : u i f ≡ (beq (u i s) false && beq (u i n) false) =
    gate_at (u i) (saving n s f) 0 f (not_of s) (not_of n) (runs.gates i (omega (arith, less))) refl in
    latch_next s f (u i) (u (i + 1)) (runs.latches i less) ∙ ap (λ v. beq v false) outside ∙ neither_of (u i s) (u i n)
  where
    neither_of : (x y : Bool) → beq (beq x false && beq y false) false ≡ (x || y)
    neither_of true true = refl
    neither_of true false = refl
    neither_of false true = refl
    neither_of false false = refl

-- it is true exactly behind the moment that saves
saved_not : (n s f m start : ℕ) (u : ℕ → Assignment) → Runs m (latch s f ∷ []) (saving n s f) u
    → ((i : ℕ) → i ≤ m → u i n ≡ eqb i start) → (i : ℕ) → i ≤ start → i ≤ m → u i s ≡ false
saved_not n s f m start u runs saves zero upto within = latch_first s f (u 0) runs.first
saved_not n s f m start u runs saves (suc i) upto within =
    let next : suc i ≡ i + 1 = omega arith in
    let other : eqb i start ≡ false = eqb-not i start (omega (arith, upto)) in
    ap (λ j. u j s) next ∙ saved-next n s f m u runs i (omega (arith, within))
    ∙ ap (λ v. v || u i n) (saved_not n s f m start u runs saves i (omega (arith, upto)) (omega (arith, within)))
    ∙ saves i (omega (arith, within)) ∙ other
  where
    unlike : (a b : ℕ) → a < b → a ≡ b → ⊥
    unlike a b less same = omega (arith, less, same)

    eqb-not : (a b : ℕ) → a < b → eqb a b ≡ false
    eqb-not a b less = ⊎_elim (λ same. absurd (unlike a b less (eqb-true a b same))) (λ is. is) (cases_Bool (eqb a b))

saved_on : (n s f m start : ℕ) (u : ℕ → Assignment) → Runs m (latch s f ∷ []) (saving n s f) u
    → ((i : ℕ) → i ≤ m → u i n ≡ eqb i start) → (d : ℕ) → start + 1 + d ≤ m → u (start + 1 + d) s ≡ true
saved_on n s f m start u runs saves zero within =
    let none : start + 1 + 0 ≡ start + 1 = omega arith in
    ap (λ j. u j s) none ∙ saved-next n s f m u runs start (omega (arith, within))
    ∙ or_yes (u start s) (u start n) (saves start (omega (arith, within)) ∙ eq-eqb start start refl)
saved_on n s f m start u runs saves (suc d) within =
    let i = start + 1 + d in
    let next : start + 1 + suc d ≡ i + 1 = omega arith in
    ap (λ j. u j s) next ∙ saved-next n s f m u runs i (omega (arith, within))
    ∙ or_left (u i s) (u i n) (saved_on n s f m start u runs saves d (omega (arith, within)))

SavedAt-saving : (n s f m start : ℕ) (u : ℕ → Assignment) → Runs m (latch s f ∷ []) (saving n s f) u → start ≤ m
    → ((i : ℕ) → i ≤ m → u i n ≡ eqb i start) → SavedAt s f start m u
SavedAt-saving n s f m start u runs within saves = record {
  not_yet = saved_not n s f m start u runs saves start (omega arith) within;
  saved = on;
  inside = λ i from upto.
      outside_at i upto ∙ ⊎_elim
      (λ less. ap (λ v. beq v false && beq (u i n) false) (on i less upto))
      (λ more. ap (λ v. beq (u i s) false && beq v false) (saves i upto ∙ eq-eqb i start (omega (arith, from, more)))
      ∙ no_right (beq (u i s) false))
      (cases_lt start i);
}
  where
    on : (i : ℕ) → start < i → i ≤ m → u i s ≡ true
    on i less upto =
        let whole : start + 1 + (i - (start + 1)) ≡ i = omega (arith, less) in
        subst (λ j. u j s ≡ true) whole (saved_on n s f m start u runs saves (i - (start + 1)) (omega (arith, less, upto)))

    outside_at : (i : ℕ) → i ≤ m → u i f ≡ (beq (u i s) false && beq (u i n) false)
    outside_at i upto = gate_at (u i) (saving n s f) 0 f (not_of s) (not_of n) (runs.gates i upto) refl

    no_right : (b : Bool) → (b && false) ≡ false
    no_right true = refl
    no_right false = refl

-- The trace of a lasso: round the loop, to the moment at which it starts.

abbrev moment_of : ℕ → ℕ → ℕ → ℕ
moment_of start m i = cond (ltb m i) start i

-- the values there, with the input that saves
abbrev saving_at : ℕ → ℕ → ℕ → (ℕ → Assignment) → ℕ → Assignment
saving_at n start m t i v = cond (eqb v n) (eqb i start) (t (moment_of start m i) v)

moment_within : (start m i : ℕ) → i ≤ m → moment_of start m i ≡ i
moment_within start m i within = cond-false (ltb m i) start i (le-ltb m i within)

moment_past : (start m : ℕ) → moment_of start m (m + 1) ≡ start
moment_past start m = cond-true (ltb m (m + 1)) start (m + 1) (lt-ltb m (m + 1) (omega arith))

saving_at-agrees : (n start m : ℕ) (t : ℕ → Assignment) (i : ℕ) → AgreeBelow n (saving_at n start m t i) (t (moment_of start m i))
saving_at-agrees n start m t i v less =
    cond-false (eqb v n) (eqb i start) (t (moment_of start m i) v)
    (⊎_elim (λ same. absurd (unlike v n less (eqb-true v n same))) (λ is. is) (cases_Bool (eqb v n)))
  where
    unlike : (a b : ℕ) → a < b → a ≡ b → ⊥
    unlike a b less same = omega (arith, less, same)

IsTrace-saving_at : (n start m : ℕ) (c : Circuit) (t : ℕ → Assignment) → IsTrue (is_below n c) → LoopsBack c start m t
    → IsTrace c (m + 1) (saving_at n start m t)
IsTrace-saving_at n start m c t below is =
    let v = saving_at n start m t in
    let agree = saving_at-agrees n start m t in
    record {
      initial =
          is_initial-alike n c (v 0) (t (moment_of start m 0)) below (agree 0)
          ∙ ap (λ i. is_initial c (t i)) (moment_within start m 0 (omega arith)) ∙ is.trace.initial;
      moments = λ i within.
          is_moment-alike n c (v i) (t (moment_of start m i)) below (agree i) ∙ moment i within;
      transitions = λ i less.
          is_transition-alike n c (v i) (t (moment_of start m i)) (v (i + 1)) (t (moment_of start m (i + 1))) below (agree i) (agree (i + 1))
          ∙ goes i less;
    }
  where
    moment : (i : ℕ) → i ≤ m + 1 → is_moment c (t (moment_of start m i)) ≡ true
    moment i within =
        ⊎_elim
        (λ past. ap (λ j. is_moment c (t j)) (cond-true (ltb m i) start i (lt-ltb m i past)) ∙ is.trace.moments start is.within)
        (λ upto. ap (λ j. is_moment c (t j)) (moment_within start m i upto) ∙ is.trace.moments i upto)
        (cases_lt m i)

    goes : (i : ℕ) → i < m + 1 → is_transition c (t (moment_of start m i)) (t (moment_of start m (i + 1))) ≡ true
    goes i less =
        let here = moment_within start m i (omega (arith, less)) in
        ap (λ j. is_transition c (t j) (t (moment_of start m (i + 1)))) here
        ∙ ⊎_elim
        (λ more. ap (λ j. is_transition c (t i) (t j)) (moment_within start m (i + 1) (omega (arith, more))) ∙ is.trace.transitions i more)
        (λ end. let last : i ≡ m = omega (arith, end, less) in
        ap (λ j. is_transition c (t i) (t (moment_of start m (j + 1)))) last
        ∙ ap (λ j. is_transition c (t i) (t j)) (moment_past start m)
        ∙ ap (λ j. is_transition c (t j) (t start)) last ∙ is.back)
        (cases_lt i m)

Runs-saving : (n : ℕ) (c : Circuit) (e : Circuit) (ls : List Lit) (m : ℕ) (u : ℕ → Assignment)
    → IsSaving n c e ls → IsTrace e m u → Runs m (saver_latches n (latch_variables c) ls) (saver_gates n (latch_variables c) ls) u
Runs-saving n c e ls m u is trace =
    let xs = latch_variables c in
    behind m c.latches.items (saver_latches n xs ls) c.gates.items (saver_gates n xs ls) u (record {
      first = subst (λ ks. IsTrue (list_all (holds_reset (u 0)) ks)) is.latches trace.initial;
      gates = λ i within.
          let valuation = (and_parts (is_valuation e (u i)) (makes_true (u i) e.constraints.items) (trace.moments i within)).0 in
          subst (λ gs. IsTrue (list_all (has_value (u i)) gs)) is.gates
          (and_parts (not (u i 0)) (list_all (has_value (u i)) e.gates.items) valuation).1;
      latches = λ i less. subst (λ ks. IsTrue (list_all (holds_next (u i) (u (i + 1))) ks)) is.latches (trace.transitions i less);
    })

-- each lasso is a trace that fails, with one transition more
FailsByLassos-from : (n : ℕ) (c : Circuit) (ls : List Lit) (e : Circuit) (bad : Lit) → IsSaverFrom n c ls e bad
    → FailsByLassos c ls e bad
FailsByLassos-from n c ls e bad is m (start, t, loops, met) =
    let parts = below-parts n c is.fresh in
    let xs = latch_variables c in
    let f = first_gate n (length xs) (length ls) in
    let v = saving_at n start m t in
    let (u, longer, agree) =
    IsTrace-widened (n + 1) c e (m + 1) v (IsWidened-saving n c e ls is.saves is.fresh is.within) (is_below-more n c is.fresh)
    (IsTrace-saving_at n start m c t is.fresh loops) in
    let alike : (i : ℕ) → AgreeBelow n (u i) (t (moment_of start m i)) = λ i w less.
    agree i w (omega (arith, less)) ∙ saving_at-agrees n start m t i w less in
    let within : start ≤ m = loops.within in
    let saves : (i : ℕ) → i ≤ m + 1 → u i n ≡ eqb i start = λ i upto.
    agree i n (omega arith) ∙ cond-true (eqb n n) (eqb i start) (t (moment_of start m i) n) (eq-eqb n n refl) in
    let runs = Runs-saving n c e ls (m + 1) u is.saves longer in
    let S = shadow_latches (n + 2) (f + 1) (length xs) in
    let N = note_latches (n + 2 + length xs) (f + 1 + 7 * length xs) (length ls) in
    let G = shadows (n + 1) (n + 2) (f + 1) xs (length xs) in
    let H = notes f (n + 2 + length xs) (f + 1 + 7 * length xs) ls (length ls) in
    let first = before (m + 1) (latch (n + 1) f ∷ []) (S ++ N) (saving n (n + 1) f) (G ++ H) u runs in
    let rest = behind (m + 1) (latch (n + 1) f ∷ []) (S ++ N) (saving n (n + 1) f) (G ++ H) u runs in
    let at : SavedAt (n + 1) f start (m + 1) u = SavedAt-saving n (n + 1) f (m + 1) start u first (omega (arith, within)) saves in
    let begun : u (m + 1) (f + 1) ≡ true =
    gate_at (u (m + 1)) (saving n (n + 1) f) 1 (f + 1) (yes_of (n + 1)) (yes_of (n + 1)) (first.gates (m + 1) (omega arith)) refl
    ∙ both_of (u (m + 1) (n + 1)) (u (m + 1) (n + 1))
    ∙ ap (λ b. b && b) (at.saved (m + 1) (omega (arith, within)) (omega arith)) in
    let again : (j : ℕ) → u (m + 1) (get_or xs j 0) ≡ u start (get_or xs j 0) = λ j.
    let old = at_below xs j n parts.some (variables_below n c.latches.items parts.latches) in
    alike (m + 1) (get_or xs j 0) old ∙ ap (λ i. t i (get_or xs j 0)) (moment_past start m)
    ∙ sym (alike start (get_or xs j 0) old ∙ ap (λ i. t i (get_or xs j 0)) (moment_within start m start within)) in
    let same = shadows-same (n + 1) f (n + 2) (f + 1) start (m + 1) xs (length xs) u (before (m + 1) S N G H u rest) at
    (omega (arith, within)) again begun in
    let true_at : (j : ℕ) → j < length ls → (i : ℕ) × (start ≤ i) × (i < m + 1) × IsTrue (is_true (u i) (get_or ls j always)) = λ j less.
    let (i, from, upto, there) = met (get_or ls j always) (j, slice_get-get_or ls j always less) in (
      i,
      from,
      omega (arith, upto),
      is_true-alike n (u i) (t (moment_of start m i)) (get_or ls j always) (alike i) (lit_below ls j n parts.some is.within)
          ∙ ap (λ k. is_true (t k) (get_or ls j always)) (moment_within start m i upto) ∙ there,
    ) in
    let on : u (m + 1) (f + 1 + 7 * length xs + 3 * length ls) ≡ true =
    notes-same (n + 1) f (n + 2 + length xs) (f + 1 + 7 * length xs) start (m + 1) ls (length ls) u (behind (m + 1) S N G H u rest)
    at true_at same in (
      u,
      longer,
      subst (λ l. IsTrue (is_true (u (m + 1)) l)) (sym is.looped)
          ((booleans_Decides (u (m + 1) (last_of n (length xs) (length ls))) true).1 on),
    )

pub FailsByLassos-saver : (c : Circuit) (ls : List Lit) (e : Circuit) (bad : Lit) → IsSaverOf c ls e bad
    → FailsByLassos c ls e bad
FailsByLassos-saver c ls e bad (n, is) = FailsByLassos-from n c ls e bad is

-- where the circuit that saves is safe, the circuit is live
pub IsLive-saved : (c : Circuit) (e : Circuit) (fairness justice : List Lit) (bad : Lit)
    → FailsByLassos c (fairness ++ justice) e bad → IsSafe e bad → IsLive c fairness justice
IsLive-saved c e fairness justice bad fails safe =
    IsLive-without_lasso c fairness justice (λ n lasso. safe (n + 1) (fails n lasso))
