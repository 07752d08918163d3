-- A circuit that counts: it fails exactly where literals are met in turn, and a run on which they recur meets them.
use Rattle.std.proofs.Common.{◌≡◌, ⊎_elim, ℕ, zero, suc, ◌+◌, ◌-◌, ◌*◌, ◌%◌, ◌<◌, ◌≤◌, ◌++◌, ◌&&◌, eqb, get_or, Bool, true, false, not, List, [], ◌∷◌, length, IsTrue, arith, refl, sym, ap, subst, ◌∙◌}
use Rattle.std.specs.Bool.{beq}
use Rattle.std.specs.Cmp.{booleans_Decides}
use Rattle.std.specs.List.{list_all}
use Rattle.std.proofs.lemmas.Bool.{and_cases, and_from, and_parts, and_right, eq-eqb, false≢true, lt-ltb, ltb-true, not-true}
use Rattle.std.proofs.lemmas.List.Folds.{list_all-append}
use Rattle.gipsat_cnf.specs.Prelude.{Assignment, Has, Lit, is_true, makes_true}
use Rattle.gipsat_cnf.proofs.Places.{each_push, none_some}
use Rattle.gipmc_circuits.specs.declared.circuit.Circuit.{Circuit}
use Rattle.gipmc_circuits.specs.Prelude.{FailsAfter, IsSafe, IsTrace, IsWidened, are_numbered, are_stacked, has_value, holds_next, holds_reset, is_below, is_initial, is_moment, is_transition, is_valuation, literal_below}
use Rattle.gipmc_circuits.proofs.Agreeing.{AgreeBelow, below-parts, is_true-alike}
use Rattle.gipmc_circuits.proofs.Widened.{IsTrace-widened}
use Rattle.gipmc_reduce.specs.Chains.{IsChained, IsCounterOf, all_passed, last_gate, not_of, passed, passing, stage_gates, stage_latches, top, waiting, yes_of}
use Rattle.gipmc_reduce.specs.Liveness.{AllRecur, IsLive, IsRun, Recurs}
use Rattle.gipmc_reduce.specs.Turns.{CountsTo, MeetsMore, MetBetween, always, turn, turns}

-- the parts of a run are traces
pub IsTrace-run : (c : Circuit) (t : ℕ → Assignment) (n : ℕ) → IsRun c t → IsTrace c n t
IsTrace-run c t n is = record {
  initial = is.initial;
  moments = λ i within. is.moments i;
  transitions = λ i less. is.transitions i;
}

MetBetween-within : (t : ℕ → Assignment) (m n : ℕ) (ls : List Lit) → MetBetween t m n ls → m ≤ n
MetBetween-within t m n [] met = met
MetBetween-within t m n (l ∷ ls) (i, from, is, rest) =
    let later = MetBetween-within t (i + 1) n ls rest in omega (arith, from, later)

MetBetween-before : (t : ℕ → Assignment) (m k n : ℕ) (ls : List Lit) → k ≤ m → MetBetween t m n ls → MetBetween t k n ls
MetBetween-before t m k n [] less met = let upto : m ≤ n = met in omega (arith, less, upto)
MetBetween-before t m k n (l ∷ ls) less (i, from, is, rest) = (i, omega (arith, less, from), is, rest)

MetBetween-behind : (t : ℕ → Assignment) (m n k : ℕ) (ls : List Lit) → n ≤ k → MetBetween t m n ls → MetBetween t m k ls
MetBetween-behind t m n k [] more met = let upto : m ≤ n = met in omega (arith, more, upto)
MetBetween-behind t m n k (l ∷ ls) more (i, from, is, rest) = (i, from, is, MetBetween-behind t (i + 1) n k ls more rest)

-- the literal is true at each of these moments
abbrev TrueFrom : ℕ → ℕ → (ℕ → Assignment) → Lit → Type 0
TrueFrom m n u l = (i : ℕ) → m ≤ i → i ≤ n → IsTrue (is_true (u i) l)

true_sign : (a : Assignment) (v : ℕ) → IsTrue (is_true a (yes_of v)) → a v ≡ true
true_sign a v is = (booleans_Decides (a v) true).0 is

false_sign : (a : Assignment) (v : ℕ) → a v ≡ true → is_true a (not_of v) ≡ false
false_sign a v is = rw is refl

-- a stage that is passed, or is now, is passed at the next moment
stage_on : (x g : ℕ) (a b : Assignment) → IsTrue (has_value a (waiting x g)) → IsTrue (holds_next a b (passed x g))
    → (is_true a (not_of x) && is_true a (not_of g)) ≡ false → IsTrue (is_true b (yes_of x))
stage_on x g a b gate goes either =
    let off : a (g + 1) ≡ false =
    (booleans_Decides (a (g + 1)) (is_true a (not_of x) && is_true a (not_of g))).0 gate ∙ either in
    let on : b x ≡ is_true a (not_of (g + 1)) = (booleans_Decides (b x) (is_true a (not_of (g + 1)))).0 goes in
    (booleans_Decides (b x) true).1 (on ∙ ap (λ v. beq v false) off)

-- once it is passed it stays so
stage_stays : (x g : ℕ) (u : ℕ → Assignment) (n m : ℕ)
    → ((i : ℕ) → i ≤ n → IsTrue (has_value (u i) (waiting x g)))
    → ((i : ℕ) → i < n → IsTrue (holds_next (u i) (u (i + 1)) (passed x g)))
    → IsTrue (is_true (u m) (yes_of x)) → (d : ℕ) → m + d ≤ n → IsTrue (is_true (u (m + d)) (yes_of x))
stage_stays x g u n m gates latches first zero within =
    let none : m ≡ m + 0 = omega arith in subst (λ i. IsTrue (is_true (u i) (yes_of x))) none first
stage_stays x g u n m gates latches first (suc d) within =
    let before = stage_stays x g u n m gates latches first d (omega (arith, within)) in
    let next : m + d + 1 ≡ m + suc d = omega arith in
    subst (λ i. IsTrue (is_true (u i) (yes_of x))) next
    (stage_on x g (u (m + d)) (u (m + d + 1)) (gates (m + d) (omega (arith, within))) (latches (m + d) (omega (arith, within)))
    (ap (λ b. b && is_true (u (m + d)) (not_of g)) (false_sign (u (m + d)) x (true_sign (u (m + d)) x before))))

-- the gates of the stages have their values; their latches are 0 at first, and are kept
record Counts (x g n : ℕ) (before : Lit) (stages : List Lit) (u : ℕ → Assignment) : Type 0 where
  first : IsTrue (list_all (holds_reset (u 0)) (stage_latches x g stages))
  gates : (i : ℕ) → i ≤ n → IsTrue (list_all (has_value (u i)) (stage_gates x g before stages))
  latches : (i : ℕ) → i < n → IsTrue (list_all (holds_next (u i) (u (i + 1))) (stage_latches x g stages))

-- of the first stage
first_gates : (x g n : ℕ) (before l : Lit) (ls : List Lit) (u : ℕ → Assignment) → Counts x g n before (l ∷ ls) u
    → (i : ℕ) → i ≤ n → IsTrue (has_value (u i) (passing g before l)) × IsTrue (has_value (u i) (waiting x g))
first_gates x g n before l ls u counts i within =
    let rest = list_all (has_value (u i)) (stage_gates (x + 1) (g + 2) (yes_of x) ls) in
    let (first, others) = and_parts (has_value (u i) (passing g before l)) (has_value (u i) (waiting x g) && rest) (counts.gates i within) in
    (first, (and_parts (has_value (u i) (waiting x g)) rest others).0)

first_latch : (x g n : ℕ) (before l : Lit) (ls : List Lit) (u : ℕ → Assignment) → Counts x g n before (l ∷ ls) u
    → (i : ℕ) → i < n → IsTrue (holds_next (u i) (u (i + 1)) (passed x g))
first_latch x g n before l ls u counts i less =
    (and_parts (holds_next (u i) (u (i + 1)) (passed x g)) (list_all (holds_next (u i) (u (i + 1))) (stage_latches (x + 1) (g + 2) ls))
    (counts.latches i less)).0

first_reset : (x g n : ℕ) (before l : Lit) (ls : List Lit) (u : ℕ → Assignment) → Counts x g n before (l ∷ ls) u
    → u 0 x ≡ false
first_reset x g n before l ls u counts =
    (booleans_Decides (u 0 x) false).0
    (and_parts (holds_reset (u 0) (passed x g)) (list_all (holds_reset (u 0)) (stage_latches (x + 1) (g + 2) ls)) counts.first).0

-- of the others
counts_rest : (x g n : ℕ) (before l : Lit) (ls : List Lit) (u : ℕ → Assignment) → Counts x g n before (l ∷ ls) u
    → Counts (x + 1) (g + 2) n (yes_of x) ls u
counts_rest x g n before l ls u counts = record {
  first = (and_parts (holds_reset (u 0) (passed x g)) (list_all (holds_reset (u 0)) (stage_latches (x + 1) (g + 2) ls)) counts.first).1;
  gates = λ i within.
      let rest = list_all (has_value (u i)) (stage_gates (x + 1) (g + 2) (yes_of x) ls) in
      let (first, others) = and_parts (has_value (u i) (passing g before l)) (has_value (u i) (waiting x g) && rest) (counts.gates i within) in
      (and_parts (has_value (u i) (waiting x g)) rest others).1;
  latches = λ i less.
      (and_parts (holds_next (u i) (u (i + 1)) (passed x g)) (list_all (holds_next (u i) (u (i + 1))) (stage_latches (x + 1) (g + 2) ls))
      (counts.latches i less)).1;
}

both_true : (x y b : Bool) → x ≡ true → y ≡ true → IsTrue (beq b (x && y)) → b ≡ true
both_true x y b left right is = (booleans_Decides b (x && y)).0 is ∙ and_from x y left right

-- the stages are passed behind the moments at which their literals are met in turn
stages-pass : (ls : List Lit) (x g n m k : ℕ) (before : Lit) (u : ℕ → Assignment) → MetBetween u m k ls → k ≤ n
    → Counts x g n before ls u → TrueFrom m n u before → TrueFrom k n u (all_passed x before ls)
stages-pass [] x g n m k before u met within counts on =
    let from : m ≤ k = met in λ i after upto. on i (omega (arith, from, after)) upto
stages-pass (l ∷ ls) x g n m k before u (i, from, is, rest) within counts on =
    let later = MetBetween-within u (i + 1) k ls rest in
    let less : i < n = omega (arith, later, within) in
    let gates = first_gates x g n before l ls u counts i (omega (arith, less)) in
    let now : u i g ≡ true = both_true (is_true (u i) before) (is_true (u i) l) (u i g) (on i from (omega (arith, less))) is gates.0 in
    let either : (is_true (u i) (not_of x) && is_true (u i) (not_of g)) ≡ false =
    and_right (is_true (u i) (not_of x)) (is_true (u i) (not_of g)) (false_sign (u i) g now) in
    let begun : IsTrue (is_true (u (i + 1)) (yes_of x)) =
    stage_on x g (u i) (u (i + 1)) gates.1 (first_latch x g n before l ls u counts i less) either in
    stages-pass ls (x + 1) (g + 2) n (i + 1) k (yes_of x) u rest within (counts_rest x g n before l ls u counts)
    (λ j after upto.
    let whole : (i + 1) + (j - (i + 1)) ≡ j = omega (arith, after) in
    subst (λ h. IsTrue (is_true (u h) (yes_of x))) whole
    (stage_stays x g u n (i + 1) (λ h h_within. (first_gates x g n before l ls u counts h h_within).1)
    (λ h h_less. first_latch x g n before l ls u counts h h_less) begun (j - (i + 1)) (omega (arith, after, upto))))

beq_off : (v : Bool) → beq v false ≡ false → v ≡ true
beq_off true is = refl
beq_off false is = absurd (false≢true (sym is))

-- where a stage is passed, its literal was met before, where the stage before was passed
passed-since : (x g n : ℕ) (before l : Lit) (ls : List Lit) (u : ℕ → Assignment) → Counts x g n before (l ∷ ls) u
    → (m : ℕ) → m ≤ n → u m x ≡ true
    → (i : ℕ) × (i + 1 ≤ m) × IsTrue (is_true (u i) before) × IsTrue (is_true (u i) l)
passed-since x g n before l ls u counts zero within on =
    absurd (false≢true (sym (first_reset x g n before l ls u counts) ∙ on))
passed-since x g n before l ls u counts (suc m) within on =
    let next : m + 1 ≡ suc m = omega arith in
    let less : m < n = omega (arith, within) in
    let gates = first_gates x g n before l ls u counts m (omega (arith, less)) in
    let goes : u (m + 1) x ≡ is_true (u m) (not_of (g + 1)) =
    (booleans_Decides (u (m + 1) x) (is_true (u m) (not_of (g + 1)))).0 (first_latch x g n before l ls u counts m less) in
    let off : u m (g + 1) ≡ false =
    (booleans_Decides (u m (g + 1)) false).0 (sym goes ∙ ap (λ i. u i x) next ∙ on) in
    let either : (is_true (u m) (not_of x) && is_true (u m) (not_of g)) ≡ false =
    sym ((booleans_Decides (u m (g + 1)) (is_true (u m) (not_of x) && is_true (u m) (not_of g))).0 gates.1) ∙ off in
    ⊎_elim
    (λ was.
    let (i, earlier, begun, met) =
    passed-since x g n before l ls u counts m (omega (arith, within)) (beq_off (u m x) was) in
    (i, omega (arith, earlier), begun, met))
    (λ now.
    let both : (is_true (u m) before && is_true (u m) l) ≡ true =
    sym ((booleans_Decides (u m g) (is_true (u m) before && is_true (u m) l)).0 gates.0) ∙ beq_off (u m g) now in
    let (begun, met) = and_parts (is_true (u m) before) (is_true (u m) l) both in
    (m, omega arith, begun, met))
    (and_cases (is_true (u m) (not_of x)) (is_true (u m) (not_of g)) either)

-- where the stages are passed, their literals were met in turn
stages-back : (ls : List Lit) (x g n k : ℕ) (before : Lit) (u : ℕ → Assignment) → k ≤ n → Counts x g n before ls u
    → IsTrue (is_true (u k) (all_passed x before ls))
    → (m : ℕ) × IsTrue (is_true (u m) before) × MetBetween u m k ls
stages-back [] x g n k before u within counts is = (k, is, omega arith)
stages-back (l ∷ ls) x g n k before u within counts is =
    let (m, on, met) = stages-back ls (x + 1) (g + 2) n k (yes_of x) u within (counts_rest x g n before l ls u counts) is in
    let upto = MetBetween-within u m k ls met in
    let (i, earlier, begun, here) =
    passed-since x g n before l ls u counts m (omega (arith, upto, within)) (true_sign (u m) x on) in
    (i, begun, (i, omega arith, here, MetBetween-before u m (i + 1) k ls earlier met))

below_more : (n g : ℕ) (l : Lit) → n ≤ g → IsTrue (literal_below n l) → IsTrue (literal_below g l)
below_more n g l more is = let less = ltb-true l.variable n is in lt-ltb l.variable g (omega (arith, more, less))

-- the latches of the stages are numbered
stages-numbered : (ls : List Lit) (x g : ℕ) → IsTrue (are_numbered (stage_latches x g ls) x)
stages-numbered [] x g = refl
stages-numbered (l ∷ ls) x g =
    and_from (eqb x x) (are_numbered (stage_latches (x + 1) (g + 2) ls) (x + 1)) (eq-eqb x x refl) (stages-numbered ls (x + 1) (g + 2))

stages-length : (ls : List Lit) (x g : ℕ) → length (stage_latches x g ls) ≡ length ls
stages-length [] x g = refl
stages-length (l ∷ ls) x g = ap suc (stages-length ls (x + 1) (g + 2))

-- their gates are stacked, and the last gate on them
stages-stacked : (ls : List Lit) (n x g : ℕ) (before l : Lit) (o : ℕ) → n ≤ x → x + length ls ≤ g → o ≡ g + 2 * length ls
    → before.variable < g → IsTrue (list_all (literal_below n) ls) → IsTrue (literal_below n l)
    → IsTrue (are_stacked (stage_gates x g before ls ++ passing o (all_passed x before ls) l ∷ []) g)
stages-stacked [] n x g before l o from room here less all last =
    let same : o ≡ g = omega (arith, here) in
    let more : n ≤ g = omega (arith, from, room) in
    and_from (literal_below g before && literal_below g l) (eqb o g && true)
    (and_from (literal_below g before) (literal_below g l) (lt-ltb before.variable g less) (below_more n g l more last))
    (and_from (eqb o g) true (eq-eqb o g same) refl)
stages-stacked (m ∷ ls) n x g before l o from room here less all last =
    let (first, rest) = and_parts (literal_below n m) (list_all (literal_below n) ls) all in
    let more : n ≤ g = omega (arith, from, room) in
    let below_gate : x < g = omega (arith, room) in
    let others = stage_gates (x + 1) (g + 2) (yes_of x) ls ++ passing o (all_passed (x + 1) (yes_of x) ls) l ∷ [] in
    let later : IsTrue (are_stacked others (g + 2)) =
    stages-stacked ls n (x + 1) (g + 2) (yes_of x) l o (omega (arith, from)) (omega (arith, room)) (here ∙ omega arith)
    (omega (arith, below_gate)) rest last in
    let two : g + 2 ≡ (g + 1) + 1 = omega arith in
    and_from (literal_below g before && literal_below g m) (eqb g g && are_stacked (waiting x g ∷ others) (g + 1))
    (and_from (literal_below g before) (literal_below g m) (lt-ltb before.variable g less) (below_more n g m more first))
    (and_from (eqb g g) (are_stacked (waiting x g ∷ others) (g + 1)) (eq-eqb g g refl)
    (and_from (literal_below (g + 1) (not_of x) && literal_below (g + 1) (not_of g))
    (eqb (g + 1) (g + 1) && are_stacked others ((g + 1) + 1))
    (and_from (literal_below (g + 1) (not_of x)) (literal_below (g + 1) (not_of g)) (lt-ltb x (g + 1) (omega (arith, below_gate)))
    (lt-ltb g (g + 1) (omega arith)))
    (and_from (eqb (g + 1) (g + 1)) (are_stacked others ((g + 1) + 1)) (eq-eqb (g + 1) (g + 1) refl)
    (subst (λ k. IsTrue (are_stacked others k)) two later))))

pub IsWidened-chained : (n : ℕ) (c : Circuit) (e : Circuit) (stages : List Lit) (last : Lit)
    → IsChained n c e stages last → 0 < n → IsTrue (list_all (literal_below n) stages) → IsTrue (literal_below n last)
    → IsWidened n c e
IsWidened-chained n c e stages last is some all below = record {
  more_latches = stage_latches n (n + length stages) stages;
  more_gates = stage_gates n (n + length stages) always stages ++ last_gate n stages last ∷ [];
  latches = is.latches;
  gates = is.gates;
  constraints = is.constraints;
  numbered = stages-numbered stages n (n + length stages);
  stacked =
      subst (λ k. IsTrue (are_stacked (stage_gates n (n + length stages) always stages ++ last_gate n stages last ∷ []) (n + k)))
      (sym (stages-length stages n (n + length stages)))
      (stages-stacked stages n n (n + length stages) always last (top n stages) (omega arith) (omega arith) refl
      (omega (arith, some)) all below);
}

always_true : (c : Circuit) (a : Assignment) → IsTrue (is_moment c a) → IsTrue (is_true a always)
always_true c a is =
    let (valuation, constraints) = and_parts (is_valuation c a) (makes_true a c.constraints.items) is in
    let zero_false = not-true (a 0) (and_parts (not (a 0)) (list_all (has_value a) c.gates.items) valuation).0 in
    (booleans_Decides (a 0) false).1 zero_false

-- the gates and latches that were added
more_gates : (n : ℕ) (c : Circuit) (e : Circuit) (stages : List Lit) (last : Lit) (a : Assignment)
    → IsChained n c e stages last → IsTrue (is_moment e a)
    → IsTrue (is_moment c a) × IsTrue (list_all (has_value a) (stage_gates n (n + length stages) always stages))
    × IsTrue (has_value a (last_gate n stages last))
more_gates n c e stages last a is moment =
    let some = stage_gates n (n + length stages) always stages in
    let (valuation, constraints) = and_parts (is_valuation e a) (makes_true a e.constraints.items) moment in
    let (zero_false, gates) = and_parts (not (a 0)) (list_all (has_value a) e.gates.items) valuation in
    let all : IsTrue (list_all (has_value a) (c.gates.items ++ (some ++ last_gate n stages last ∷ []))) =
    subst (λ gs. IsTrue (list_all (has_value a) gs)) is.gates gates in
    let (old, new) = and_parts (list_all (has_value a) c.gates.items) (list_all (has_value a) (some ++ last_gate n stages last ∷ []))
    (sym (list_all-append (has_value a) c.gates.items (some ++ last_gate n stages last ∷ [])) ∙ all) in
    let (here, end) = and_parts (list_all (has_value a) some) (list_all (has_value a) (last_gate n stages last ∷ []))
    (sym (list_all-append (has_value a) some (last_gate n stages last ∷ [])) ∙ new) in (
      and_from (is_valuation c a) (makes_true a c.constraints.items)
          (and_from (not (a 0)) (list_all (has_value a) c.gates.items) zero_false old)
          (subst (λ ls. IsTrue (makes_true a ls)) is.constraints constraints),
      here,
      (and_parts (has_value a (last_gate n stages last)) true end).0,
    )

more_latches : (n : ℕ) (c : Circuit) (e : Circuit) (stages : List Lit) (last : Lit) (a b : Assignment)
    → IsChained n c e stages last → IsTrue (is_transition e a b)
    → IsTrue (is_transition c a b) × IsTrue (list_all (holds_next a b) (stage_latches n (n + length stages) stages))
more_latches n c e stages last a b is goes =
    let more = stage_latches n (n + length stages) stages in
    let all : IsTrue (list_all (holds_next a b) (c.latches.items ++ more)) =
    subst (λ ls. IsTrue (list_all (holds_next a b) ls)) is.latches goes in
    and_parts (list_all (holds_next a b) c.latches.items) (list_all (holds_next a b) more)
    (sym (list_all-append (holds_next a b) c.latches.items more) ∙ all)

first_latches : (n : ℕ) (c : Circuit) (e : Circuit) (stages : List Lit) (last : Lit) (a : Assignment)
    → IsChained n c e stages last → IsTrue (is_initial e a)
    → IsTrue (is_initial c a) × IsTrue (list_all (holds_reset a) (stage_latches n (n + length stages) stages))
first_latches n c e stages last a is first =
    let more = stage_latches n (n + length stages) stages in
    let all : IsTrue (list_all (holds_reset a) (c.latches.items ++ more)) =
    subst (λ ls. IsTrue (list_all (holds_reset a) ls)) is.latches first in
    and_parts (list_all (holds_reset a) c.latches.items) (list_all (holds_reset a) more)
    (sym (list_all-append (holds_reset a) c.latches.items more) ∙ all)

counts_along : (n : ℕ) (c : Circuit) (e : Circuit) (stages : List Lit) (last : Lit) (m : ℕ) (u : ℕ → Assignment)
    → IsChained n c e stages last → IsTrace e m u → Counts n (n + length stages) m always stages u
counts_along n c e stages last m u is trace = record {
  first = (first_latches n c e stages last (u 0) is trace.initial).1;
  gates = λ i within. (more_gates n c e stages last (u i) is (trace.moments i within)).1;
  latches = λ i less. (more_latches n c e stages last (u i) (u (i + 1)) is (trace.transitions i less)).1;
}

-- a trace of the circuit that counts is one of the circuit
IsTrace-chained : (n : ℕ) (c : Circuit) (e : Circuit) (stages : List Lit) (last : Lit) (m : ℕ) (u : ℕ → Assignment)
    → IsChained n c e stages last → IsTrace e m u → IsTrace c m u
IsTrace-chained n c e stages last m u is trace = record {
  initial = (first_latches n c e stages last (u 0) is trace.initial).0;
  moments = λ i within. (more_gates n c e stages last (u i) is (trace.moments i within)).0;
  transitions = λ i less. (more_latches n c e stages last (u i) (u (i + 1)) is (trace.transitions i less)).0;
}

-- literals that are met in turn are so by values that agree with them
MetBetween-alike : (n : ℕ) (t u : ℕ → Assignment) (m k : ℕ) (ls : List Lit) → ((i : ℕ) → AgreeBelow n (u i) (t i))
    → IsTrue (list_all (literal_below n) ls) → MetBetween t m k ls → MetBetween u m k ls
MetBetween-alike n t u m k [] agree all met = met
MetBetween-alike n t u m k (l ∷ ls) agree all (i, from, is, rest) =
    let (first, others) = and_parts (literal_below n l) (list_all (literal_below n) ls) all in
    (i, from, is_true-alike n (u i) (t i) l (agree i) first ∙ is, MetBetween-alike n t u (i + 1) k ls agree others rest)

-- the circuit that counts fails where the stages and the last literal are met in turn
FailsAfter-chained : (n : ℕ) (c : Circuit) (e : Circuit) (stages : List Lit) (last : Lit) (m : ℕ)
    (t : ℕ → Assignment) → IsChained n c e stages last → IsTrue (is_below n c) → 0 < n → IsTrue (list_all (literal_below n) stages)
    → IsTrue (literal_below n last) → IsTrace c m t → MetBetween t 0 m stages → IsTrue (is_true (t m) last)
    → FailsAfter e (yes_of (top n stages)) m
FailsAfter-chained n c e stages last m t is within some all below trace met ends =
    let (u, longer, agree) = IsTrace-widened n c e m t (IsWidened-chained n c e stages last is some all below) within trace in
    let pass = stages-pass stages n (n + length stages) m 0 m always u (MetBetween-alike n t u 0 m stages agree all met)
    (omega arith) (counts_along n c e stages last m u is longer)
    (λ i after upto. always_true e (u i) (longer.moments i upto)) in
    let now : is_true (u m) last ≡ true = is_true-alike n (u m) (t m) last (agree m) below ∙ ends in
    let on : u m (top n stages) ≡ true =
    both_true (is_true (u m) (all_passed n always stages)) (is_true (u m) last) (u m (top n stages))
    (pass m (omega arith) (omega arith)) now (more_gates n c e stages last (u m) is (longer.moments m (omega arith))).2 in
    (u, longer, (booleans_Decides (u m (top n stages)) true).1 on)

-- and only there
FailsAfter-met : (n : ℕ) (c : Circuit) (e : Circuit) (stages : List Lit) (last : Lit) (m : ℕ)
    → IsChained n c e stages last → FailsAfter e (yes_of (top n stages)) m
    → (t : ℕ → Assignment) × IsTrace c m t × MetBetween t 0 m stages × IsTrue (is_true (t m) last)
FailsAfter-met n c e stages last m is (u, trace, fails) =
    let both : (is_true (u m) (all_passed n always stages) && is_true (u m) last) ≡ true =
    sym ((booleans_Decides (u m (top n stages)) (is_true (u m) (all_passed n always stages) && is_true (u m) last)).0
    (more_gates n c e stages last (u m) is (trace.moments m (omega arith))).2) ∙ true_sign (u m) (top n stages) fails in
    let (pass, ends) = and_parts (is_true (u m) (all_passed n always stages)) (is_true (u m) last) both in
    let (k, on, met) = stages-back stages n (n + length stages) m m always u (omega arith) (counts_along n c e stages last m u is trace) pass in
    (u, IsTrace-chained n c e stages last m u is trace, MetBetween-before u k 0 m stages (omega arith) met, ends)

-- so it counts the literals in turn
CountsTo-chained : (n : ℕ) (c : Circuit) (e : Circuit) (literals : List Lit) (k : ℕ)
    → IsChained n c e (turns literals k) (turn literals k) → IsTrue (is_below n c) → 0 < n
    → IsTrue (list_all (literal_below n) (turns literals k)) → IsTrue (literal_below n (turn literals k))
    → CountsTo c literals k e (yes_of (top n (turns literals k)))
CountsTo-chained n c e literals k is within some all below m = (
  FailsAfter-met n c e (turns literals k) (turn literals k) m is,
  λ (t, trace, met, ends).
      FailsAfter-chained n c e (turns literals k) (turn literals k) m t is within some all below trace met ends,
)

-- a circuit with such a chain counts to k
pub CountsTo-counter : (c : Circuit) (literals : List Lit) (k : ℕ) (e : Circuit) (bad : Lit)
    → IsCounterOf c literals k e bad → CountsTo c literals k e bad
CountsTo-counter c literals k e bad (n, is) =
    subst (CountsTo c literals k e) (sym is.counted)
    (CountsTo-chained n c e literals k is.chained is.fresh (below-parts n c is.fresh).some is.stages is.last)

-- each literal recurs whose turn it is
Recurs-at : (c : Circuit) (t : ℕ → Assignment) (ls : List Lit) (i : ℕ) → IsRun c t → AllRecur t ls
    → Recurs t (get_or ls i always)
Recurs-at c t [] i run recur = λ m. (m, omega arith, always_true c (t m) (run.moments m))
Recurs-at c t (l ∷ ls) zero run recur = recur l (0, refl)
Recurs-at c t (l ∷ ls) (suc i) run recur = Recurs-at c t ls i run (λ m (k, at). recur m (suc k, at))

-- literals that recur are met in turn from each moment on
MetBetween-recur : (t : ℕ → Assignment) (ls : List Lit) → ((l : Lit) → Has ls l → Recurs t l) → (m : ℕ)
    → (n : ℕ) × MetBetween t m n ls
MetBetween-recur t [] recur m = (m, omega arith)
MetBetween-recur t (l ∷ ls) recur m =
    let (i, from, is) = recur l (0, refl) m in
    let (n, rest) = MetBetween-recur t ls (λ j (k, at). recur j (suc k, at)) (i + 1) in
    (n, (i, from, is, rest))

Recurs-turns : (c : Circuit) (t : ℕ → Assignment) (literals : List Lit) → IsRun c t → AllRecur t literals
    → (k : ℕ) (l : Lit) → Has (turns literals k) l → Recurs t l
Recurs-turns c t literals run recur zero l (i, at) = none_some l at
Recurs-turns c t literals run recur (suc k) l (i, at) =
    each_push (Recurs t) (turns literals k) (turn literals k) (λ j m there. Recurs-turns c t literals run recur k m (j, there))
    (Recurs-at c t literals (k % length literals) run recur) i l at

-- on a run on which the literals recur, any number of them is met in turn
MeetsMore-run : (c : Circuit) (t : ℕ → Assignment) (literals : List Lit) (k : ℕ) → IsRun c t → AllRecur t literals
    → (n : ℕ) × MeetsMore c literals k n
MeetsMore-run c t literals k run recur =
    let (m, met) = MetBetween-recur t (turns literals k) (Recurs-turns c t literals run recur k) 0 in
    let (n, from, is) = Recurs-at c t literals (k % length literals) run recur m in
    (n, (t, IsTrace-run c t n run, MetBetween-behind t 0 m n (turns literals k) from met, is))

-- where no trace meets more than k of them, the circuit is live
pub IsLive-met : (c : Circuit) (fairness justice : List Lit) (k : ℕ)
    → ((n : ℕ) → ¬ (MeetsMore c (fairness ++ justice) k n)) → IsLive c fairness justice
IsLive-met c fairness justice k never (t, run, recur) =
    let (n, meets) = MeetsMore-run c t (fairness ++ justice) k run recur in never n meets

-- where the circuit that counts is safe, the circuit is live
pub IsLive-counted : (c : Circuit) (e : Circuit) (fairness justice : List Lit) (k : ℕ) (bad : Lit)
    → CountsTo c (fairness ++ justice) k e bad → IsSafe e bad → IsLive c fairness justice
IsLive-counted c e fairness justice k bad counts safe =
    IsLive-met c fairness justice k (λ n meets. safe n ((counts n).1 meets))
