-- Circuits with further latches and gates: each trace of a circuit is extended to one of them.
use Rattle.std.proofs.Common.{◌≡◌, ⊎_elim, ℕ, zero, suc, ◌+◌, ◌<◌, ◌≤◌, ◌++◌, ◌&&◌, ◌||◌, eqb, ltb, cond, Bool, true, false, not, List, [], ◌∷◌, Option, Some, None, length, IsTrue, arith, refl, sym, ap, subst, ◌∙◌}
use Rattle.std.specs.Bool.{beq}
use Rattle.std.specs.Cmp.{booleans_Decides}
use Rattle.std.specs.List.{list_all}
use Rattle.std.proofs.Math.Path.{fun_ext}
use Rattle.std.proofs.lemmas.Bool.{and_from, and_parts, cases_Bool, cases_lt, cond-false, cond-true, eq-eqb, eqb-true, false≢true, le-ltb, lt-ltb}
use Rattle.std.proofs.lemmas.List.Folds.{list_all-append}
use Rattle.gipsat_cnf.specs.Prelude.{Assignment, is_true, makes_true}
use Rattle.gipsat_cnf.proofs.Tests.{all_weaker}
use Rattle.gipmc_circuits.specs.declared.circuit.And.{And}
use Rattle.gipmc_circuits.specs.declared.circuit.Circuit.{Circuit}
use Rattle.gipmc_circuits.specs.declared.circuit.Latch.{Latch}
use Rattle.gipmc_circuits.specs.Prelude.{IsTrace, IsWidened, are_in_order, are_numbered, are_stacked, has_value, holds_next, holds_reset, is_below, is_initial, is_moment, is_reset, is_transition, is_valuation, literal_below, with_variable}
use Rattle.gipmc_circuits.proofs.Agreeing.{AgreeBelow, is_initial-alike, is_moment-alike, is_transition-alike}
use Rattle.gipmc_circuits.proofs.Valuations.{AgreeAt, values_from}

-- the variables below a number, and the number
one_more : (n v : ℕ) → with_variable n (λ u. ltb u n) v ≡ ltb v (n + 1)
one_more n v =
    ⊎_elim
    (λ less. ap (λ b. eqb v n || b) (lt-ltb v n less) ∙ or_true (eqb v n) ∙ sym (lt-ltb v (n + 1) (omega (arith, less))))
    (λ more. ⊎_elim
    (λ same. ap (λ b. b || ltb v n) same ∙ sym (lt-ltb v (n + 1) (up_to v n (eqb-true v n same))))
    (λ other. ap (λ b. b || ltb v n) other ∙ le-ltb v n more ∙ sym (le-ltb v (n + 1) (past v n more (λ e. false≢true (sym other ∙ eq-eqb v n e)))))
    (cases_Bool (eqb v n)))
    (cases_lt v n)
  where
    or_true : (b : Bool) → (b || true) ≡ true
    or_true true = refl
    or_true false = refl

    up_to : (v n : ℕ) → v ≡ n → v < n + 1
    up_to v n same = omega (arith, same)

    past : (v n : ℕ) → n ≤ v → (v ≡ n → ⊥) → n + 1 ≤ v
    past v n more other = ⊎_elim (λ less. absurd (other (omega (arith, more, less)))) (λ is. is) (cases_lt v (n + 1))

-- gates that are stacked are in order behind all that is below them
stacked-in_order : (gates : List And) (n : ℕ) → IsTrue (are_stacked gates n) → IsTrue (are_in_order gates (λ v. ltb v n))
stacked-in_order [] n is = refl
stacked-in_order (g ∷ gates) n is =
    let (operands, others) = and_parts (literal_below n g.left && literal_below n g.right) (eqb g.output n && are_stacked gates (g.output + 1)) is in
    let (output, rest) = and_parts (eqb g.output n) (are_stacked gates (g.output + 1)) others in
    let here : g.output ≡ n = eqb-true g.output n output in
    let behind : IsTrue (are_in_order gates (with_variable g.output (λ v. ltb v n))) =
    subst (λ d. IsTrue (are_in_order gates d)) (sym (fun_ext (λ v. ap (λ o. with_variable o (λ u. ltb u n) v) here ∙ one_more n v)))
    (subst (λ o. IsTrue (are_in_order gates (λ v. ltb v (o + 1)))) here (stacked-in_order gates (g.output + 1) rest))
    in
    let new : not (ltb g.output n) ≡ true = ap not (le-ltb g.output n (at_least g.output n here)) in
    and_from (literal_below n g.left && literal_below n g.right)
    (not (ltb g.output n) && are_in_order gates (with_variable g.output (λ v. ltb v n))) operands
    (and_from (not (ltb g.output n)) (are_in_order gates (with_variable g.output (λ v. ltb v n))) new behind)
  where
    at_least : (a b : ℕ) → a ≡ b → b ≤ a
    at_least a b same = omega (arith, same)

-- the values, with those that latches hold
abbrev held : List Latch → (Latch → Bool) → Assignment → Assignment
held [] value a v = a v
held (l ∷ ls) value a v = cond (eqb v l.variable) (value l) (held ls value a v)

-- the value of a reset, 0 where it is free
abbrev reset_value : Option Bool → Bool
reset_value None = false
reset_value (Some value) = value

-- what a latch holds at first
abbrev start_of : Latch → Bool
start_of l = reset_value l.reset

-- what a latch holds behind these values
abbrev next_of : Assignment → Latch → Bool
next_of a l = is_true a l.next

numbered-parts : (l : Latch) (ls : List Latch) (n : ℕ) → IsTrue (are_numbered (l ∷ ls) n)
    → (l.variable ≡ n) × IsTrue (are_numbered ls (n + 1))
numbered-parts l ls n is =
    let (here, rest) = and_parts (eqb l.variable n) (are_numbered ls (n + 1)) is in (eqb-true l.variable n here, rest)

-- another variable than that of the first latch
held-other : (l : Latch) (ls : List Latch) (value : Latch → Bool) (a : Assignment) (v : ℕ) → (v ≡ l.variable → ⊥)
    → held (l ∷ ls) value a v ≡ held ls value a v
held-other l ls value a v other =
    cond-false (eqb v l.variable) (value l) (held ls value a v)
    (⊎_elim (λ same. absurd (other (eqb-true v l.variable same))) (λ is. is) (cases_Bool (eqb v l.variable)))

-- what stands below the latches stays
held-old : (ls : List Latch) (n : ℕ) (value : Latch → Bool) (a : Assignment) → IsTrue (are_numbered ls n) → (v : ℕ)
    → v < n → held ls value a v ≡ a v
held-old [] n value a numbered v less = refl
held-old (l ∷ ls) n value a numbered v less =
    let (here, rest) = numbered-parts l ls n numbered in
    held-other l ls value a v (λ same. absurd (omega (arith, less, here, same)))
    ∙ held-old ls (n + 1) value a rest v (omega (arith, less))

-- values that agree with them from the latches on hold what the latches hold
held-new : (ls : List Latch) (n : ℕ) (value : Latch → Bool) (a b : Assignment) → IsTrue (are_numbered ls n)
    → ((v : ℕ) → n ≤ v → v < n + length ls → b v ≡ held ls value a v)
    → IsTrue (list_all (λ l. beq (b l.variable) (value l)) ls)
held-new [] n value a b numbered agree = refl
held-new (l ∷ ls) n value a b numbered agree =
    let (here, rest) = numbered-parts l ls n numbered in
    let first : b l.variable ≡ value l = agree l.variable (omega (arith, here)) (omega (arith, here))
    ∙ cond-true (eqb l.variable l.variable) (value l) (held ls value a l.variable) (eq-eqb l.variable l.variable refl) in
    and_from (beq (b l.variable) (value l)) (list_all (λ k. beq (b k.variable) (value k)) ls)
    ((booleans_Decides (b l.variable) (value l)).1 first)
    (held-new ls (n + 1) value a b rest
    (λ v from within. agree v (omega (arith, from)) (omega (arith, within))
    ∙ held-other l ls value a v (λ same. absurd (omega (arith, from, here, same)))))

starts : (reset : Option Bool) (value : Bool) → IsTrue (beq value (reset_value reset)) → IsTrue (is_reset reset value)
starts None value is = refl
starts (Some v) value is = is

-- the values of a moment, with what the further latches hold there
record Wide (n : ℕ) (c : Circuit) (e : Circuit) (ls : List Latch) (value : Latch → Bool) (a b : Assignment)
    : Type 0 where
  agree : AgreeBelow n b a
  moment : IsTrue (is_moment c a) → IsTrue (is_moment e b)
  latches : IsTrue (list_all (λ l. beq (b l.variable) (value l)) ls)

in_order : (n : ℕ) (c : Circuit) (e : Circuit) (x : IsWidened n c e)
    → IsTrue (are_in_order x.more_gates (λ v. ltb v (n + length x.more_latches)))
in_order n c e x = stacked-in_order x.more_gates (n + length x.more_latches) x.stacked

-- the values that the gates make of those that the latches hold
widened : (n : ℕ) (c : Circuit) (e : Circuit) → IsWidened n c e → (Latch → Bool) → Assignment → Assignment
widened n c e x value a =
    (values_from x.more_gates (λ v. ltb v (n + length x.more_latches)) (held x.more_latches value a) (in_order n c e x)).0

wide : (n : ℕ) (c : Circuit) (e : Circuit) (x : IsWidened n c e) (value : Latch → Bool) (a : Assignment)
    → IsTrue (is_below n c) → Wide n c e x.more_latches value a (widened n c e x value a)
unfolding widened
wide n c e x value a below =
    let top = n + length x.more_latches in
    let made = values_from x.more_gates (λ v. ltb v top) (held x.more_latches value a) (in_order n c e x) in
    let b = made.0 in
    let keeps : AgreeAt (λ v. ltb v top) b (held x.more_latches value a) = made.1 in
    let agree : AgreeBelow n b a = λ v less.
    keeps v (lt-ltb v top (omega (arith, less))) ∙ held-old x.more_latches n value a x.numbered v less in
    record {
      agree = agree;
      moment = λ is_now.
          let (valuation, constraints) = and_parts (is_valuation c b) (makes_true b c.constraints.items)
          (is_moment-alike n c b a below agree ∙ is_now) in
          let (zero_false, old_gates) = and_parts (not (b 0)) (list_all (has_value b) c.gates.items) valuation in
          let both : IsTrue (list_all (has_value b) (c.gates.items ++ x.more_gates)) =
          list_all-append (has_value b) c.gates.items x.more_gates
          ∙ and_from (list_all (has_value b) c.gates.items) (list_all (has_value b) x.more_gates) old_gates made.2 in
          and_from (is_valuation e b) (makes_true b e.constraints.items)
          (and_from (not (b 0)) (list_all (has_value b) e.gates.items) zero_false
          (subst (λ gs. IsTrue (list_all (has_value b) gs)) (sym x.gates) both))
          (subst (λ ls. IsTrue (makes_true b ls)) (sym x.constraints) constraints);
      latches =
          held-new x.more_latches n value a b x.numbered (λ v from within. keeps v (lt-ltb v top within));
    }

-- the values along a trace, with what the further latches hold
along : (n : ℕ) (c : Circuit) (e : Circuit) → IsWidened n c e → (ℕ → Assignment) → ℕ → Assignment
along n c e x t zero = widened n c e x start_of (t 0)
along n c e x t (suc i) = widened n c e x (next_of (along n c e x t i)) (t (suc i))

agree_along : (n : ℕ) (c : Circuit) (e : Circuit) (x : IsWidened n c e) (t : ℕ → Assignment)
    → IsTrue (is_below n c) → (i : ℕ) → AgreeBelow n (along n c e x t i) (t i)
unfolding along
agree_along n c e x t below zero = (wide n c e x start_of (t 0) below).agree
agree_along n c e x t below (suc i) = (wide n c e x (next_of (along n c e x t i)) (t (suc i)) below).agree

moment_along : (n : ℕ) (c : Circuit) (e : Circuit) (x : IsWidened n c e) (t : ℕ → Assignment)
    → IsTrue (is_below n c) → (i : ℕ) → IsTrue (is_moment c (t i)) → IsTrue (is_moment e (along n c e x t i))
unfolding along
moment_along n c e x t below zero is_now = (wide n c e x start_of (t 0) below).moment is_now
moment_along n c e x t below (suc i) is_now =
    (wide n c e x (next_of (along n c e x t i)) (t (suc i)) below).moment is_now

initial_along : (n : ℕ) (c : Circuit) (e : Circuit) (x : IsWidened n c e) (t : ℕ → Assignment)
    → IsTrue (is_below n c) → IsTrue (is_initial c (t 0)) → IsTrue (is_initial e (along n c e x t 0))
unfolding along
initial_along n c e x t below first =
    let b = along n c e x t 0 in
    let old : IsTrue (list_all (holds_reset b) c.latches.items) =
    is_initial-alike n c b (t 0) below (agree_along n c e x t below 0) ∙ first in
    let more : IsTrue (list_all (holds_reset b) x.more_latches) =
    all_weaker (λ l. beq (b l.variable) (start_of l)) (holds_reset b) x.more_latches (λ l is. starts l.reset (b l.variable) is)
    (wide n c e x start_of (t 0) below).latches in
    subst (λ ls. IsTrue (list_all (holds_reset b) ls)) (sym x.latches)
    (list_all-append (holds_reset b) c.latches.items x.more_latches
    ∙ and_from (list_all (holds_reset b) c.latches.items) (list_all (holds_reset b) x.more_latches) old more)

transition_along : (n : ℕ) (c : Circuit) (e : Circuit) (x : IsWidened n c e) (t : ℕ → Assignment)
    → IsTrue (is_below n c) → (i : ℕ) → IsTrue (is_transition c (t i) (t (suc i)))
    → IsTrue (is_transition e (along n c e x t i) (along n c e x t (suc i)))
unfolding along
transition_along n c e x t below i goes =
    let a = along n c e x t i in
    let b = along n c e x t (suc i) in
    let old : IsTrue (list_all (holds_next a b) c.latches.items) =
    is_transition-alike n c a (t i) b (t (suc i)) below (agree_along n c e x t below i) (agree_along n c e x t below (suc i)) ∙ goes in
    let more : IsTrue (list_all (holds_next a b) x.more_latches) =
    (wide n c e x (next_of a) (t (suc i)) below).latches in
    subst (λ ls. IsTrue (list_all (holds_next a b) ls)) (sym x.latches)
    (list_all-append (holds_next a b) c.latches.items x.more_latches
    ∙ and_from (list_all (holds_next a b) c.latches.items) (list_all (holds_next a b) x.more_latches) old more)

-- each trace of the circuit is, below n, one of the circuit with further latches and gates
pub IsTrace-widened : (n : ℕ) (c : Circuit) (e : Circuit) (m : ℕ) (t : ℕ → Assignment)
    → IsWidened n c e → IsTrue (is_below n c) → IsTrace c m t
    → (u : ℕ → Assignment) × IsTrace e m u × ((i : ℕ) → AgreeBelow n (u i) (t i))
IsTrace-widened n c e m t x below is = (
  along n c e x t,
  record {
    initial = initial_along n c e x t below is.initial;
    moments = λ i within. moment_along n c e x t below i (is.moments i within);
    transitions = λ i less.
        let next : i + 1 ≡ suc i = omega arith in
        subst (λ k. IsTrue (is_transition e (along n c e x t i) (along n c e x t k))) (sym next)
        (transition_along n c e x t below i (subst (λ k. IsTrue (is_transition c (t i) (t k))) next (is.transitions i less)));
  },
  agree_along n c e x t below,
)
