-- What holds of the smaller circuit holds of the whole one.
use Rattle.std.proofs.Common.{◌≡◌, if◌then◌else◌, ℕ, zero, suc, ◌+◌, ◌≤◌, ◌&&◌, Bool, true, false, not, List, [], ◌∷◌, map, IsTrue, Vec, arith, refl, sym, ap, subst, ◌∙◌}
use Rattle.std.specs.declared.alloc.Global.{Global}
use Rattle.std.specs.Bool.{beq}
use Rattle.std.specs.List.{list_all}
use Rattle.std.proofs.lemmas.Bool.{and_from, and_parts}
use Rattle.gipsat_cnf.specs.Prelude.{Assignment, Lit, is_true, makes_true, negated}
use Rattle.gipmc_circuits.specs.declared.circuit.And.{And}
use Rattle.gipmc_circuits.specs.declared.circuit.Circuit.{Circuit}
use Rattle.gipmc_circuits.specs.declared.circuit.Latch.{Latch}
use Rattle.gipmc_circuits.specs.Prelude.{FailsAfter, IsSafe, IsSafeByClauses, IsTrace, has_value, holds, holds_next, holds_reset, is_initial, is_moment, is_transition, is_valuation}
use Rattle.gipmc_reduce.proofs.Lists.{all_changed, all_merged, is_same}
use Rattle.gipmc_reduce.specs.Correspondence.{Agrees, HoldBoth, IsMergedOf, IsSweptOf, gate_merged, latch_merged, merged, representative}

-- the negation of a literal has the other value
other_value : (v p : Bool) → not (beq v p) ≡ beq v (not p)
other_value true true = refl
other_value true false = refl
other_value false true = refl
other_value false false = refl

is_other : (x : Bool) → not x ≡ beq x false
is_other true = refl
is_other false = refl

-- where a variable has the value of a literal, its literals have the values of that one's
by_sign : (a : Assignment) (r : Lit) (v : ℕ) (p : Bool) → a v ≡ is_true a r → is_true a (if p then r else negated r) ≡ beq (a v) p
by_sign a r v true same = sym same ∙ sym (is_same (a v))
by_sign a r v false same = sym (other_value (a r.variable) r.positive) ∙ ap not (sym same) ∙ is_other (a v)

pub is_true-merged : (merges : List Lit) (a : Assignment) (l : Lit) → Agrees merges a → is_true a (merged merges l) ≡ is_true a l
is_true-merged merges a l agrees = by_sign a (representative merges l.variable) l.variable l.positive (agrees l.variable)

has_value-merged : (merges : List Lit) (a : Assignment) (g : And) → Agrees merges a
    → has_value a (gate_merged merges g) ≡ has_value a g
has_value-merged merges a g agrees =
    ap (λ x. beq (a g.output) (x && is_true a (merged merges g.right))) (is_true-merged merges a g.left agrees)
    ∙ ap (λ x. beq (a g.output) (is_true a g.left && x)) (is_true-merged merges a g.right agrees)

holds_next-merged : (merges : List Lit) (a b : Assignment) (l : Latch) → Agrees merges a
    → holds_next a b (latch_merged merges l) ≡ holds_next a b l
holds_next-merged merges a b l agrees = ap (beq (b l.variable)) (is_true-merged merges a l.next agrees)

pub is_moment-merged : (merges : List Lit) (small whole : Circuit) (a : Assignment)
    → IsMergedOf merges small whole → Agrees merges a → IsTrue (is_moment whole a) → IsTrue (is_moment small a)
is_moment-merged merges small whole a is agrees moment =
    let (valuation, constraints) = and_parts (is_valuation whole a) (makes_true a whole.constraints.items) moment in
    let (none, gates) = and_parts (not (a 0)) (list_all (has_value a) whole.gates.items) valuation in
    and_from (is_valuation small a) (makes_true a small.constraints.items)
    (and_from (not (a 0)) (list_all (has_value a) small.gates.items) none
    (all_merged (has_value a) (gate_merged merges) small.gates.items whole.gates.items (λ g. has_value-merged merges a g agrees) is.gates gates))
    (subst (λ ls. IsTrue (makes_true a ls)) (sym is.constraints)
    (subst IsTrue (sym (all_changed (is_true a) (merged merges) whole.constraints.items (λ l. is_true-merged merges a l agrees))) constraints))

pub is_initial-merged : (merges : List Lit) (small whole : Circuit) (a : Assignment)
    → IsMergedOf merges small whole → IsTrue (is_initial whole a) → IsTrue (is_initial small a)
is_initial-merged merges small whole a is initial =
    all_merged (holds_reset a) (latch_merged merges) small.latches.items whole.latches.items (λ l. refl) is.latches initial

pub is_transition-merged : (merges : List Lit) (small whole : Circuit) (a b : Assignment)
    → IsMergedOf merges small whole → Agrees merges a → IsTrue (is_transition whole a b) → IsTrue (is_transition small a b)
is_transition-merged merges small whole a b is agrees transition =
    all_merged (holds_next a b) (latch_merged merges) small.latches.items whole.latches.items
    (λ l. holds_next-merged merges a b l agrees) is.latches transition

-- where the clauses hold at a moment of the whole circuit, variables have the values of what stands for them
agrees_at : (merges : List Lit) (invariant : List (Vec Lit Global)) (small whole : Circuit) (a : Assignment)
    → IsSweptOf merges invariant small whole → IsTrue (is_moment whole a) → IsTrue (holds invariant a) → Agrees merges a
agrees_at merges invariant small whole a is moment held =
    let (valuation, constraints) = and_parts (is_valuation whole a) (makes_true a whole.constraints.items) moment in
    let (none, gates) = and_parts (not (a 0)) (list_all (has_value a) whole.gates.items) valuation in
    is.implied a none held

-- the clauses hold at each moment of a trace
holds_along : (merges : List Lit) (invariant : List (Vec Lit Global)) (small whole : Circuit) (n : ℕ)
    → (t : ℕ → Assignment) → IsSweptOf merges invariant small whole → IsTrace whole n t → (i : ℕ) → i ≤ n → IsTrue (holds invariant (t i))
holds_along merges invariant small whole n t is trace zero within = is.initiated (t 0) trace.initial (trace.moments 0 within)
holds_along merges invariant small whole n t is trace (suc i) within =
    let next : i + 1 ≡ suc i = omega arith in
    is.inductive (t i) (t (suc i)) (trace.moments i (omega (arith, within)))
    (holds_along merges invariant small whole n t is trace i (omega (arith, within)))
    (subst (λ j. IsTrue (is_transition whole (t i) (t j))) next (trace.transitions i (omega (arith, within))))
    (trace.moments (suc i) within)

-- a trace of the whole circuit is one of the smaller circuit
pub IsTrace-swept : (merges : List Lit) (invariant : List (Vec Lit Global)) (small whole : Circuit) (n : ℕ)
    → (t : ℕ → Assignment) → IsSweptOf merges invariant small whole → IsTrace whole n t → IsTrace small n t
IsTrace-swept merges invariant small whole n t is trace = record {
  initial = is_initial-merged merges small whole (t 0) is.smaller trace.initial;
  moments = λ i within. is_moment-merged merges small whole (t i) is.smaller (agrees i within) (trace.moments i within);
  transitions = λ i less.
      is_transition-merged merges small whole (t i) (t (i + 1)) is.smaller (agrees i (omega (arith, less))) (trace.transitions i less);
}
  where
    agrees : (i : ℕ) → i ≤ n → Agrees merges (t i)
    agrees i within =
        agrees_at merges invariant small whole (t i) is (trace.moments i within)
        (holds_along merges invariant small whole n t is trace i within)

-- if the whole circuit fails after n transitions, the smaller one does
pub FailsAfter-swept : (merges : List Lit) (invariant : List (Vec Lit Global)) (small whole : Circuit)
    → (bad : Lit) (n : ℕ) → IsSweptOf merges invariant small whole → FailsAfter whole bad n → FailsAfter small (merged merges bad) n
FailsAfter-swept merges invariant small whole bad n is (t, trace, fails) =
    let here = trace.moments n (omega arith) in
    let held = holds_along merges invariant small whole n t is trace n (omega arith) in (
      t,
      IsTrace-swept merges invariant small whole n t is trace,
      subst IsTrue (sym (is_true-merged merges (t n) bad (agrees_at merges invariant small whole (t n) is here held))) fails,
    )

-- if the smaller circuit is safe, the whole one is
pub IsSafe-swept : (merges : List Lit) (invariant : List (Vec Lit Global)) (small whole : Circuit) (bad : Lit)
    → IsSweptOf merges invariant small whole → IsSafe small (merged merges bad) → IsSafe whole bad
IsSafe-swept merges invariant small whole bad is safe n fails = safe n (FailsAfter-swept merges invariant small whole bad n is fails)

-- an invariant of the smaller circuit, with the clauses of the merges, is one of the whole circuit
pub IsSafeByClauses-swept : (merges : List Lit) (invariant : List (Vec Lit Global)) (small whole : Circuit) (bad : Lit)
    → (own all : List (Vec Lit Global)) → IsSweptOf merges invariant small whole → HoldBoth all invariant own
    → IsSafeByClauses small own (merged merges bad) → IsSafeByClauses whole all bad
IsSafeByClauses-swept merges invariant small whole bad own all is both by = record {
  initiated = λ a initial moment.
      let held = is.initiated a initial moment in
      join a held
      (by.initiated a (is_initial-merged merges small whole a is.smaller initial)
      (is_moment-merged merges small whole a is.smaller (agrees a moment held) moment));
  inductive = λ a b moment held goes behind.
      let (first, others) = parts a held in
      let next = is.inductive a b moment first goes behind in
      join b next
      (by.inductive a b (is_moment-merged merges small whole a is.smaller (agrees a moment first) moment) others
      (is_transition-merged merges small whole a b is.smaller (agrees a moment first) goes)
      (is_moment-merged merges small whole b is.smaller (agrees b behind next) behind));
  excluded = λ a moment held fails.
      let (first, others) = parts a held in
      by.excluded a (is_moment-merged merges small whole a is.smaller (agrees a moment first) moment) others
      (subst IsTrue (sym (is_true-merged merges a bad (agrees a moment first))) fails);
  safe = IsSafe-swept merges invariant small whole bad is by.safe;
}
  where
    agrees : (a : Assignment) → IsTrue (is_moment whole a) → IsTrue (holds invariant a) → Agrees merges a
    agrees a moment held = agrees_at merges invariant small whole a is moment held

    join : (a : Assignment) → IsTrue (holds invariant a) → IsTrue (holds own a) → IsTrue (holds all a)
    join a first others = subst IsTrue (sym (both a)) (and_from (holds invariant a) (holds own a) first others)

    parts : (a : Assignment) → IsTrue (holds all a) → IsTrue (holds invariant a) × IsTrue (holds own a)
    parts a held = and_parts (holds invariant a) (holds own a) (subst IsTrue (both a) held)
