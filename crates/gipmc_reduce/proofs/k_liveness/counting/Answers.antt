-- The circuit has the chain that waits for the literals in turn, and so it counts.
use Rattle.std.proofs.Common.{◌≡◌, ◌++◌, IsTrue, sym, ap, subst, ◌∙◌}
use Rattle.std.specs.List.{list_all}
use Rattle.gipmc_circuits.specs.Encoding.{literal_below}
use Rattle.gipmc_reduce.specs.Chains.{IsChained, IsCounterOf, yes_of, top}
use Rattle.gipmc_reduce.specs.Turns.{turn, turns}
use Rattle.gipmc_reduce.proofs.Counted.{CountsTo-counter, IsLive-counted}
use Rattle.gipmc_reduce.proofs.k_liveness.counting.Goals as goal

pub returns-in-Some-clause-counter : goal.returns-in-Some-clause-counter
returns-in-Some-clause-counter c =
    let circuit = c.args.netlist.now.circuit in
    let n = c.args.netlist.now.variables in
    let made = c.in_ok-circuit.circuit in
    let literals = c.args.fairness.now ++ c.args.justice.now in
    let k = c.args.k in
    let stages : c.in_ok-stages.stages.items ≡ turns literals k =
    c.in_ok-stages.ensures ∙ ap (λ ls. turns ls k) (c.deref.ensures.value ∙ c.in_ok-literals.ensures) in
    let last : c.in_turn-last.result ≡ turn literals k =
    c.in_turn-last.ensures ∙ ap (λ ls. turn ls k) (c.deref-2.ensures.value ∙ c.in_ok-literals.ensures) in
    let same : c.in-Some.made.circuit ≡ made = rw c.in-Some.is at c.in_ok-made.ensures in
    subst (λ d. IsCounterOf circuit literals k d c.in_ok-circuit.bad) (sym same) (
      n,
      record {
        fresh = c.args.netlist.now.enough;
        stages = subst (λ ls. IsTrue (list_all (literal_below n) ls)) (c.deref-3.ensures.value ∙ stages)
            (sym c.are_below.ensures ∙ c.if-not-are_below.false);
        last = subst (λ l. IsTrue (literal_below n l)) last (sym c.is_below.ensures ∙ c.if-not-is_below.false);
        chained = subst (IsChained n circuit made (turns literals k)) last
            (subst (λ ls. IsChained n circuit made ls c.in_turn-last.result) (c.deref-4.ensures.value ∙ stages) c.in_ok-circuit.ensures.chained);
        counted = c.in_ok-circuit.ensures.bad ∙ ap (λ ls. yes_of (top n ls)) (c.deref-4.ensures.value ∙ stages);
      },
    )

pub returns-in-Some-clause-counts : goal.returns-in-Some-clause-counts
returns-in-Some-clause-counts c =
    CountsTo-counter c.args.netlist.now.circuit (c.args.fairness.now ++ c.args.justice.now) c.args.k c.in-Some.made.circuit
    c.in_ok-circuit.bad (returns-in-Some-clause-counter c)

pub returns-in-Some-clause-live : goal.returns-in-Some-clause-live
returns-in-Some-clause-live c =
    IsLive-counted c.args.netlist.now.circuit c.in-Some.made.circuit c.args.fairness.now c.args.justice.now c.args.k c.in_ok-circuit.bad
    (returns-in-Some-clause-counts c)
