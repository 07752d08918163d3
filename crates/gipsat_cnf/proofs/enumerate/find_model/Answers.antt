use Rattle.std.proofs.Common.{◌≡◌, ◌+◌, ◌^◌, ◌≤◌, length, subst, sym, ap, ◌∙◌, refl}
use Rattle.std.proofs.lemmas.List.{length-replicate}
use Rattle.gipsat_cnf.specs.Prelude.{AreAllBelow, AreBelow, IsModelUnder, NoneBelow, number}
use Rattle.gipsat_cnf.proofs.Formulas.{AreAllBelow-more}
use Rattle.gipsat_cnf.proofs.Counting.{NoneBelow-all, NoneBelow-next, NoneBelow-zero, distance-less, number-replicate}
use Rattle.gipsat_cnf.proofs.enumerate.find_model.Goals as goal

pub loop-values-init : goal.loop-values-init
loop-values-init c =
    let n = c.variables_with.result in
    let len : length c.in_ok-values.values.items ≡ c.variables_with.result = ap length c.in_ok-values.ensures ∙ length-replicate n _ in
    record {
      below = subst (λ m. AreAllBelow m c.args.formula.now) (sym len)
          (AreAllBelow-more c.variables.result n c.args.formula.now c.variables_with.ensures.least c.variables.ensures.below);
      assumed = subst (λ m. AreBelow m c.args.assumptions.now) (sym len) c.variables_with.ensures.below;
      none = NoneBelow-zero c.args.formula.now c.args.assumptions.now _ (number c.in_ok-values.values.items)
          (ap number c.in_ok-values.ensures ∙ number-replicate n);
    }

pub returns-then-not-advance-clause-none : goal.returns-then-not-advance-clause-none
returns-then-not-advance-clause-none c =
    let values = c.loop-values.values.items in
    let not_it : ¬ (IsModelUnder c.args.formula.now c.args.assumptions.now c.loop-values.values.items) =
    subst (λ vs. ¬ (IsModelUnder c.args.formula.now c.args.assumptions.now vs)) c.deref.ensures.value c.if-is_model.ensures.no
    in
    let last : 2 ^ length c.loop-values.values.items ≤ number c.loop-values.values.items + 1 =
    c.if-not-advance.ensures.last
    in
    NoneBelow-all c.args.formula.now c.args.assumptions.now (length values) (number values + 1) c.loop-values.invariant.below c.loop-values.invariant.assumed last
    (NoneBelow-next c.args.formula.now c.args.assumptions.now (length values) values (number values + 1) refl refl not_it c.loop-values.invariant.none)

pub loop-values-smaller : goal.loop-values-smaller
loop-values-smaller c =
    let len : length c.advance.new.values.items ≡ length c.loop-values.values.items = c.if-not-advance.ensures.len in
    let next : number c.advance.new.values.items ≡ number c.loop-values.values.items + 1 = c.if-not-advance.ensures.next in
    distance-less c.loop-values.values.items c.advance.new.values.items len next

pub loop-values-preserved : goal.loop-values-preserved
loop-values-preserved c =
    let values = c.loop-values.values.items in
    let len : length c.advance.new.values.items ≡ length c.loop-values.values.items = c.if-not-advance.ensures.len in
    let next : number c.advance.new.values.items ≡ number c.loop-values.values.items + 1 = c.if-not-advance.ensures.next in
    let not_it : ¬ (IsModelUnder c.args.formula.now c.args.assumptions.now c.loop-values.values.items) =
    subst (λ vs. ¬ (IsModelUnder c.args.formula.now c.args.assumptions.now vs)) c.deref.ensures.value c.if-is_model.ensures.no
    in
    record {
      below = subst (λ m. AreAllBelow m c.args.formula.now) (sym len) c.loop-values.invariant.below;
      assumed = subst (λ m. AreBelow m c.args.assumptions.now) (sym len) c.loop-values.invariant.assumed;
      none = NoneBelow-next c.args.formula.now c.args.assumptions.now (length c.advance.new.values.items) values (number c.advance.new.values.items) (sym len) next not_it
          (subst (λ m. NoneBelow c.args.formula.now c.args.assumptions.now m (number values)) (sym len) c.loop-values.invariant.none);
    }
