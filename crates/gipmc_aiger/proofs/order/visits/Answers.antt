-- At first nothing is open, and then one gate waits.
use Rattle.std.proofs.Common.{◌≡◌, ◌++◌, ◌∷◌, [], length, ap, arith, replicate, subst, sym, ◌∙◌}
use Rattle.std.proofs.lemmas.Grind.{common_steps}
use Rattle.gipmc_aiger.specs.Defects.{IsStack}
use Rattle.gipmc_aiger.specs.declared.order.Visit.TheVariants.{New}
use Rattle.gipmc_aiger.proofs.Stacks.{begun, fresh, lent_back}
use Rattle.gipmc_aiger.proofs.order.visits.Goals as goal

pub visit_all-requires : goal.visit_all-requires
visit_all-requires c =
    let gates = c.args.gates.now in
    let root = c.loop-root.root in
    let list : c.push.new.self.items ≡ root ∷ [] =
    c.in_ok-push.ensures.items ∙ ap (λ xs. xs ++ root ∷ []) c.loop-root.invariant.none in
    subst (λ vs. IsStack gates vs c.push.new.self.items) (sym c.deref_mut.ensures.value)
    (subst (λ xs. IsStack gates c.loop-root.visits.items xs) (sym list)
    (begun gates c.loop-root.visits.items root c.loop-root.invariant.stack))

pub loop-root-init : goal.loop-root-init
loop-root-init c =
    let gates = c.args.gates.now in
    let all : c.in_ok-visits.visits.items ≡ replicate (length gates) New =
    c.in_ok-visits.ensures.items_if_clones_equal (λ y e. e) in
    record {
      none = c.new-waiting.ensures.items;
      stack = subst (λ vs. IsStack gates vs []) (sym all) (fresh gates (length gates));
    }

pub loop-root-preserved : goal.loop-root-preserved
loop-root-preserved c =
    let same : length c.visit_all.new.visits ≡ length c.loop-root.visits.items = grind (arith, common_steps) in
    let len : c.loop-root.visits.len ≡ length c.loop-root.visits.items = grind (arith, common_steps) in
    record {
      none = c.in_ok-done.ensures.none;
      stack = subst (λ vs. IsStack c.args.gates.now vs [])
          (sym (lent_back c.visit_all.new.visits c.loop-root.visits.items c.loop-root.visits.len same len))
          c.in_ok-done.ensures.stack;
    }
