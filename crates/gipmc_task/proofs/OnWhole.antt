-- Smaller circuits that stand for a circuit.
use Rattle.std.proofs.Common.{◌≡◌, ◌∙◌, ℕ, ◌<◌, List, Vec, length, map, ap, get_or, sym, subst}
use Rattle.std.specs.Option.{option_map}
use Rattle.std.specs.Prelude.{slice_get, Some}
use Rattle.std.specs.declared.alloc.Global.{Global}
use Rattle.std.proofs.lemmas.List.{length-map}
use Rattle.std.proofs.lemmas.Option.{slice_get-get_or, slice_get-map, slice_get_within}
use Rattle.gipsat_cnf.specs.Literals.{Lit}
use Rattle.gipsat_cnf.proofs.Places.{same_some}
use Rattle.gipmc_circuits.specs.Circuit.{FailsAfter}
use Rattle.gipmc_circuits.specs.declared.circuit.Circuit.{Circuit}
use Rattle.gipmc_reduce.specs.Cone.{IsPartOf, literal_named}
use Rattle.gipmc_reduce.proofs.ThroughNames.{FailsAfter-part}
use Rattle.gipmc_reduce.specs.Correspondence.{IsSweptOf, merged}
use Rattle.gipmc_reduce.proofs.ThroughMerges.{FailsAfter-swept}
use Rattle.gipmc_task.specs.Left.{StandFor}

-- what a function makes of the item at a place is the item there of the list that it makes
item_made : {X Y : Type 0} (f : X → Y) (xs : List X) (ys : List Y) (k : ℕ) (x : X) (y : Y) → map f xs ≡ ys
    → slice_get xs k ≡ Some x → slice_get ys k ≡ Some y → f x ≡ y
item_made f xs ys k x y same at here =
    same_some (f x) y
    (sym (ap (option_map f) at) ∙ (sym (slice_get-map f xs k) ∙ (ap (λ items. slice_get items k) same ∙ here)))

-- the literals of a part stand for those of the circuit
pub StandFor-part : (names : List ℕ) (part : Circuit) (whole : Circuit) (owns bads : List Lit)
    → IsPartOf names part whole → map (literal_named names) owns ≡ bads → StandFor part owns whole bads
StandFor-part names part whole owns bads is same = record {
  count = sym (length-map owns (literal_named names)) ∙ ap length same;
  each = λ k own bad at here n never fails.
      let named = item_made (literal_named names) owns bads k own bad same at here in
      never (FailsAfter-part names part whole own n is (subst (λ l. FailsAfter whole l n) (sym named) fails));
}

-- what stands for the literals after merges
pub StandFor-swept : (merges : List Lit) (invariant : List (Vec Lit Global)) (small : Circuit) (whole : Circuit)
    → (owns bads : List Lit) → IsSweptOf merges invariant small whole → owns ≡ map (merged merges) bads
    → StandFor small owns whole bads
StandFor-swept merges invariant small whole owns bads is same = record {
  count = ap length same ∙ length-map bads (merged merges);
  each = λ k own bad at here n never fails.
      let own_is = item_made (merged merges) bads owns k bad own (sym same) here at in
      never (subst (λ l. FailsAfter small l n) own_is (FailsAfter-swept merges invariant small whole bad n is fails));
}

-- through a circuit between
pub StandFor-through : (small : Circuit) (owns : List Lit) (between : Circuit) (mids : List Lit)
    → (whole : Circuit) (bads : List Lit) → StandFor small owns between mids → StandFor between mids whole bads
    → StandFor small owns whole bads
StandFor-through small owns between mids whole bads lower upper = record {
  count = lower.count ∙ upper.count;
  each = λ k own bad at here n never.
      let less = subst (λ m. k < m) (sym upper.count) (slice_get_within bads k bad here) in
      let there = slice_get-get_or mids k own less in
      upper.each k (get_or mids k own) bad there here n (lower.each k own (get_or mids k own) at there n never);
}
