-- A well-formed circuit has one valuation for each choice of the values of its inputs and latches.
use Rattle.std.proofs.Common.{◌≡◌, ⊎_elim, ℕ, ◌&&◌, eqb, Bool, true, false, not, cond, List, [], ◌∷◌, map, IsTrue, refl, sym, ap, subst, ◌∙◌}
use Rattle.std.specs.Bool.{beq}
use Rattle.std.specs.Cmp.{booleans_Decides}
use Rattle.std.specs.List.{list_all}
use Rattle.std.proofs.lemmas.Bool.{and_from, and_parts, both_ways, cases_Bool, cond-true, cond-false, eqb-true, eq-eqb, not-true, or_cases, or_left, or_right}
use Rattle.gipsat_cnf.specs.Formulas.{Assignment, is_true}
use Rattle.gipmc_circuits.specs.declared.circuit.And.{And}
use Rattle.gipmc_circuits.specs.declared.circuit.Circuit.{Circuit}
use Rattle.gipmc_circuits.specs.Prelude.{are_in_order, are_new, has_value, is_constant, is_source, is_valuation, is_variable, is_well_formed, latch_variables, with_variable, with_variables}
use Rattle.gipmc_circuits.proofs.Agreeing.{both_alike}

-- the values are the same at each of these variables
abbrev pub AgreeAt : (ℕ → Bool) → Assignment → Assignment → Type 0
AgreeAt defined a b = (v : ℕ) → IsTrue (defined v) → a v ≡ b v

operands_alike : (g : And) (defined : ℕ → Bool) (a b : Assignment) → IsTrue (defined g.left.variable && defined g.right.variable)
    → AgreeAt defined a b → (is_true a g.left && is_true a g.right) ≡ (is_true b g.left && is_true b g.right)
operands_alike g defined a b both agree =
    let (left, right) = and_parts (defined g.left.variable) (defined g.right.variable) both in
    both_alike (is_true a g.left) (is_true b g.left) (is_true a g.right) (is_true b g.right)
    (ap (λ v. beq v g.left.positive) (agree g.left.variable left)) (ap (λ v. beq v g.right.positive) (agree g.right.variable right))

record InOrder (g : And) (gates : List And) (defined : ℕ → Bool) : Type 0 where
  operands : IsTrue (defined g.left.variable && defined g.right.variable)
  output : defined g.output ≡ false
  rest : IsTrue (are_in_order gates (with_variable g.output defined))

in_order-parts : (g : And) (gates : List And) (defined : ℕ → Bool) → IsTrue (are_in_order (g ∷ gates) defined) → InOrder g gates defined
in_order-parts g gates defined is =
    let (operands, others) = and_parts (defined g.left.variable && defined g.right.variable)
    (not (defined g.output) && are_in_order gates (with_variable g.output defined)) is in
    let (output, rest) = and_parts (not (defined g.output)) (are_in_order gates (with_variable g.output defined)) others in
    record { operands = operands; output = not-true (defined g.output) output; rest = rest }

-- gates in order have the same values where what they start from has
same_from : (gates : List And) (defined : ℕ → Bool) (a b : Assignment) → IsTrue (are_in_order gates defined)
    → IsTrue (list_all (has_value a) gates) → IsTrue (list_all (has_value b) gates) → AgreeAt defined a b
    → AgreeAt (with_variables (map (λ g. g.output) gates) defined) a b
same_from [] defined a b order in_a in_b agree = agree
same_from (g ∷ gates) defined a b order in_a in_b agree =
    let parts = in_order-parts g gates defined order in
    let (here_a, rest_a) = and_parts (has_value a g) (list_all (has_value a) gates) in_a in
    let (here_b, rest_b) = and_parts (has_value b g) (list_all (has_value b) gates) in_b in
    let output : a g.output ≡ b g.output =
    (booleans_Decides (a g.output) (is_true a g.left && is_true a g.right)).0 here_a
    ∙ operands_alike g defined a b parts.operands agree
    ∙ sym ((booleans_Decides (b g.output) (is_true b g.left && is_true b g.right)).0 here_b)
    in
    same_from gates (with_variable g.output defined) a b parts.rest rest_a rest_b
    (λ v is. ⊎_elim (λ same. let here : v ≡ g.output = eqb-true v g.output same in subst (λ w. a w ≡ b w) (sym here)
    output) (λ old. agree v old) (or_cases (eqb v g.output) (defined v) is))

-- gates in order have values, whatever they start from
pub values_from : (gates : List And) (defined : ℕ → Bool) (a : Assignment) → IsTrue (are_in_order gates defined)
    → (b : Assignment) × AgreeAt defined b a × IsTrue (list_all (has_value b) gates)
values_from [] defined a order = (a, (λ v is. refl), refl)
values_from (g ∷ gates) defined a order =
    let parts = in_order-parts g gates defined order in
    let value = is_true a g.left && is_true a g.right in
    let next : Assignment = λ v. cond (eqb v g.output) value (a v) in
    let (b, keeps, all) = values_from gates (with_variable g.output defined) next parts.rest in
    let old : AgreeAt defined b a = λ v is.
    keeps v (or_right (eqb v g.output) (defined v) is)
    ∙ cond-false (eqb v g.output) value (a v)
    (⊎_elim (λ same. absurd (both_ways (defined g.output) parts.output
    (subst (λ w. defined w ≡ true) (eqb-true v g.output same) is))) (λ other. other) (cases_Bool (eqb v g.output)))
    in
    let output : b g.output ≡ value =
    keeps g.output (or_left (eqb g.output g.output) (defined g.output) (eq-eqb g.output g.output refl))
    ∙ cond-true (eqb g.output g.output) value (a g.output) (eq-eqb g.output g.output refl)
    in (
      b,
      old,
      and_from (has_value b g) (list_all (has_value b) gates)
          ((booleans_Decides (b g.output) (is_true b g.left && is_true b g.right)).1 (output ∙ sym (operands_alike g defined b a parts.operands old))) all,
    )

order-part : (c : Circuit) → IsTrue (is_well_formed c) → IsTrue (are_in_order c.gates.items (is_source c))
order-part c is =
    let news = are_new c.inputs.items is_constant && are_new (latch_variables c) (with_variables c.inputs.items is_constant) in
    let literals = list_all (λ l. is_variable c l.next.variable) c.latches.items
    && (list_all (λ l. is_variable c l.variable) c.bads.items && list_all (λ l. is_variable c l.variable) c.constraints.items)
    in
    let (new, others) = and_parts news (are_in_order c.gates.items (is_source c) && literals) is in
    (and_parts (are_in_order c.gates.items (is_source c)) literals others).0

pub keeps_defined : (vs : List ℕ) (defined : ℕ → Bool) (v : ℕ) → IsTrue (defined v) → IsTrue (with_variables vs defined v)
keeps_defined [] defined v is = is
keeps_defined (w ∷ vs) defined v is = keeps_defined vs (with_variable w defined) v (or_right (eqb v w) (defined v) is)

-- two valuations that agree at 0, the inputs and the latches agree at each variable of the circuit
pub valuations-agree : (c : Circuit) (a b : Assignment) → IsTrue (is_well_formed c) → IsTrue (is_valuation c a)
    → IsTrue (is_valuation c b) → ((v : ℕ) → IsTrue (is_source c v) → a v ≡ b v)
    → (v : ℕ) → IsTrue (is_variable c v) → a v ≡ b v
valuations-agree c a b is in_a in_b agree =
    same_from c.gates.items (is_source c) a b (order-part c is) (and_parts (not (a 0)) (list_all (has_value a) c.gates.items) in_a).1
    (and_parts (not (b 0)) (list_all (has_value b) c.gates.items) in_b).1 agree

-- whatever the values of the inputs and latches are, there is a valuation that has them
pub valuation-exists : (c : Circuit) (a : Assignment) → IsTrue (is_well_formed c) → a 0 ≡ false
    → (b : Assignment) × IsTrue (is_valuation c b) × ((v : ℕ) → IsTrue (is_source c v) → b v ≡ a v)
valuation-exists c a is zero_false =
    let (b, keeps, all) = values_from c.gates.items (is_source c) a (order-part c is) in
    let zero_source = keeps_defined (latch_variables c) (with_variables c.inputs.items is_constant) 0
    (keeps_defined c.inputs.items is_constant 0 refl) in
    (b, and_from (not (b 0)) (list_all (has_value b) c.gates.items) (ap not (keeps 0 zero_source ∙ zero_false)) all, keeps)
