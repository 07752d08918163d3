-- A certificate whose variables are defined once, with its gates in order, simulates every circuit.
use Rattle.std.proofs.Common.{◌≡◌, ⊎_elim, ℕ, ◌++◌, ◌&&◌, eqb, Bool, true, false, not, cond, List, [], ◌∷◌, map, IsTrue, refl, sym, ap, subst, ◌∙◌}
use Rattle.std.specs.Bool.{beq}
use Rattle.std.specs.Cmp.{booleans_Decides}
use Rattle.std.specs.List.{list_all}
use Rattle.std.specs.List.Sorted.{IsPermutation}
use Rattle.std.proofs.lemmas.Bool.{and_from, and_parts, both_ways, cases_Bool, cond-true, cond-false, eqb-true, eq-eqb, or_left, or_right}
use Rattle.std.proofs.lemmas.List.Folds.{list_all-append, list_all-map}
use Rattle.gipsat_cnf.specs.Formulas.{Assignment, is_true}
use Rattle.gipsat_cnf.proofs.Tests.{list_all-permuted}
use Rattle.gipmc_circuits.specs.declared.circuit.And.{And}
use Rattle.gipmc_circuits.specs.declared.circuit.Circuit.{Circuit}
use Rattle.gipmc_circuits.specs.declared.witness_circuit.Link.{Link}
use Rattle.gipmc_circuits.specs.declared.witness_circuit.WitnessCircuit.{WitnessCircuit}
use Rattle.gipmc_circuits.specs.Prelude.{Simulates, are_defined_from, are_in_order, are_linked, are_new, are_paired, has_value, is_constant, is_linked, is_moment, is_valuation, link_variables, reset_gate, start_literal, with_variable, with_variables}
use Rattle.gipmc_circuits.proofs.Valuations.{AgreeAt, keeps_defined, values_from}

-- a variable and the value that it is to have
abbrev Row : Type 0
Row = ℕ × Bool

abbrev row_variables : List Row → List ℕ
row_variables rows = map (λ r. r.0) rows

abbrev have_rows : Assignment → List Row → Bool
have_rows a rows = list_all (λ r. beq (a r.0) r.1) rows

-- variables that come once have the values that they are to have, in some assignment that keeps what is defined
assigned : (rows : List Row) (rest : List ℕ) (defined : ℕ → Bool) (a : Assignment)
    → IsTrue (are_new (row_variables rows ++ rest) defined)
    → (b : Assignment) × AgreeAt defined b a × IsTrue (have_rows b rows)
assigned [] rest defined a new = (a, (λ v is. refl), refl)
assigned (r ∷ rows) rest defined a new =
    let (here, others) = and_parts (not (defined r.0)) (are_new (row_variables rows ++ rest) (with_variable r.0 defined)) new in
    let next : Assignment = λ v. cond (eqb v r.0) r.1 (a v) in
    let (b, keeps, all) = assigned rows rest (with_variable r.0 defined) next others in
    let old : AgreeAt defined b a = λ v is.
    keeps v (or_right (eqb v r.0) (defined v) is)
    ∙ cond-false (eqb v r.0) r.1 (a v)
    (⊎_elim (λ same. absurd (both_ways (defined r.0) (is_not (defined r.0) here)
    (subst (λ w. defined w ≡ true) (eqb-true v r.0 same) is))) (λ other. other) (cases_Bool (eqb v r.0)))
    in
    let first : b r.0 ≡ r.1 =
    keeps r.0 (or_left (eqb r.0 r.0) (defined r.0) (eq-eqb r.0 r.0 refl))
    ∙ cond-true (eqb r.0 r.0) r.1 (a r.0) (eq-eqb r.0 r.0 refl)
    in
    (b, old, and_from (beq (b r.0) r.1) (have_rows b rows) ((booleans_Decides (b r.0) r.1).1 first) all)
  where
    is_not : (x : Bool) → not x ≡ true → x ≡ false
    is_not false is = refl
    is_not true is = sym is

-- they keep them where all that is defined then stays
rows_kept : (rows : List Row) (rest : List ℕ) (defined : ℕ → Bool) (a b : Assignment)
    → AgreeAt (with_variables (row_variables rows ++ rest) defined) b a → IsTrue (have_rows a rows) → IsTrue (have_rows b rows)
rows_kept [] rest defined a b agree all = refl
rows_kept (r ∷ rows) rest defined a b agree all =
    let (here, others) = and_parts (beq (a r.0) r.1) (have_rows a rows) all in
    let same : b r.0 ≡ a r.0 =
    agree r.0 (keeps_defined (row_variables rows ++ rest) (with_variable r.0 defined) r.0
    (or_left (eqb r.0 r.0) (defined r.0) (eq-eqb r.0 r.0 refl))) in
    and_from (beq (b r.0) r.1) (have_rows b rows) (subst (λ x. IsTrue (beq x r.1)) (sym same) here)
    (rows_kept rows rest (with_variable r.0 defined) a b agree others)

-- the values that rows and gates ask for
record Made (rows : List Row) (gates : List And) : Type 0 where
  values : Assignment
  constant : values 0 ≡ false
  rows_hold : IsTrue (have_rows values rows)
  gates_hold : IsTrue (list_all (has_value values) gates)

made : (rows : List Row) (rest : List ℕ) (gates : List And) → IsTrue (are_defined_from (row_variables rows ++ rest) gates)
    → Made rows gates
made rows rest gates defined =
    let sources = row_variables rows ++ rest in
    let (new, order) = and_parts (are_new sources is_constant) (are_in_order gates (with_variables sources is_constant)) defined in
    let (a, first, have) = assigned rows rest is_constant (λ v. false) new in
    let (b, keeps, all) = values_from gates (with_variables sources is_constant) a order in
    record {
      values = b;
      constant = keeps 0 (keeps_defined sources is_constant 0 refl) ∙ first 0 refl;
      rows_hold = rows_kept rows rest is_constant a b keeps have;
      gates_hold = all;
    }

-- what links ask for
abbrev link_rows : Assignment → List Link → List Row
link_rows a links = map (λ k. (k.variable, is_true a k.literal)) links

link_rows-variables : (a : Assignment) (links : List Link) → row_variables (link_rows a links) ≡ link_variables links
link_rows-variables a [] = refl
link_rows-variables a (k ∷ links) = ap (λ vs. k.variable ∷ vs) (link_rows-variables a links)

both_rows-variables : (a b : Assignment) (links more : List Link)
    → row_variables (link_rows a links ++ link_rows b more) ≡ link_variables links ++ link_variables more
both_rows-variables a b [] more = link_rows-variables b more
both_rows-variables a b (k ∷ links) more = ap (λ vs. k.variable ∷ vs) (both_rows-variables a b links more)

link_rows-hold : (a b : Assignment) (links : List Link) → have_rows b (link_rows a links) ≡ are_linked a b links
link_rows-hold a b links = list_all-map (λ r. beq (b r.0) r.1) (λ k. (k.variable, is_true a k.literal)) links

-- where the gate of a reset has its value, the latch has its reset
reset_holds : (b : Assignment) (k : Link) → IsTrue (has_value b (reset_gate k)) → IsTrue (is_linked b b k)
reset_holds b k is =
    ⊎_elim
    (λ own.
    let (same, positive) = and_parts (eqb k.literal.variable k.variable) k.literal.positive own in
    let here : k.literal.variable ≡ k.variable = eqb-true k.literal.variable k.variable same in
    let value : is_true b k.literal ≡ b k.variable =
    ap (λ p. beq (b k.literal.variable) p) positive ∙ is_itself (b k.literal.variable) ∙ ap b here in
    (booleans_Decides (b k.variable) (is_true b k.literal)).1 (sym value))
    (λ other.
    let start : start_literal k ≡ k.literal = cond-false (eqb k.literal.variable k.variable && k.literal.positive) _ k.literal other in
    let value : b k.variable ≡ (is_true b (start_literal k) && is_true b (start_literal k)) =
    (booleans_Decides (b k.variable) (is_true b (start_literal k) && is_true b (start_literal k))).0 is in
    (booleans_Decides (b k.variable) (is_true b k.literal)).1
    (value ∙ twice (is_true b (start_literal k)) ∙ ap (is_true b) start))
    (cases_Bool (eqb k.literal.variable k.variable && k.literal.positive))
  where
    is_itself : (x : Bool) → beq x true ≡ x
    is_itself true = refl
    is_itself false = refl

    twice : (x : Bool) → (x && x) ≡ x
    twice true = refl
    twice false = refl

resets_hold : (b : Assignment) (links : List Link) → IsTrue (list_all (has_value b) (map reset_gate links))
    → IsTrue (are_linked b b links)
resets_hold b [] all = refl
resets_hold b (k ∷ links) all =
    let (here, rest) = and_parts (has_value b (reset_gate k)) (list_all (has_value b) (map reset_gate links)) all in
    and_from (is_linked b b k) (are_linked b b links) (reset_holds b k here) (resets_hold b links rest)

-- a certificate whose gates are in order, at first and later, simulates each circuit
pub simulated : (c : Circuit) (w : WitnessCircuit) (order : List And)
    → IsPermutation (map reset_gate w.resets.items ++ w.circuit.gates.items) order
    → IsTrue (are_defined_from (link_variables w.shared.items ++ w.inputs.items) order)
    → IsTrue (are_defined_from ((link_variables w.shared.items ++ link_variables w.nexts.items) ++ w.inputs.items)
    w.circuit.gates.items)
    → Simulates c w
simulated c w order permuted first later = record {
  begins = λ a is_now.
      let rows = link_rows a w.shared.items in
      let m = made rows w.inputs.items order
      (subst (λ vs. IsTrue (are_defined_from (vs ++ w.inputs.items) order)) (sym (link_rows-variables a w.shared.items)) first) in
      let b = m.values in
      let all : IsTrue (list_all (has_value b) (map reset_gate w.resets.items ++ w.circuit.gates.items)) =
      list_all-permuted (has_value b) (map reset_gate w.resets.items ++ w.circuit.gates.items) order permuted ∙ m.gates_hold in
      let (resets, gates) = and_parts (list_all (has_value b) (map reset_gate w.resets.items))
      (list_all (has_value b) w.circuit.gates.items)
      (sym (list_all-append (has_value b) (map reset_gate w.resets.items) w.circuit.gates.items) ∙ all) in (
        b,
        paired a b is_now m.constant gates (sym (link_rows-hold a b w.shared.items) ∙ m.rows_hold),
        resets_hold b w.resets.items resets,
      );
  goes_on = λ b d is_now.
      let shared_rows = link_rows d w.shared.items in
      let next_rows = link_rows b w.nexts.items in
      let m = made (shared_rows ++ next_rows) w.inputs.items w.circuit.gates.items
      (subst (λ vs. IsTrue (are_defined_from (vs ++ w.inputs.items) w.circuit.gates.items))
      (sym (both_rows-variables d b w.shared.items w.nexts.items)) later) in
      let e = m.values in
      let (shared, nexts) = and_parts (have_rows e shared_rows) (have_rows e next_rows)
      (sym (list_all-append (λ r. beq (e r.0) r.1) shared_rows next_rows) ∙ m.rows_hold) in (
        e,
        paired d e is_now m.constant m.gates_hold (sym (link_rows-hold d e w.shared.items) ∙ shared),
        sym (link_rows-hold b e w.nexts.items) ∙ nexts,
      );
}
  where
    paired : (a b : Assignment) → IsTrue (is_moment c a) → b 0 ≡ false → IsTrue (list_all (has_value b) w.circuit.gates.items)
        → IsTrue (are_linked a b w.shared.items) → IsTrue (are_paired c w a b)
    paired a b is_now constant gates shared =
        and_from (is_valuation w.circuit b) (are_linked a b w.shared.items && is_moment c a)
        (and_from (not (b 0)) (list_all (has_value b) w.circuit.gates.items) (ap not constant) gates)
        (and_from (are_linked a b w.shared.items) (is_moment c a) shared is_now)

-- what notes of the sources and of the gates say together
pub defined_from : (sources : List ℕ) (gates : List And) (start inputs : ℕ → Bool) (new are : Bool) → start ≡ is_constant
    → new ≡ are_new sources start → IsTrue new → (IsTrue new → inputs ≡ with_variables sources start)
    → are ≡ are_in_order gates inputs → IsTrue are → IsTrue (are_defined_from sources gates)
defined_from sources gates start inputs new are first says is_new defines said is =
    let noted : inputs ≡ with_variables sources is_constant = defines is_new ∙ ap (with_variables sources) first in
    and_from (are_new sources is_constant) (are_in_order gates (with_variables sources is_constant))
    (ap (are_new sources) (sym first) ∙ sym says ∙ is_new)
    (ap (are_in_order gates) (sym noted) ∙ sym said ∙ is)
