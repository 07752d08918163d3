-- Notes of which variables are defined, as lists of values.
use Rattle.std.proofs.Common.{◌≡◌, ⊎_elim, ℕ, ◌<◌, ◌++◌, ◌||◌, ◌&&◌, map, IsTrue, eqb, zero, suc, Bool, true, false, List, [], ◌∷◌, length, set, get_or, refl, sym, ap, subst, ◌∙◌}
use Rattle.std.proofs.Math.Path.{fun_ext}
use Rattle.std.proofs.lemmas.Bool.{cases_Bool, eqb-true, eq-eqb, false≢true}
use Rattle.std.proofs.lemmas.List.{get_or-set_other, get_or-set_same}
use Rattle.gipsat_cnf.specs.Prelude.{Assignment, assignment_in}
use Rattle.gipmc_circuits.specs.declared.circuit.Circuit.{Circuit}
use Rattle.gipmc_circuits.specs.WellFormed.{are_in_order, are_new, is_constant, is_source, is_variable, is_well_formed, latch_variables, uses_defined, with_variable, with_variables}

-- a value that becomes true defines the variable of its place
pub defined_set : (values : List Bool) (place : ℕ) → place < length values
    → assignment_in (set values place true) ≡ with_variable place (assignment_in values)
defined_set values place within =
    fun_ext (λ v. ⊎_elim
    (λ same. subst (λ w. get_or (set values place true) w false ≡ true) (sym (eqb-true v place same))
    (get_or-set_same values place true false within)
    ∙ sym (ap (λ b. b || assignment_in values v) same))
    (λ other. get_or-set_other values place v true false (λ e. false≢true (sym other ∙ eq-eqb v place e))
    ∙ sym (ap (λ b. b || assignment_in values v) other))
    (cases_Bool (eqb v place)))

-- a value that is false defines nothing
defined_pushed_at : (values : List Bool) (v : ℕ) → get_or (values ++ false ∷ []) v false ≡ get_or values v false
defined_pushed_at [] zero = refl
defined_pushed_at [] (suc v) = refl
defined_pushed_at (value ∷ values) zero = refl
defined_pushed_at (value ∷ values) (suc v) = defined_pushed_at values v

pub defined_pushed : (values : List Bool) → assignment_in (values ++ false ∷ []) ≡ assignment_in values
defined_pushed values = fun_ext (defined_pushed_at values)

-- at first 0 alone is defined
pub defined_first : with_variable 0 (assignment_in []) ≡ is_constant
defined_first = fun_ext (λ v. ⊎_elim (λ same. ap (λ b. b || false) same ∙ sym same)
    (λ other. ap (λ b. b || false) other ∙ sym other) (cases_Bool (eqb v 0)))

false_second : (a b rest : Bool) → b ≡ false → false ≡ ((a && b) && rest)
false_second true b rest is_not = rw is_not refl
false_second false b rest is_not = refl

false_third : (a b rest : Bool) → b ≡ false → false ≡ (a && (b && rest))
false_third true b rest is_not = rw is_not refl
false_third false b rest is_not = refl

joined : (a b c rest : Bool) → a ≡ true → b ≡ true → c ≡ true → rest ≡ ((a && b) && (c && rest))
joined a b c rest first second third = rw (first, second, third) refl

-- the notes behind the inputs, the latches and the gates, with what each step says
pub record Notes (c : Circuit) (start inputs : Assignment) : Type 0 where
  pub first : start ≡ is_constant
  pub new : IsTrue (are_new c.inputs.items start)
  pub inputs_are : inputs ≡ with_variables c.inputs.items start

pub notes_of : (c : Circuit) (start inputs : Assignment) (new : Bool) → start ≡ is_constant
    → new ≡ are_new c.inputs.items start → (IsTrue new → inputs ≡ with_variables c.inputs.items start) → IsTrue new → Notes c start inputs
notes_of c start inputs new first says defines is = record { first = first; new = sym says ∙ is; inputs_are = defines is }

notes_sources : (c : Circuit) (start inputs : Assignment) → Notes c start inputs → inputs ≡ with_variables c.inputs.items is_constant
notes_sources c start inputs notes = notes.inputs_are ∙ ap (with_variables c.inputs.items) notes.first

pub not_new_inputs : (c : Circuit) (start : Assignment) → start ≡ is_constant → are_new c.inputs.items start ≡ false
    → false ≡ is_well_formed c
not_new_inputs c start first is_not =
    let none : are_new c.inputs.items is_constant ≡ false = ap (are_new c.inputs.items) (sym first) ∙ is_not in
    rw none refl

pub not_new_latches : (c : Circuit) (start inputs : Assignment) → Notes c start inputs
    → are_new (latch_variables c) inputs ≡ false → false ≡ is_well_formed c
not_new_latches c start inputs notes is_not =
    false_second (are_new c.inputs.items is_constant) (are_new (latch_variables c) (with_variables c.inputs.items is_constant))
    (are_in_order c.gates.items (is_source c) && uses_defined (is_variable c) c)
    (ap (are_new (latch_variables c)) (sym (notes_sources c start inputs notes)) ∙ is_not)

pub not_in_order : (c : Circuit) (start inputs latches : Assignment) → Notes c start inputs
    → latches ≡ with_variables (latch_variables c) inputs → are_in_order c.gates.items latches ≡ false → false ≡ is_well_formed c
not_in_order c start inputs latches notes latches_are is_not =
    let sources : latches ≡ is_source c = latches_are ∙ ap (with_variables (latch_variables c)) (notes_sources c start inputs notes) in
    false_third (are_new c.inputs.items is_constant && are_new (latch_variables c) (with_variables c.inputs.items is_constant))
    (are_in_order c.gates.items (is_source c)) (uses_defined (is_variable c) c) (ap (are_in_order c.gates.items) (sym sources) ∙ is_not)

pub in_order_uses : (c : Circuit) (start inputs latches gates : Assignment) → Notes c start inputs
    → are_new (latch_variables c) inputs ≡ true → latches ≡ with_variables (latch_variables c) inputs
    → are_in_order c.gates.items latches ≡ true → gates ≡ with_variables (map (λ g. g.output) c.gates.items) latches
    → uses_defined gates c ≡ is_well_formed c
in_order_uses c start inputs latches gates notes new latches_are ordered gates_are =
    let sources : latches ≡ is_source c = latches_are ∙ ap (with_variables (latch_variables c)) (notes_sources c start inputs notes) in
    let variables : gates ≡ is_variable c = gates_are ∙ ap (with_variables (map (λ g. g.output) c.gates.items)) sources in
    ap (λ d. uses_defined d c) variables
    ∙ joined (are_new c.inputs.items is_constant) (are_new (latch_variables c)
    (with_variables c.inputs.items is_constant)) (are_in_order c.gates.items (is_source c))
    (uses_defined (is_variable c) c)
    (ap (are_new c.inputs.items) (sym notes.first) ∙ notes.new)
    (ap (are_new (latch_variables c)) (sym (notes_sources c start inputs notes)) ∙ new)
    (ap (are_in_order c.gates.items) (sym sources) ∙ ordered)
