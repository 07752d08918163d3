-- A machine from its step: a circuit that a builder made is the machine of what its state, its inputs and its bad literal do.
use Rattle.std.proofs.Common.{◌≡◌, ℕ, ◌%◌, ◌^◌, ◌&&◌, ◌++◌, eqb, cond, Bool, true, false, not, List, [], ◌∷◌, length, map, IsTrue, arith, refl, sym, ap, subst, ◌∙◌}
use Rattle.std.specs.Bool.{beq}
use Rattle.std.proofs.lemmas.Bool.{and_parts, cond-false, cond-true, eq-eqb, or_left}
use Rattle.gipsat_cnf.specs.Prelude.{Assignment, Lit, makes_true}
use Rattle.gipmc_circuits.specs.declared.circuit.Circuit.{Circuit}
use Rattle.gipmc_circuits.specs.Prelude.{are_in_order, are_new, is_constant, is_moment, is_source, is_valuation, is_variable, is_well_formed, latch_variables, uses_defined, with_variable, with_variables}
use Rattle.gipmc_builder.specs.Build.{AddsInputs, AddsLatches, AddsProperties, IsEmpty, Keeps, StartsAt, Takes, are_positive, number_of, variables_of}
use Rattle.gipmc_builder.specs.Machine.{CanRead, DoesSteps, GivesBad, GivesNext, HasInputs, IsMachine, first_of, two_of, values_of}
use Rattle.gipmc_builder.proofs.Machines.{differ, new_differ, turned}

-- one input, and two of them
pub CanRead-one : (l : Lit) → CanRead (l ∷ []) first_of
CanRead-one l = record { write = λ value. value ∷ []; width = λ value. refl; reads = λ value. refl }

pub CanRead-two : (l m : Lit) → CanRead (l ∷ m ∷ []) two_of
CanRead-two l m = record { write = λ (x, y). x ∷ y ∷ []; width = λ (x, y). refl; reads = λ (x, y). refl }

-- variables, each with its value
abbrev assigned : List ℕ → List Bool → Assignment
assigned [] values w = false
assigned (v ∷ vs) [] w = false
assigned (v ∷ vs) (x ∷ xs) w = cond (eqb w v) x (assigned vs xs w)

assigned_behind : (vs : List ℕ) (v : ℕ) (x : Bool) (a : Assignment) → IsTrue (differ v vs)
    → map (λ w. cond (eqb w v) x (a w)) vs ≡ map a vs
assigned_behind [] v x a other = refl
assigned_behind (w ∷ vs) v x a other =
    let (here, rest) = and_parts (not (eqb v w)) (differ v vs) other in
    ap (λ y. y ∷ map (λ u. cond (eqb u v) x (a u)) vs) (cond-false (eqb w v) x (a w) (turned w v here))
    ∙ ap (λ ys. a w ∷ ys) (assigned_behind vs v x a rest)

no_values : (xs : List Bool) → length xs ≡ 0 → xs ≡ []
no_values [] none = refl
no_values (x ∷ xs) none = absurd (omega (arith, none))

-- variables that are new one after another have their values
assigned_all : (vs : List ℕ) (xs : List Bool) (defined : ℕ → Bool) → IsTrue (are_new vs defined) → length xs ≡ length vs
    → map (assigned vs xs) vs ≡ xs
assigned_all [] xs defined new same = sym (no_values xs same)
assigned_all (v ∷ vs) [] defined new same = absurd (omega (arith, same))
assigned_all (v ∷ vs) (x ∷ xs) defined new same =
    let (here, rest) = and_parts (not (defined v)) (are_new vs (with_variable v defined)) new in
    let other : IsTrue (differ v vs) =
    new_differ vs (with_variable v defined) v (or_left (eqb v v) (defined v) (eq-eqb v v refl)) rest in
    ap (λ y. y ∷ map (assigned (v ∷ vs) (x ∷ xs)) vs) (cond-true (eqb v v) x (assigned vs xs v) (eq-eqb v v refl))
    ∙ ap (λ ys. x ∷ ys)
    (assigned_behind vs v x (assigned vs xs) other ∙ assigned_all vs xs (with_variable v defined) rest (omega (arith, same)))

positive_value : (value sign : Bool) → sign ≡ true → beq value sign ≡ value
positive_value true true is = refl
positive_value true false is = is
positive_value false true is = refl
positive_value false false is = sym is

-- positive literals have the values of their variables
values_of-positive : (a : Assignment) (ls : List Lit) → IsTrue (are_positive ls) → values_of a ls ≡ map a (variables_of ls)
values_of-positive a [] all = refl
values_of-positive a (l ∷ ls) all =
    let (here, rest) = and_parts l.positive (are_positive ls) all in
    ap (λ x. x ∷ values_of a ls) (positive_value (a l.variable) l.positive here)
    ∙ ap (λ xs. a l.variable ∷ xs) (values_of-positive a ls rest)

length-variables_of : (ls : List Lit) → length (variables_of ls) ≡ length ls
length-variables_of [] = refl
length-variables_of (l ∷ ls) = let same = length-variables_of ls in omega (arith, same)

-- from nothing: inputs, gates, latches and bad literals
pub HasInputs-built : {none begun named stepped held c : Circuit} {inputs : List Lit} {bads : List Lit}
    → IsEmpty none → AddsInputs none begun (variables_of inputs) → IsTrue (are_positive inputs) → named ≡ begun
    → Keeps named stepped → AddsLatches stepped held → AddsProperties held c bads [] → HasInputs c inputs
HasInputs-built {inputs = inputs} empty to_begun positive named to_stepped to_held to_end = record {
  variables =
      to_end.inputs ∙ to_held.inputs ∙ to_stepped.inputs ∙ ap (λ x. x.inputs.items) named ∙ to_begun.inputs
      ∙ ap (λ vs. vs ++ variables_of inputs) empty.inputs;
  positive = positive;
  unconstrained =
      to_end.constraints
      ∙ ap (λ ls. ls ++ [])
      (to_held.constraints ∙ to_stepped.constraints ∙ ap (λ x. x.constraints.items) named ∙ to_begun.constraints ∙ empty.constraints);
}

-- a circuit with these inputs that does the steps is their machine
does-machine : {S I : Type 0} {c : Circuit} {inputs : List Lit} {bad : Lit} {state : Assignment → S}
    {read : List Bool → I} {step : S → I → S} {start : S} {is_bad : S → I → Bool} → IsTrue (is_well_formed c)
    → HasInputs c inputs → CanRead inputs read → DoesSteps c bad state (λ a. read (values_of a inputs)) step start is_bad
    → IsMachine c bad step start is_bad
does-machine {c = c} {inputs = inputs} {state = state} {read = read} formed has can does =
    let valuation : (a : Assignment) → IsTrue (is_moment c a) → IsTrue (is_valuation c a) =
    λ a now. (and_parts (is_valuation c a) (makes_true a c.constraints.items) now).0 in
    let first = with_variables c.inputs.items is_constant in
    let news = (and_parts (are_new c.inputs.items is_constant && are_new (latch_variables c) first)
    (are_in_order c.gates.items (is_source c) && uses_defined (is_variable c) c) formed).0 in
    let new : IsTrue (are_new (variables_of inputs) is_constant) =
    subst (λ vs. IsTrue (are_new vs is_constant)) has.variables
    (and_parts (are_new c.inputs.items is_constant) (are_new (latch_variables c) first) news).0 in
    record {
      state = state;
      input = λ a. read (values_of a inputs);
      starts = λ a now. does.starts a (valuation a now);
      steps = λ a b now then. does.steps a b (valuation a now) (valuation b then);
      tells = λ a now. does.tells a (valuation a now);
      given = λ i. assigned (variables_of inputs) (can.write i);
      gives = λ i a same.
          ap read
          (values_of-positive a inputs has.positive
          ∙ subst (λ vs. map a vs ≡ map (assigned (variables_of inputs) (can.write i)) vs) has.variables same
          ∙ assigned_all (variables_of inputs) (can.write i) is_constant new (can.width i ∙ sym (length-variables_of inputs)))
          ∙ can.reads i;
      unconstrained = has.unconstrained;
    }

-- a netlist of a circuit with these inputs that does the steps is their machine
pub IsMachine-steps : {S I : Type 0} {c finished : Circuit} {inputs : List Lit} {bad : Lit} → {state : Assignment → S}
    → {read : List Bool → I} {step : S → I → S} {start : S} {is_bad : S → I → Bool} → finished ≡ c
    → IsTrue (is_well_formed finished) → HasInputs c inputs → CanRead inputs read
    → DoesSteps c bad state (λ a. read (values_of a inputs)) step start is_bad → IsMachine finished bad step start is_bad
IsMachine-steps {bad = bad} {step = step} {start = start} {is_bad = is_bad} same formed has can does =
    subst (λ x. IsMachine x bad step start is_bad) (sym same)
    (does-machine (subst (λ x. IsTrue (is_well_formed x)) same formed) has can does)

-- from nothing: inputs, gates, a register that takes what they give, and a bad literal
pub IsMachine-register : {I : Type 0} {none begun named stepped held c finished : Circuit} → {inputs : List Lit} {bad : Lit}
    → {read : List Bool → I} {step : ℕ → I → ℕ} {start : ℕ} {is_bad : ℕ → I → Bool} → (bits next : List Lit) (first : ℕ)
    → IsEmpty none → AddsInputs none begun (variables_of inputs) → IsTrue (are_positive inputs) → named ≡ begun
    → Keeps named stepped → GivesNext stepped inputs read step bits next → GivesBad stepped inputs read is_bad bits bad
    → AddsLatches stepped held → StartsAt held bits first → first % 2 ^ length bits ≡ start → Takes held bits next
    → AddsProperties held c (bad ∷ []) [] → finished ≡ c → IsTrue (is_well_formed finished) → CanRead inputs read
    → IsMachine finished bad step start is_bad
IsMachine-register {c = c} {inputs = inputs} {bad = bad} {read = read} {step = step} {start = start} {is_bad = is_bad} bits next first empty
    to_begun positive named to_stepped gives tells to_held starts begins takes to_end same formed can =
    let does : DoesSteps c bad (λ a. number_of a bits) (λ a. read (values_of a inputs)) step start is_bad =
    record {
      starts = λ a is first. starts a (to_end.extends.valuations a is) (to_end.extends.initials a first) ∙ begins;
      steps = λ a b is then goes.
          takes a b (to_end.extends.valuations a is) (to_end.extends.transitions a b goes)
          ∙ gives a (to_held.extends.valuations a (to_end.extends.valuations a is));
      tells = λ a is. tells a (to_held.extends.valuations a (to_end.extends.valuations a is));
    } in
    IsMachine-steps same formed (HasInputs-built empty to_begun positive named to_stepped to_held to_end) can does
