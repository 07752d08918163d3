-- What the steps of a builder give together, and that what held of the circuit holds on.
use Rattle.std.proofs.Common.{◌≡◌, ◌&&◌, ◌||◌, ◌++◌, Bool, true, false, not, cond, List, [], ◌∷◌, IsTrue, refl, sym, ap, append_assoc, subst, ◌∙◌}
use Rattle.std.specs.Prelude.{◌+◌, ◌*◌}
use Rattle.std.specs.Bool.{beq}
use Rattle.std.specs.List.{list_all}
use Rattle.std.proofs.lemmas.Bool.{and_from, and_parts, not-true}
use Rattle.gipsat_cnf.specs.Prelude.{Assignment, Lit, is_true, negated}
pub use Rattle.gipsat_cnf.proofs.LiteralLemmas.{is_true-negated}
use Rattle.gipmc_circuits.specs.declared.circuit.Circuit.{Circuit}
use Rattle.gipmc_circuits.specs.Circuit.{has_value, is_valuation}
use Rattle.gipmc_builder.specs.Build.{AddsInputs, AddsLatches, Extends, GivesAnd, GivesDigits, GivesOr, GivesXor, Keeps, are_positive, variables_of}

-- a valuation has 0 false
pub zero_false : (c : Circuit) (a : Assignment) → IsTrue (is_valuation c a) → a 0 ≡ false
zero_false c a is = not-true (a 0) (and_parts (not (a 0)) (list_all (has_value a) c.gates.items) is).0

pub Extends-same : (c : Circuit) → Extends c c
Extends-same c = record { valuations = λ a is. is; initials = λ a is. is; transitions = λ a b is. is }

-- what extends an extension extends the circuit
pub Extends-then : {c d e : Circuit} → Extends c d → Extends d e → Extends c e
Extends-then first then = record {
  valuations = λ a is. first.valuations a (then.valuations a is);
  initials = λ a is. first.initials a (then.initials a is);
  transitions = λ a b is. first.transitions a b (then.transitions a b is);
}

-- further gates, and then more of them
pub keeps_then : {c d e : Circuit} → Keeps c d → Keeps d e → Keeps c e
keeps_then first then = record {
  extends = Extends-then first.extends then.extends;
  inputs = then.inputs ∙ first.inputs;
  latches = then.latches ∙ first.latches;
  bads = then.bads ∙ first.bads;
  constraints = then.constraints ∙ first.constraints;
}

one_of_two : (x y : Bool) → ((x && not y) || (not x && y)) ≡ not (beq x y)
one_of_two true true = refl
one_of_two true false = refl
one_of_two false true = refl
one_of_two false false = refl

-- of two gates, by a third one
pub gives_xor : (c d e : Circuit) (x y nx ny o p q : Lit) → nx ≡ negated x → ny ≡ negated y
    → GivesAnd c x ny o → Keeps c d → GivesAnd d nx y p → Keeps d e → GivesOr e o p q → GivesXor e x y q
gives_xor c d e x y nx ny o p q turned_x turned_y first more second last either a is =
    let in_d = last.extends.valuations a is in
    let in_c = more.extends.valuations a in_d in
    let left : is_true a nx ≡ not (is_true a x) = ap (is_true a) turned_x ∙ is_true-negated a x in
    let right : is_true a ny ≡ not (is_true a y) = ap (is_true a) turned_y ∙ is_true-negated a y in
    either a is ∙ rw (first a in_c, second a in_d, left, right) (one_of_two (is_true a x) (is_true a y))

digits_of : (x y z : Bool)
    → cond (not (beq (not (beq x y)) z)) 1 0 + 2 * cond ((x && y) || (not (beq x y) && z)) 1 0 ≡ cond x 1 0 + cond y 1 0 + cond z 1 0
digits_of true true true = refl
digits_of true true false = refl
digits_of true false true = refl
digits_of true false false = refl
digits_of false true true = refl
digits_of false true false = refl
digits_of false false true = refl
digits_of false false false = refl

-- of the five steps of a full adder
pub gives_digits : (c d e f g : Circuit) (x y z half low both through high : Lit)
    → GivesXor c x y half → Keeps c d → GivesXor d half z low → Keeps d e → GivesAnd e x y both → Keeps e f
    → GivesAnd f half z through → Keeps f g → GivesOr g both through high → GivesDigits g x y z low high
gives_digits c d e f g x y z half low both through high is_half to_d is_low to_e is_both to_f is_through to_g is_high a is =
    let in_f = to_g.extends.valuations a is in
    let in_e = to_f.extends.valuations a in_f in
    let in_d = to_e.extends.valuations a in_e in
    let in_c = to_d.extends.valuations a in_d in
    rw (is_high a is, is_low a in_d, is_both a in_e, is_through a in_f, is_half a in_c)
    (digits_of (is_true a x) (is_true a y) (is_true a z))

pub adds_latches_then : {c d e : Circuit} → AddsLatches c d → AddsLatches d e → AddsLatches c e
adds_latches_then first then = record {
  extends = Extends-then first.extends then.extends;
  inputs = then.inputs ∙ first.inputs;
  gates = then.gates ∙ first.gates;
  bads = then.bads ∙ first.bads;
  constraints = then.constraints ∙ first.constraints;
}

pub none_behind : {X : Type 0} (xs : List X) → xs ≡ xs ++ []
none_behind [] = refl
none_behind (x ∷ xs) = ap (λ ys. x ∷ ys) (none_behind xs)

pub adds_no_inputs : (c : Circuit) → AddsInputs c c []
adds_no_inputs c = record {
  extends = Extends-same c;
  inputs = none_behind c.inputs.items;
  latches = refl;
  gates = refl;
  bads = refl;
  constraints = refl;
}

pub adds_inputs_then : {c d e : Circuit} (ls : List Lit) (l : Lit) → AddsInputs c d (variables_of ls)
    → AddsInputs d e (l.variable ∷ []) → AddsInputs c e (variables_of (ls ++ l ∷ []))
adds_inputs_then {c = c} {e = e} ls l first then = record {
  extends = Extends-then first.extends then.extends;
  inputs =
      subst (λ vs. e.inputs.items ≡ c.inputs.items ++ vs) (sym (variables_pushed ls l))
      (then.inputs ∙ ap (λ vs. vs ++ l.variable ∷ []) first.inputs ∙ append_assoc c.inputs.items (variables_of ls) (l.variable ∷ []));
  latches = then.latches ∙ first.latches;
  gates = then.gates ∙ first.gates;
  bads = then.bads ∙ first.bads;
  constraints = then.constraints ∙ first.constraints;
}
  where
    variables_pushed : (ls : List Lit) (l : Lit) → variables_of (ls ++ l ∷ []) ≡ variables_of ls ++ l.variable ∷ []
    variables_pushed [] l = refl
    variables_pushed (m ∷ ls) l = ap (λ vs. m.variable ∷ vs) (variables_pushed ls l)

-- one positive literal more
pub positive_pushed : (ls : List Lit) (l : Lit) → IsTrue (are_positive ls) → l.positive ≡ true
    → IsTrue (are_positive (ls ++ l ∷ []))
positive_pushed [] l all is = and_from l.positive true is refl
positive_pushed (m ∷ ls) l all is =
    let (here, rest) = and_parts m.positive (are_positive ls) all in
    and_from m.positive (are_positive (ls ++ l ∷ [])) here (positive_pushed ls l rest is)
