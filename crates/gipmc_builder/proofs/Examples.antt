-- Worked examples of circuits that are built: what gates and latches give, numbers as digits, and machines.
use Rattle.std.proofs.Common.{◌≡◌, ℕ, zero, suc, ◌+◌, ◌*◌, ◌^◌, ◌%◌, ◌/◌, List, [], ◌∷◌, length, Bool, true, false, cond, not, ◌&&◌, Some, IsTrue, arith, eqb, refl, sym, ap, ◌∙◌}
use Rattle.std.specs.Bool.{beq}
use Rattle.std.specs.Cmp.{booleans_Decides}
use Rattle.std.specs.List.{list_all}
use Rattle.std.proofs.lemmas.Bool.{and_parts, false≢true}
use Rattle.gipsat_cnf.specs.Prelude.{Assignment, Lit, is_true}
use Rattle.gipmc_circuits.specs.declared.circuit.And.{And}
use Rattle.gipmc_circuits.specs.declared.circuit.Circuit.{Circuit}
use Rattle.gipmc_circuits.specs.declared.circuit.Latch.{Latch}
use Rattle.gipmc_circuits.specs.Circuit.{has_value, holds_next, holds_reset}
use Rattle.gipmc_builder.specs.Build.{AreDigits, Becomes, FoldsAnd, GivesAll, GivesAnd, GivesAny, GivesBorrow, GivesDifference, GivesDifferenceDigits, GivesLess, GivesOr, GivesSuccessor, IsShiftedLeft, IsShiftedRight, StartsAs, are_positive, bit_of, constant, number_of, variables_of}
use Rattle.gipmc_builder.proofs.Built.{zero_false}
use Rattle.gipmc_builder.specs.Machine.{CanRead, DoesSteps, GivesBad, GivesNext, HasInputs, NeverBad, first_of, second_of, state_after, two_of, values_of}

abbrev yes_of : ℕ → Lit
yes_of v = record { variable = v; positive = true }

abbrev not_of : ℕ → Lit
not_of v = record { variable = v; positive = false }

value_of : (x y : Bool) → IsTrue (beq x y) → x ≡ y
value_of x y is = (booleans_Decides x y).0 is

-- a gate of the variables 1 and 2 gives their conjunction, and not their disjunction
abbrev gate : And
gate = record { output = 3; left = yes_of 1; right = yes_of 2 }

gives_and : (c : Circuit) → c.gates.items ≡ gate ∷ [] → GivesAnd c (yes_of 1) (yes_of 2) (yes_of 3)
gives_and c gates a valuation =
    let all = (and_parts (not (a 0)) (list_all (has_value a) c.gates.items) valuation).1 in
    let value = value_of (a 3) (beq (a 1) true && beq (a 2) true) (and_parts (has_value a gate) true (rw gates at all)).0 in
    ap (λ v. beq v true) value ∙ sym (same (beq (a 1) true && beq (a 2) true))
  where
    same : (b : Bool) → b ≡ beq b true
    same true = refl
    same false = refl

-- variable 1 alone is true
abbrev first : Assignment
first v = eqb v 1

refused-or : (c : Circuit) → c.gates.items ≡ gate ∷ [] → ¬ (GivesOr c (yes_of 1) (yes_of 2) (yes_of 3))
refused-or c gates gives = false≢true (gives first (rw gates refl))

-- a latch that begins at 0 and changes
abbrev changes : Latch
changes = record { variable = 1; next = not_of 1; reset = Some false }

starts_at_zero : (c : Circuit) → c.latches.items ≡ changes ∷ [] → StartsAs c (yes_of 1) (Some false)
starts_at_zero c latches a initial =
    let low = value_of (a 1) false (and_parts (holds_reset a changes) true (rw latches at initial)).0 in
    rw low refl

refused-starts_at_one : (c : Circuit) → c.latches.items ≡ changes ∷ [] → ¬ (StartsAs c (yes_of 1) (Some true))
refused-starts_at_one c latches starts = false≢true (starts (λ v. false) (rw latches refl))

refused-keeps : (c : Circuit) → c.latches.items ≡ changes ∷ [] → ¬ (Becomes c (yes_of 1) (yes_of 1))
refused-keeps c latches becomes = false≢true (sym (becomes (λ v. false) first (rw latches refl)))

-- six, with its lowest digit first
six : number_of first (not_of 1 ∷ yes_of 1 ∷ not_of 2 ∷ []) ≡ 6
six = refl

no_digit : (a : Assignment) → number_of a [] ≡ 0
no_digit a = refl

one_bit : bit_of first (not_of 2) ≡ 1
one_bit = refl

-- constants that are the digits of two, and not of three
constant_is_true : constant true ≡ not_of 0
constant_is_true = refl

two : AreDigits 2 (constant false ∷ constant true ∷ [])
two a low = rw low refl

refused-three : ¬ (AreDigits 3 (constant false ∷ constant true ∷ []))
refused-three digits = two_or_three (digits (λ v. false) refl)
  where
    two_or_three : ◌≡◌ {A = ℕ} 2 3 → ⊥
    two_or_three same = absurd (omega (arith, same))

-- literals and their variables
variables : variables_of (yes_of 1 ∷ not_of 7 ∷ []) ≡ 1 ∷ 7 ∷ []
variables = refl

positive : are_positive (yes_of 1 ∷ yes_of 7 ∷ []) ≡ true
positive = refl

refused-positive : are_positive (yes_of 1 ∷ not_of 7 ∷ []) ≡ false
refused-positive = refl

-- a machine that adds its inputs, from one on
three_steps : state_after (λ s i. s + i) 1 (λ n. 2) 3 ≡ 7
three_steps = refl

-- one that keeps its state is never in the other one, and one that takes its inputs may be
kept : (start : Bool) (inputs : ℕ → Bool) (n : ℕ) → state_after (λ s i. s) start inputs n ≡ start
kept start inputs zero = refl
kept start inputs (suc n) = kept start inputs n

never_bad : NeverBad {S = Bool} {I = Bool} (λ s i. s) false (λ s i. s)
never_bad inputs n = kept false inputs n

refused-never_bad : ¬ (NeverBad {S = Bool} {I = Bool} (λ s i. i) false (λ s i. s))
refused-never_bad never = false≢true (sym (never (λ n. true) 1))

-- values of literals, and two inputs read from them
values : values_of first (yes_of 1 ∷ not_of 1 ∷ yes_of 2 ∷ []) ≡ true ∷ false ∷ false ∷ []
values = refl

first_value : first_of (true ∷ false ∷ []) ≡ true
first_value = refl

second_value : second_of (true ∷ false ∷ []) ≡ false
second_value = refl

two_values : two_of (true ∷ false ∷ []) ≡ (true, false)
two_values = refl

no_value : first_of [] ≡ false
no_value = refl

-- one literal is not read as two inputs
refused-two_of_one : ¬ (CanRead (yes_of 1 ∷ []) two_of)
refused-two_of_one can = false≢true (sym (second (can.write (true, true)) (can.width (true, true))) ∙ ap (λ p. p.1) (can.reads (true, true)))
  where
    second : (xs : List Bool) → length xs ≡ 1 → second_of xs ≡ false
    second [] is = refl
    second (x ∷ []) is = refl
    second (x ∷ y ∷ xs) is = absurd (omega (arith, is))

-- a register of one bit that takes its input
gives_next : (c : Circuit) → GivesNext c (yes_of 2 ∷ []) first_of (λ n i. cond i 1 0) (yes_of 1 ∷ []) (yes_of 2 ∷ [])
gives_next c a is = one (is_true a (yes_of 2))
  where
    one : (value : Bool) → (cond value 1 0 + 2 * 0) % 2 ^ 1 ≡ cond value 1 0
    one true = refl
    one false = refl

gives_bad : (c : Circuit) → GivesBad c (yes_of 2 ∷ []) first_of (λ n i. i) (yes_of 1 ∷ []) (yes_of 2)
gives_bad c a is = refl

refused-gives_bad : (c : Circuit) → c.gates.items ≡ [] → ¬ (GivesBad c (yes_of 2 ∷ []) first_of (λ n i. i) (yes_of 1 ∷ []) (yes_of 1))
refused-gives_bad c none gives = false≢true (sym (gives first (rw none refl)))

-- what needs no gate: true and a literal are the literal, and false and it are not
folds : FoldsAnd (constant true) (yes_of 1) (yes_of 1)
folds a none = rw none refl

refused-folds : ¬ (FoldsAnd (constant false) (yes_of 1) (yes_of 1))
refused-folds folds = false≢true (sym (folds first refl))

-- all of none are true, and none of none is
all_of_none : (c : Circuit) → GivesAll c [] (constant true)
all_of_none c a is = rw (zero_false c a is) refl

any_of_none : (c : Circuit) → GivesAny c [] (constant false)
any_of_none c a is = rw (zero_false c a is) refl

refused-any_of_none : (c : Circuit) → c.gates.items ≡ [] → ¬ (GivesAny c [] (constant true))
refused-any_of_none c none gives = false≢true (sym (gives (λ v. false) (rw none refl)))

-- one and two, in two digits
abbrev one_in_two : List Lit
one_in_two = constant true ∷ constant false ∷ []

abbrev two_in_two : List Lit
two_in_two = constant false ∷ constant true ∷ []

-- one less two is three in two digits, and borrows
difference : (c : Circuit) → GivesDifference c one_in_two two_in_two (constant true ∷ constant true ∷ [])
difference c a is = rw (zero_false c a is) refl

borrows : (c : Circuit) → GivesBorrow c (constant false) (constant true) (constant false) (constant true)
borrows c a is = rw (zero_false c a is) refl

difference_digits : (c : Circuit) → GivesDifferenceDigits c (constant false) (constant true) (constant false) (constant true) (constant true)
difference_digits c a is = rw (zero_false c a is) refl

one_is_less : (c : Circuit) → GivesLess c one_in_two two_in_two (constant true)
one_is_less c a is = rw (zero_false c a is) refl

refused-two_is_less : (c : Circuit) → c.gates.items ≡ [] → ¬ (GivesLess c two_in_two one_in_two (constant true))
refused-two_is_less c none gives = false≢true (sym (gives (λ v. false) (rw none refl)))

successor : (c : Circuit) → GivesSuccessor c one_in_two two_in_two
successor c a is = rw (zero_false c a is) refl

-- one shifted to the left is two, and to the right nothing
one_doubled : IsShiftedLeft (constant true ∷ []) 1 two_in_two
one_doubled a none = rw none refl

one_halved : IsShiftedRight (constant true ∷ []) 1 []
one_halved a = half (a 0)
  where
    half : (value : Bool) → 0 ≡ (cond (beq value false) 1 0 + 2 * 0) / 2 ^ 1
    half true = refl
    half false = refl

-- the latch that begins at 0 and changes does the steps of negation, and an input is no negation
does_change : (c : Circuit) → c.latches.items ≡ changes ∷ []
    → DoesSteps c (yes_of 1) (λ a. is_true a (yes_of 1)) (λ a. false) (λ s i. not s) false (λ s i. s)
does_change c latches = record {
  starts = λ a is initial. value_of (is_true a (yes_of 1)) false (starts_at_zero c latches a initial);
  steps = λ a b is then goes.
      changed (b 1) (a 1)
      (value_of (b 1) (is_true a (not_of 1)) (and_parts (holds_next a b changes) true (rw latches at goes)).0);
  tells = λ a is. refl;
}
  where
    changed : (x y : Bool) → x ≡ beq y false → beq x true ≡ not (beq y true)
    changed x true is = rw is refl
    changed x false is = rw is refl

has_input : (c : Circuit) → c.inputs.items ≡ 1 ∷ [] → c.constraints.items ≡ [] → HasInputs c (yes_of 1 ∷ [])
has_input c inputs none = record { variables = inputs; positive = refl; unconstrained = none }

refused-has_negation : (c : Circuit) → ¬ (HasInputs c (not_of 1 ∷ []))
refused-has_negation c has = false≢true has.positive
