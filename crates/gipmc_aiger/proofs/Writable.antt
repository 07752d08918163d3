-- The two forms have room for each circuit that is well-formed, if its numbers are small enough.
use Rattle.std.proofs.Common.{◌≡◌, ⊎_elim, ℕ, zero, suc, ◌+◌, ◌<◌, ◌≤◌, ◌^◌, ◌&&◌, max, Bool, true, false, not, List, [], ◌∷◌, eqb, length, map, IsTrue, arith, refl, sym, subst, ◌∙◌}
use Rattle.std.specs.Prelude.{nat_le, nat_lt}
use Rattle.std.specs.List.{list_all}
use Rattle.std.proofs.Math.Nat.{le-max_left, le-max_right, le_refl}
use Rattle.std.proofs.lemmas.List.Folds.{list_all-append}
use Rattle.std.proofs.lemmas.Bool.{and_from, and_parts, eqb-true, false≢true, or_cases, or_right}
use Rattle.gipsat_cnf.specs.Literals.{Lit}
use Rattle.gipmc_circuits.specs.declared.circuit.And.{And}
use Rattle.gipmc_circuits.specs.declared.circuit.Circuit.{Circuit}
use Rattle.gipmc_circuits.specs.declared.circuit.Latch.{Latch}
use Rattle.gipmc_circuits.specs.WellFormed.{are_in_order, are_new, is_constant, is_source, is_variable, is_well_formed, latch_variables, uses_defined, with_variable, with_variables}
use Rattle.gipmc_aiger.specs.Prelude.{AreLiveWritable, Every, FitsGate, FitsLatch, FitsLiteral, FitsVariable, IsWritable, are_defined, flattened, greatest_input, greatest_latch, greatest_output, greatest_variable, has_room, justice_view}
use Rattle.gipmc_aiger.specs.declared.liveness.Liveness.{Liveness}

-- each variable for which the test passes is at most m
abbrev AreWithin : ℕ → (ℕ → Bool) → Type 0
AreWithin m defined = (v : ℕ) → defined v ≡ true → v ≤ m

through : (a b n : ℕ) → a ≤ b → b ≤ n → a ≤ n
through a b n first second = omega (arith, first, second)

from_input : (n : ℕ) (vs : List ℕ) → n ≤ greatest_input n vs
from_input n [] = le_refl n
from_input n (v ∷ vs) = through n (max n v) _ (le-max_left n v) (from_input (max n v) vs)

from_latch : (n : ℕ) (ls : List Latch) → n ≤ greatest_latch n ls
from_latch n [] = le_refl n
from_latch n (l ∷ ls) = through n (max n l.variable) _ (le-max_left n l.variable) (from_latch (max n l.variable) ls)

from_output : (n : ℕ) (gs : List And) → n ≤ greatest_output n gs
from_output n [] = le_refl n
from_output n (g ∷ gs) = through n (max n g.output) _ (le-max_left n g.output) (from_output (max n g.output) gs)

inputs_within : (n m : ℕ) (vs : List ℕ) → greatest_input n vs ≤ m → Every (λ v. v ≤ m) vs
inputs_within n m [] within = tt
inputs_within n m (v ∷ vs) within = (
  through v (max n v) m (le-max_right n v) (through (max n v) _ m (from_input (max n v) vs) within),
  inputs_within (max n v) m vs within,
)

latches_within : (n m : ℕ) (ls : List Latch) → greatest_latch n ls ≤ m → Every (λ v. v ≤ m) (map (λ l. l.variable) ls)
latches_within n m [] within = tt
latches_within n m (l ∷ ls) within = (
  through l.variable (max n l.variable) m (le-max_right n l.variable)
      (through (max n l.variable) _ m (from_latch (max n l.variable) ls) within),
  latches_within (max n l.variable) m ls within,
)

outputs_within : (n m : ℕ) (gs : List And) → greatest_output n gs ≤ m → Every (λ v. v ≤ m) (map (λ g. g.output) gs)
outputs_within n m [] within = tt
outputs_within n m (g ∷ gs) within = (
  through g.output (max n g.output) m (le-max_right n g.output)
      (through (max n g.output) _ m (from_output (max n g.output) gs) within),
  outputs_within (max n g.output) m gs within,
)

-- one variable more
with_one : (m w : ℕ) (defined : ℕ → Bool) → w ≤ m → AreWithin m defined → AreWithin m (with_variable w defined)
with_one m w defined within all v is =
    ⊎_elim (λ same. subst (λ x. x ≤ m) (sym (eqb-true v w same)) within) (λ other. all v other) (or_cases (eqb v w) (defined v) is)

-- the variables of a list more
with_all : (m : ℕ) (vs : List ℕ) (defined : ℕ → Bool) → Every (λ v. v ≤ m) vs → AreWithin m defined
    → AreWithin m (with_variables vs defined)
with_all m [] defined within all = all
with_all m (w ∷ ws) defined (one, others) all = with_all m ws (with_variable w defined) others (with_one m w defined one all)

-- a variable that is not defined, where 0 is, is above 0
above_zero : (v : ℕ) (defined : ℕ → Bool) → defined 0 ≡ true → not (defined v) ≡ true → 0 < v
above_zero zero defined first new = absurd (false≢true (subst (λ b. not b ≡ true) first new))
above_zero (suc v) defined first new = omega arith

-- variables that are new are above 0, and 0 stays defined
variables_fit : (m : ℕ) (vs : List ℕ) (defined : ℕ → Bool) → defined 0 ≡ true → IsTrue (are_new vs defined)
    → Every (λ v. v ≤ m) vs → Every (FitsVariable m) vs
variables_fit m [] defined first new within = tt
variables_fit m (v ∷ vs) defined first new (one, others) =
    let (here, rest) = and_parts (not (defined v)) (are_new vs (with_variable v defined)) new in (
      (above_zero v defined first here, one),
      variables_fit m vs (with_variable v defined) (or_right (eqb 0 v) (defined 0) first) rest others,
    )

still_defined : (vs : List ℕ) (defined : ℕ → Bool) → defined 0 ≡ true → with_variables vs defined 0 ≡ true
still_defined [] defined first = first
still_defined (v ∷ vs) defined first = still_defined vs (with_variable v defined) (or_right (eqb 0 v) (defined 0) first)

latches_fit : (m : ℕ) (ls : List Latch) (defined : ℕ → Bool) → Every (FitsVariable m) (map (λ l. l.variable) ls)
    → AreWithin m defined → IsTrue (list_all (λ l. defined l.next.variable) ls) → Every (FitsLatch m) ls
latches_fit m [] defined fit within used = tt
latches_fit m (l ∷ ls) defined (one, others) within used =
    let (here, rest) = and_parts (defined l.next.variable) (list_all (λ k. defined k.next.variable) ls) used in
    ((one, within l.next.variable here), latches_fit m ls defined others within rest)

literals_fit : (m : ℕ) (ls : List Lit) (defined : ℕ → Bool) → AreWithin m defined
    → IsTrue (list_all (λ l. defined l.variable) ls) → Every (FitsLiteral m) ls
literals_fit m [] defined within used = tt
literals_fit m (l ∷ ls) defined within used =
    let (here, rest) = and_parts (defined l.variable) (list_all (λ k. defined k.variable) ls) used in
    (within l.variable here, literals_fit m ls defined within rest)

gates_fit : (m : ℕ) (gs : List And) (defined : ℕ → Bool) → defined 0 ≡ true → AreWithin m defined
    → Every (λ v. v ≤ m) (map (λ g. g.output) gs) → IsTrue (are_in_order gs defined) → Every (FitsGate m) gs
gates_fit m [] defined first within outputs ordered = tt
gates_fit m (g ∷ gs) defined first within (one, others) ordered =
    let rest = are_in_order gs (with_variable g.output defined) in
    let (operands, new) = and_parts (defined g.left.variable && defined g.right.variable) (not (defined g.output) && rest) ordered in
    let (left, right) = and_parts (defined g.left.variable) (defined g.right.variable) operands in
    let (here, more) = and_parts (not (defined g.output)) rest new in (
      ((above_zero g.output defined first here, one), within g.left.variable left, within g.right.variable right),
      gates_fit m gs (with_variable g.output defined) (or_right (eqb 0 g.output) (defined 0) first)
          (with_one m g.output defined one within) others more,
    )

-- the variables of the latches and inputs are at most the greatest variable
inputs_in_all : (c : Circuit) → Every (λ v. v ≤ greatest_variable c) c.inputs.items
inputs_in_all c =
    let above_inputs = greatest_input 0 c.inputs.items in
    let above_latches = greatest_latch above_inputs c.latches.items in
    inputs_within 0 (greatest_variable c) c.inputs.items (through above_inputs above_latches (greatest_variable c)
    (from_latch above_inputs c.latches.items) (from_output above_latches c.gates.items))

latches_in_all : (c : Circuit) → Every (λ v. v ≤ greatest_variable c) (latch_variables c)
latches_in_all c =
    let above_inputs = greatest_input 0 c.inputs.items in
    let above_latches = greatest_latch above_inputs c.latches.items in
    latches_within above_inputs (greatest_variable c) c.latches.items (from_output above_latches c.gates.items)

outputs_in_all : (c : Circuit) → Every (λ v. v ≤ greatest_variable c) (map (λ g. g.output) c.gates.items)
outputs_in_all c =
    outputs_within (greatest_latch (greatest_input 0 c.inputs.items) c.latches.items) (greatest_variable c) c.gates.items
    (le_refl (greatest_variable c))

-- no variable of a circuit is above its greatest one
sources_within : (c : Circuit) → AreWithin (greatest_variable c) (is_source c)
sources_within c =
    let m = greatest_variable c in
    let constant_in : AreWithin m is_constant = λ v is. subst (λ x. x ≤ m) (sym (eqb-true v 0 is)) (omega arith) in
    with_all m (latch_variables c) (with_variables c.inputs.items is_constant) (latches_in_all c)
    (with_all m c.inputs.items is_constant (inputs_in_all c) constant_in)

variables_within : (c : Circuit) → AreWithin (greatest_variable c) (is_variable c)
variables_within c =
    with_all (greatest_variable c) (map (λ g. g.output) c.gates.items) (is_source c) (outputs_in_all c) (sources_within c)

-- a well-formed circuit is writable, if its greatest variable is below 2^31, it has no more rows than that, and fewer
-- than 2^31 bad literals and constraints
pub IsWritable-formed : (c : Circuit) → IsTrue (is_well_formed c) → greatest_variable c < 2 ^ 31
    → length c.inputs.items + length c.latches.items + length c.gates.items ≤ greatest_variable c
    → length c.bads.items < 2 ^ 31 → length c.constraints.items < 2 ^ 31 → IsWritable c
IsWritable-formed c formed small counts bads constraints =
    let m = greatest_variable c in
    let inputs = c.inputs.items in
    let latches = c.latches.items in
    let gates = c.gates.items in
    let inputs_in = inputs_in_all c in
    let latches_in = latches_in_all c in
    let (new, rest) = and_parts (are_new inputs is_constant && are_new (latch_variables c) (with_variables inputs is_constant))
    (are_in_order gates (is_source c) && uses_defined (is_variable c) c) formed in
    let (new_inputs, new_latches) = and_parts (are_new inputs is_constant)
    (are_new (latch_variables c) (with_variables inputs is_constant)) new in
    let (ordered, uses) = and_parts (are_in_order gates (is_source c)) (uses_defined (is_variable c) c) rest in
    let (next_used, literals) = and_parts (list_all (λ l. is_variable c l.next.variable) latches)
    (list_all (λ l. is_variable c l.variable) c.bads.items && list_all (λ l. is_variable c l.variable) c.constraints.items) uses in
    let (bads_used, constraints_used) = and_parts (list_all (λ l. is_variable c l.variable) c.bads.items)
    (list_all (λ l. is_variable c l.variable) c.constraints.items) literals in
    let after_inputs = still_defined inputs is_constant refl in
    let variable_in = variables_within c in
    record {
      small = small;
      inputs = variables_fit m inputs is_constant refl new_inputs inputs_in;
      latches =
          latches_fit m latches (is_variable c)
          (variables_fit m (latch_variables c) (with_variables inputs is_constant) after_inputs new_latches latches_in) variable_in
          next_used;
      gates =
          gates_fit m gates (is_source c) (still_defined (latch_variables c) (with_variables inputs is_constant) after_inputs)
          (sources_within c) (outputs_in_all c) ordered;
      bads = literals_fit m c.bads.items (is_variable c) variable_in bads_used;
      constraints = literals_fit m c.constraints.items (is_variable c) variable_in constraints_used;
      counts = counts;
      bad_count = bads;
      constraint_count = constraints;
    }

is_less : (m n : ℕ) → nat_lt m n ≡ true → m < n
is_less m n is = grind (arith, is)

is_most : (m n : ℕ) → nat_le m n ≡ true → m ≤ n
is_most m n is = grind (arith, is)

less_is : (m n : ℕ) → m < n → nat_lt m n ≡ true
less_is m n less = grind (arith, less)

most_is : (m n : ℕ) → m ≤ n → nat_le m n ≡ true
most_is m n most = grind (arith, most)

-- a well-formed circuit whose numbers are small enough is writable
pub IsWritable-room : (c : Circuit) → IsTrue (is_well_formed c) → IsTrue (has_room c) → IsWritable c
IsWritable-room c formed room =
    let rows = length c.inputs.items + length c.latches.items + length c.gates.items in
    let m = greatest_variable c in
    let bads = nat_lt (length c.bads.items) (2 ^ 31) in
    let constraints = nat_lt (length c.constraints.items) (2 ^ 31) in
    let (first, second) = and_parts (nat_lt m (2 ^ 31) && nat_le rows m) (bads && constraints) room in
    let (small, counts) = and_parts (nat_lt m (2 ^ 31)) (nat_le rows m) first in
    let (few_bads, few_constraints) = and_parts bads constraints second in
    IsWritable-formed c formed (is_less m (2 ^ 31) small) (is_most rows m counts) (is_less (length c.bads.items) (2 ^ 31) few_bads)
    (is_less (length c.constraints.items) (2 ^ 31) few_constraints)

-- no other circuit is
pub room-IsWritable : (c : Circuit) → has_room c ≡ false → ¬ (IsWritable c)
room-IsWritable c none is =
    let rows = length c.inputs.items + length c.latches.items + length c.gates.items in
    let m = greatest_variable c in
    let bads = nat_lt (length c.bads.items) (2 ^ 31) in
    let constraints = nat_lt (length c.constraints.items) (2 ^ 31) in
    false≢true (sym none ∙ and_from (nat_lt m (2 ^ 31) && nat_le rows m) (bads && constraints)
    (and_from (nat_lt m (2 ^ 31)) (nat_le rows m) (less_is m (2 ^ 31) is.small) (most_is rows m is.counts))
    (and_from bads constraints (less_is (length c.bads.items) (2 ^ 31) is.bad_count)
    (less_is (length c.constraints.items) (2 ^ 31) is.constraint_count)))

justice_fits : (m : ℕ) (justice : List (List Lit)) (defined : ℕ → Bool) → AreWithin m defined
    → IsTrue (list_all (λ l. defined l.variable) (flattened justice)) → Every (λ p. Every (FitsLiteral m) p) justice
justice_fits m [] defined within used = tt
justice_fits m (p ∷ ps) defined within used =
    let test = λ (l : Lit). defined l.variable in
    let (here, rest) = and_parts (list_all test p) (list_all test (flattened ps))
    (subst (λ b. IsTrue b) (list_all-append test p (flattened ps)) used) in
    (literals_fit m p defined within here, justice_fits m ps defined within rest)

-- there is room for justice properties and fairness constraints whose literals are of variables of the circuit, if they are
-- few enough
pub AreLiveWritable-defined : (c : Circuit) (l : Liveness) → IsTrue (are_defined c l)
    → length (justice_view l) < 2 ^ 31 → length l.fairness.items < 2 ^ 31 → Every (λ p. length p < 2 ^ 31) (justice_view l)
    → AreLiveWritable (greatest_variable c) (justice_view l) l.fairness.items
AreLiveWritable-defined c l defined justice fairness sizes =
    let m = greatest_variable c in
    let test = λ (x : Lit). is_variable c x.variable in
    let (fair, live) = and_parts (list_all test l.fairness.items) (list_all test (flattened (justice_view l)))
    (subst (λ b. IsTrue b) (list_all-append test l.fairness.items (flattened (justice_view l))) defined) in
    record {
      justice_count = justice;
      fairness_count = fairness;
      sizes = sizes;
      literals = justice_fits m (justice_view l) (is_variable c) (variables_within c) live;
      fairness_literals = literals_fit m l.fairness.items (is_variable c) (variables_within c) fair;
    }
