-- What a writer of the binary form wrote is read again.
use Rattle.std.proofs.Common.{◌≡◌, ℕ, zero, suc, ◌+◌, ◌-◌, ◌*◌, ◌/◌, ◌%◌, ◌^◌, ◌<◌, ◌≤◌, min, max, Bool, true, false}
use Rattle.std.proofs.Common.{List, [], ◌∷◌, ◌++◌, length, map, Option, Some, None, arith, refl, sym, ap, subst, ◌∙◌}
use Rattle.std.proofs.Common.{append_assoc, append-nil}
use Rattle.std.specs.Prelude.{◌==◌, if◌then◌else◌, codes, is_some, nat_lt, IsTrue}
use Rattle.std.proofs.lemmas.List.{length-map, map-id}
use Rattle.std.proofs.lemmas.Bool.{and_parts, le-ltb, lt-ltb, ltb-false, ltb-true}
use Rattle.std.proofs.lemmas.Bool.Decides.{nat_tests}
use Rattle.giputils_text.specs.Groups.{groups}
use Rattle.giputils_text.specs.Lines.{space}
use Rattle.gipmc_circuits.specs.declared.circuit.And.{And}
use Rattle.gipmc_circuits.specs.declared.circuit.Latch.{Latch}
use Rattle.gipmc_circuits.specs.declared.circuit.Circuit.{Circuit}
use Rattle.gipmc_aiger.specs.Prelude.{◌>>=◌, AreLiveWritable, Every, FitsGate, FitsLatch, FitsLiteral, FitsVariable, IsWritable, aig_text, are_above, body_at, circuit_in, circuit_of, defined_at, delta_at, gate_at, greater_first, greatest_input, greatest_latch, greatest_literal, greatest_output, greatest_variable, input_at, is_above, is_numbered, justice_view, latch_at, literal_at, literal_lines, literal_number, literal_of, live_aig_text, live_packed_header_line, live_rows_of, liveness_lines, number_text, numbered_behind, packed_and, packed_ands, packed_header_line, packed_latch_line, packed_latch_lines, packed_live_rows, packed_operands_at, packed_rows_of, reset_number, rows_at, separated_at}
use Rattle.gipmc_aiger.specs.declared.header.Form.TheVariants.{Binary}
use Rattle.gipmc_aiger.specs.declared.header.Header.{Header}
use Rattle.gipmc_aiger.specs.declared.header.Properties.{Properties}
use Rattle.gipmc_aiger.specs.declared.liveness.Liveness.{Liveness}
use Rattle.gipmc_aiger.proofs.Rereads.{bads_are, counts_of, header-reread, header_in, latch-behind, limit_is, literal-reread}
use Rattle.gipmc_aiger.proofs.Rereads.{literals-reread, live_properties-reread, liveness-reread, no_rows, none_writable, of_eight, of_six}
use Rattle.gipmc_aiger.proofs.Rereads.{of_ten, properties-reread}
use Rattle.gipsat_cnf.specs.Literals.{Lit}

-- a group and so many more hold the numbers below this one
abbrev room : ℕ → ℕ
room zero = 128
room (suc more) = 128 * room more

-- a group and those that follow it, by whether it is the last
group-reread : (more n : ℕ) (rest : List ℕ) → n < 2 ^ 32
    → delta_at (suc more) (groups more (n / 128) ++ rest) ≡ Some (n / 128, rest) → (last : Bool) → nat_lt n 128 ≡ last
    → delta_at (suc (suc more)) (groups (suc more) n ++ rest) ≡ Some (n, rest)
group-reread more n rest small high true is_last = rw (is_last, is_last) refl
group-reread more n rest small high false is_first =
    let not_last : nat_lt (128 + n % 128) 128 ≡ false = le-ltb (128 + n % 128) 128 (omega arith) in
    let same : 128 * (n / 128) + (128 + n % 128 - 128) ≡ n = omega arith in
    rw (is_first, not_last, high, same, lt-ltb n (2 ^ 32) small) refl

-- a number in groups is read again
groups-reread : (more n : ℕ) (rest : List ℕ) → n < 2 ^ 32 → n < room more
    → delta_at (suc more) (groups more n ++ rest) ≡ Some (n, rest)
groups-reread zero n rest small fits = rw (lt-ltb n 128 fits) refl
groups-reread (suc more) n rest small fits =
    let high = groups-reread more (n / 128) rest (omega (arith, small)) (omega (arith, fits)) in
    group-reread more n rest small high (nat_lt n 128) refl

-- the first of the numbers that follow n, and the others
follows : (n v last : ℕ) (vs : List ℕ) → numbered_behind n (v ∷ vs) ≡ Some last
    → (v ≡ n + 1) × (numbered_behind v vs ≡ Some last)
follows n v last vs numbered = by_test (v == n + 1) refl numbered
  where
    by_test : (test : Bool) → (v == n + 1) ≡ test → (if test then numbered_behind v vs else None) ≡ Some last
        → (v ≡ n + 1) × (numbered_behind v vs ≡ Some last)
    by_test true same numbered = (grind (arith, nat_tests, same), numbered)
    by_test false other numbered = absurd cc

-- the last is as far behind n as there are numbers
last_is : (n last : ℕ) (vs : List ℕ) → numbered_behind n vs ≡ Some last → last ≡ n + length vs
last_is n last [] numbered = let same : n ≡ last = cc in omega (arith, same)
last_is n last (v ∷ vs) numbered =
    let (next, others) = follows n v last vs numbered in
    let end = last_is v last vs others in
    omega (arith, next, end)

-- it is the greatest
greatest_input-is : (n last : ℕ) (vs : List ℕ) → numbered_behind n vs ≡ Some last → greatest_input n vs ≡ last
greatest_input-is n last [] numbered = cc
greatest_input-is n last (v ∷ vs) numbered =
    let (next, others) = follows n v last vs numbered in
    let same : max n v ≡ v = omega (arith, next) in
    rw same (greatest_input-is v last vs others)

greatest_latch-is : (n last : ℕ) (ls : List Latch) → numbered_behind n (map (λ l. l.variable) ls) ≡ Some last
    → greatest_latch n ls ≡ last
greatest_latch-is n last [] numbered = cc
greatest_latch-is n last (l ∷ ls) numbered =
    let (next, others) = follows n l.variable last (map (λ l. l.variable) ls) numbered in
    let same : max n l.variable ≡ l.variable = omega (arith, next) in
    rw same (greatest_latch-is l.variable last ls others)

greatest_output-is : (n last : ℕ) (gs : List And) → numbered_behind n (map (λ g. g.output) gs) ≡ Some last
    → greatest_output n gs ≡ last
greatest_output-is n last [] numbered = cc
greatest_output-is n last (g ∷ gs) numbered =
    let (next, others) = follows n g.output last (map (λ g. g.output) gs) numbered in
    let same : max n g.output ≡ g.output = omega (arith, next) in
    rw same (greatest_output-is g.output last gs others)

-- what is read first, if something is read behind it
of_some : {X Y : Type 0} (o : Option X) (next : X → Option Y) → IsTrue (is_some (o >>= next))
    → (x : X) × (o ≡ Some x) × IsTrue (is_some (next x))
of_some None next some = absurd cc
of_some (Some x) next some = (x, refl, some)

some_is : {X : Type 0} (o : Option X) → IsTrue (is_some o) → (x : X) × (o ≡ Some x)
some_is None some = absurd cc
some_is (Some x) some = (x, refl)

-- the numbers of a circuit whose inputs, latches and gates are numbered in this order
record IsNumbered (c : Circuit) : Type 0 where
  inputs : numbered_behind 0 c.inputs.items ≡ Some (length c.inputs.items)
  latches : numbered_behind (length c.inputs.items) (map (λ l. l.variable) c.latches.items)
      ≡ Some (length c.inputs.items + length c.latches.items)
  gates : numbered_behind (length c.inputs.items + length c.latches.items) (map (λ g. g.output) c.gates.items)
      ≡ Some (length c.inputs.items + length c.latches.items + length c.gates.items)
  greatest : greatest_variable c ≡ length c.inputs.items + length c.latches.items + length c.gates.items

-- from the last of each kind
numbers_from : (c : Circuit) (input latch output : ℕ) → numbered_behind 0 c.inputs.items ≡ Some input
    → numbered_behind input (map (λ l. l.variable) c.latches.items) ≡ Some latch
    → numbered_behind latch (map (λ g. g.output) c.gates.items) ≡ Some output → IsNumbered c
numbers_from c input latch output inputs latches gates =
    let variables = map (λ l. l.variable) c.latches.items in
    let outputs = map (λ g. g.output) c.gates.items in
    let input_is : input ≡ length c.inputs.items = let e = last_is 0 input c.inputs.items inputs in omega (arith, e) in
    let latch_is : latch ≡ length c.inputs.items + length c.latches.items =
    let e = last_is input latch variables latches in
    let n = length-map c.latches.items (λ l. l.variable) in
    omega (arith, e, n, input_is)
    in
    let output_is : output ≡ length c.inputs.items + length c.latches.items + length c.gates.items =
    let e = last_is latch output outputs gates in
    let n = length-map c.gates.items (λ g. g.output) in
    omega (arith, e, n, latch_is)
    in
    let both = length c.inputs.items + length c.latches.items in
    record {
      inputs = inputs ∙ ap (λ n. Some n) input_is;
      latches =
          subst (λ n. numbered_behind n variables ≡ Some both) input_is (latches ∙ ap (λ n. Some n) latch_is);
      gates =
          subst (λ n. numbered_behind n outputs ≡ Some (both + length c.gates.items)) latch_is
          (gates ∙ ap (λ n. Some n) output_is);
      greatest =
          rw (
            greatest_input-is 0 input c.inputs.items inputs,
            greatest_latch-is input latch c.latches.items latches,
            greatest_output-is latch output c.gates.items gates,
          )
          output_is;
    }

numbers : (c : Circuit) → IsTrue (is_numbered c) → IsNumbered c
numbers c numbered =
    let variables = map (λ l. l.variable) c.latches.items in
    let outputs = map (λ g. g.output) c.gates.items in
    let (input, inputs, behind) =
    of_some (numbered_behind 0 c.inputs.items)
    (λ input. numbered_behind input variables >>= λ latch. numbered_behind latch outputs) numbered
    in
    let (latch, latches, ends) =
    of_some (numbered_behind input variables) (λ latch. numbered_behind latch outputs) behind
    in
    let (output, gates) = some_is (numbered_behind latch outputs) ends in
    numbers_from c input latch output inputs latches gates

-- rows that stand at the places of their numbers are read again, with a change to each, if each such row is
module _ {X : Type 0} (row : ℕ → List ℕ → Option (X × List ℕ)) (line : X → List ℕ) (lines : List X → List ℕ)
    (number : X → ℕ) (change : X → X) (Fits : X → Type 0) (base : ℕ) (none : lines [] ≡ [])
    (more : (x : X) (xs : List X) → lines (x ∷ xs) ≡ line x ++ lines xs)
    (one : (place : ℕ) (x : X) (rest : List ℕ) → number x ≡ base + place + 1 → Fits x
    → row place (line x ++ rest) ≡ Some (change x, rest)) where
  placed_rows-reread : (xs : List X) (n place before last : ℕ) (rest : List ℕ) → n ≡ length xs → before ≡ base + place
      → numbered_behind before (map number xs) ≡ Some last → Every Fits xs
      → rows_at row place n (lines xs ++ rest) ≡ Some (map change xs, rest)
  placed_rows-reread [] zero place before last rest same at numbered fits = rw none refl
  placed_rows-reread [] (suc n) place before last rest same at numbered fits = absurd (omega (arith, same))
  placed_rows-reread (x ∷ xs) zero place before last rest same at numbered fits = absurd (omega (arith, same))
  placed_rows-reread (x ∷ xs) (suc n) place before last rest same at numbered (fit, fits) =
      let (next, numbered_on) = follows before (number x) last (map number xs) numbered in
      let text : lines (x ∷ xs) ++ rest ≡ line x ++ (lines xs ++ rest) =
      ap (λ t. t ++ rest) (more x xs) ∙ append_assoc (line x) (lines xs) rest
      in
      let others =
      placed_rows-reread xs n (place + 1) (number x) last rest (omega (arith, same)) (omega
      (arith, next, at)) numbered_on fits
      in
      rw (text, one place x (lines xs ++ rest) (omega (arith, next, at)) fit, others) refl

-- the operands of a gate, the greater first
operands-reread : (o x y : ℕ) (rest : List ℕ) → o < 2 ^ 31 → max x y < 2 * o
    → packed_operands_at o (groups 4 (2 * o - max x y) ++ (groups 4 (max x y - min x y) ++ rest))
    ≡ Some (max x y, min x y, rest)
unfolding packed_operands_at
operands-reread o x y rest small above_both =
    let first = 2 * o - max x y in
    let second = max x y - min x y in
    let not_none : (first == 0) ≡ false = grind (arith, nat_tests, above_both) in
    let enough : nat_lt (2 * o) (first + second) ≡ false =
    le-ltb (2 * o) (first + second) (omega (arith, above_both))
    in
    let greater : 2 * o - first ≡ max x y = omega (arith, above_both) in
    let other : max x y - second ≡ min x y = omega arith in
    rw (
      groups-reread 4 first (groups 4 second ++ rest) (omega (arith, small)) (omega (arith, small)),
      groups-reread 4 second rest (omega (arith, small, above_both)) (omega (arith, small, above_both)),
      not_none,
      enough,
      greater,
      other,
    )
    refl

-- they are those of the gate with its greater operand first
greater_first-reread : (g : And) (turned : Bool) → nat_lt (literal_number g.left) (literal_number g.right) ≡ turned
    → greater_first g ≡ record {
      output = g.output;
      left = literal_of (max (literal_number g.left) (literal_number g.right));
      right = literal_of (min (literal_number g.left) (literal_number g.right));
    }
greater_first-reread g true less =
    let x = literal_number g.left in
    let y = literal_number g.right in
    let small : x < y = ltb-true x y less in
    let greater : max x y ≡ y = omega (arith, small) in
    let other : min x y ≡ x = omega (arith, small) in
    rw (less, greater, other, literal-reread g.left, literal-reread g.right) refl
greater_first-reread g false more =
    let x = literal_number g.left in
    let y = literal_number g.right in
    let great : y ≤ x = ltb-false x y more in
    let greater : max x y ≡ x = omega (arith, great) in
    let other : min x y ≡ y = omega (arith, great) in
    rw (more, greater, other, literal-reread g.left, literal-reread g.right) refl

module _ (h : Header) (m : ℕ) (binary : h.form ≡ Binary) (maximum : h.sizes.maximum ≡ m)
    (limit : greatest_literal h ≡ 2 * m + 1) (small : m < 2 ^ 31) where
  defined-reread : (number v : ℕ) (bytes : List ℕ) → number ≡ v → v ≤ m → defined_at h number bytes ≡ Some (v, bytes)
  defined-reread number v bytes same within =
      rw (binary, same, maximum, le-ltb m v within, le-ltb 2147483647 v (omega (arith, within, small))) refl

  input-reread : (place v : ℕ) (rest : List ℕ) → v ≡ 0 + place + 1 → FitsVariable m v
      → input_at h place rest ≡ Some (v, rest)
  input-reread place v rest at fits =
      rw (defined-reread (place + 1) v rest (omega (arith, at)) fits.1, binary) refl

  latch-reread : (place : ℕ) (l : Latch) (rest : List ℕ) → l.variable ≡ h.sizes.inputs + place + 1 → FitsLatch m l
      → latch_at h place (packed_latch_line l ++ rest) ≡ Some (l, rest)
  latch-reread place l rest at fits =
      let next = number_text (literal_number l.next) 32 in
      let reset = number_text (reset_number l.variable l.reset) 10 in
      let text = next ++ (reset ++ rest) in
      let leads = defined-reread (h.sizes.inputs + 1 + place) l.variable text (omega (arith, at)) fits.0.1 in
      let separated : separated_at h.form space text ≡ Some text = rw binary refl in
      ap (latch_at h place) (append_assoc next reset rest)
      ∙ latch-behind h m limit small place l text text rest fits leads separated

  gate-reread : (place : ℕ) (g : And) (rest : List ℕ) → g.output ≡ h.sizes.inputs + h.sizes.latches + place + 1
      → FitsGate m g × IsTrue (is_above g) → gate_at h place (packed_and g ++ rest) ≡ Some (greater_first g, rest)
  unfolding gate_at
  gate-reread place g rest at (fits, is) =
      let x = literal_number g.left in
      let y = literal_number g.right in
      let text = groups 4 (2 * g.output - max x y) ++ (groups 4 (max x y - min x y) ++ rest) in
      let above_both : max x y < 2 * g.output = ltb-true (max x y) (2 * g.output) is in
      rw (
        append_assoc (groups 4 (2 * g.output - max x y)) (groups 4 (max x y - min x y)) rest,
        defined-reread (h.sizes.inputs + h.sizes.latches + 1 + place) g.output text (omega (arith, at)) fits.0.1,
        binary,
        operands-reread g.output x y rest (omega (arith, fits.0.1, small)) above_both,
        greater_first-reread g (nat_lt x y) refl,
      )
      refl

-- gates that fit and are above their operands
gates_fit : (m : ℕ) (gs : List And) → Every (FitsGate m) gs → IsTrue (are_above gs)
    → Every (λ g. FitsGate m g × IsTrue (is_above g)) gs
gates_fit m [] fits is = tt
gates_fit m (g ∷ gs) (fit, fits) is =
    let (one, others) = and_parts (is_above g) (are_above gs) is in
    ((fit, one), gates_fit m gs fits others)

-- the first number of the header: no sum is cut off
maximum_is : (i l a m : ℕ) → i + l + a ≡ m → m < 2 ^ 31
    → min (min (i + l) 18446744073709551615 + a) 18446744073709551615 ≡ m
maximum_is i l a m same small = omega (arith, same, small)

of_five : (o a b c d : List ℕ) → o ++ a ++ b ++ c ++ d ≡ o ++ (a ++ (b ++ (c ++ (d ++ []))))
of_five o a b c d = simp (append_assoc, append-nil)

-- the bytes behind a header of the binary form
abbrev rows_text : Circuit → List (List Lit) → List Lit → List ℕ
rows_text c justice fairness =
    packed_latch_lines c.latches.items ++ (literal_lines c.bads.items ++ (literal_lines c.constraints.items ++
    (liveness_lines justice fairness ++ (packed_ands c.gates.items ++ []))))

-- the rows of a numbered circuit behind such a header write it
body-reread : (c : Circuit) (justice : List (List Lit)) (fairness : List Lit) (h : Header) (m : ℕ)
    → m ≡ greatest_variable c → IsWritable c → AreLiveWritable m justice fairness → IsNumbered c
    → IsTrue (are_above c.gates.items)
    → h ≡ header_in Binary m (length c.inputs.items) (length c.latches.items) (length c.gates.items)
    (counts_of c.bads.items c.constraints.items justice fairness)
    → body_at h (rows_text c justice fairness)
    ≡ Some (record { circuit = packed_rows_of c; justice = justice; fairness = fairness })
unfolding body_at
body-reread c justice fairness h m greatest is live numbered are header =
    let small : m < 2 ^ 31 = subst (λ x. x < 2 ^ 31) (sym greatest) is.small in
    let binary : h.form ≡ Binary = ap (λ x. x.form) header in
    let maximum : h.sizes.maximum ≡ m = ap (λ x. x.sizes.maximum) header in
    let limit : greatest_literal h ≡ 2 * m + 1 = ap greatest_literal header ∙ limit_is m small in
    let inputs_are : h.sizes.inputs ≡ length c.inputs.items = ap (λ x. x.sizes.inputs) header in
    let latches_are : h.sizes.latches ≡ length c.latches.items = ap (λ x. x.sizes.latches) header in
    let gates = packed_ands c.gates.items ++ [] in
    let properties = liveness_lines justice fairness ++ gates in
    let constraints = literal_lines c.constraints.items ++ properties in
    let bads = literal_lines c.bads.items ++ constraints in
    let latches = packed_latch_lines c.latches.items ++ bads in
    let no_outputs : h.sizes.outputs ≡ 0 = ap (λ x. x.sizes.outputs) header in
    let inputs_again : rows_at (input_at h) 0 h.sizes.inputs latches ≡ Some (c.inputs.items, latches) =
    placed_rows-reread (input_at h) (λ _. []) (λ _. []) (λ v. v) (λ v. v) (FitsVariable m) 0 refl (λ v vs. refl)
    (λ place v rest at fits. input-reread h m binary maximum limit small place v rest at fits) c.inputs.items
    h.sizes.inputs 0 0 (length c.inputs.items) latches inputs_are refl
    (ap (numbered_behind 0) (map-id c.inputs.items) ∙ numbered.inputs)
    (subst (λ x. Every (FitsVariable x) c.inputs.items) (sym greatest) is.inputs)
    ∙ ap (λ vs. Some (vs, latches)) (map-id c.inputs.items)
    in
    let latches_again : rows_at (latch_at h) 0 h.sizes.latches latches ≡ Some (c.latches.items, bads) =
    placed_rows-reread (latch_at h) packed_latch_line packed_latch_lines (λ l. l.variable) (λ l. l) (FitsLatch m)
    h.sizes.inputs refl (λ l ls. refl)
    (λ place l rest at fits. latch-reread h m binary maximum limit small place l rest at fits) c.latches.items
    h.sizes.latches 0 (length c.inputs.items) (length c.inputs.items + length c.latches.items) bads latches_are (omega
    (arith, inputs_are)) numbered.latches (subst (λ x. Every (FitsLatch x) c.latches.items) (sym greatest) is.latches)
    ∙ ap (λ ls. Some (ls, bads)) (map-id c.latches.items)
    in
    let gates_again : rows_at (gate_at h) 0 h.sizes.gates gates ≡ Some (map greater_first c.gates.items, []) =
    placed_rows-reread (gate_at h) packed_and packed_ands (λ g. g.output) greater_first
    (λ g. FitsGate m g × IsTrue (is_above g)) (h.sizes.inputs + h.sizes.latches) refl (λ g gs. refl)
    (λ place g rest at fits. gate-reread h m binary maximum limit small place g rest at fits) c.gates.items
    h.sizes.gates 0 (length c.inputs.items + length c.latches.items) (length c.inputs.items + length c.latches.items +
    length c.gates.items) [] (ap (λ x. x.sizes.gates) header) (omega (arith, inputs_are, latches_are)) numbered.gates
    (gates_fit m c.gates.items (subst (λ x. Every (FitsGate x) c.gates.items) (sym greatest) is.gates) are)
    in
    rw (
      inputs_again,
      latches_again,
      no_rows (literal_at h) h.sizes.outputs bads no_outputs,
      literals-reread h m limit small c.bads.items h.bads constraints (ap (λ x. x.bads) header) (subst
          (λ x. Every (FitsLiteral x) c.bads.items) (sym greatest) is.bads),
      literals-reread h m limit small c.constraints.items h.constraints properties (ap (λ x. x.constraints) header) (subst
          (λ x. Every (FitsLiteral x) c.constraints.items) (sym greatest) is.constraints),
      liveness-reread h m limit small justice fairness gates (ap (λ x. x.justice) header) (ap (λ x. x.fairness) header)
          live,
      gates_again,
      bads_are h c.bads.items (ap (λ x. x.bads) header),
    )
    refl

-- the circuit that the text of a circuit in the binary form writes is that circuit, each gate's greater operand first
pub aig_rereads : (c : Circuit) → IsWritable c → IsTrue (is_numbered c)
    → IsTrue (are_above c.gates.items) → circuit_of (aig_text c) ≡ Some (packed_rows_of c)
unfolding circuit_of live_rows_of
aig_rereads c is numbered are =
    let i = length c.inputs.items in
    let l = length c.latches.items in
    let a = length c.gates.items in
    let b = length c.bads.items in
    let k = length c.constraints.items in
    let m = greatest_variable c in
    let all = numbers c numbered in
    let same : i + l + a ≡ m = sym all.greatest in
    let written = min (min (i + l) 18446744073709551615 + a) 18446744073709551615 in
    let rows = rows_text c [] [] in
    let counts = number_text b 32 ++ (number_text k 10 ++ rows) in
    let sizes = number_text i 32 ++ (number_text l 32 ++ (number_text 0 32 ++ (number_text a 32 ++ counts))) in
    let p = counts_of c.bads.items c.constraints.items [] [] in
    let text : aig_text c ≡ codes "aig " ++ (number_text written 32 ++ sizes) =
    of_five (packed_header_line c) (packed_latch_lines c.latches.items) (literal_lines c.bads.items)
    (literal_lines c.constraints.items) (packed_ands c.gates.items)
    ∙ of_eight (codes "aig ") (number_text written 32) (number_text i 32) (number_text l 32) (number_text 0 32)
    (number_text a 32) (number_text b 32) (number_text k 10) rows
    in
    ap circuit_of (text ∙ ap (λ n. codes "aig " ++ (number_text n 32 ++ sizes)) (maximum_is i l a m same is.small))
    ∙ ap (λ header. (header >>= λ h. body_at h.0 h.1) >>= circuit_in)
    (header-reread (codes "aig ") Binary m i l a p counts rows (λ bytes. refl) is.small is.counts (grind
    (arith, nat_tests, same)) (properties-reread b k rows is.bad_count is.constraint_count))
    ∙ ap (λ n. n >>= circuit_in)
    (body-reread c [] [] (header_in Binary m i l a p) m refl is (none_writable m) all are refl)

-- the same with justice properties and fairness constraints
pub live_aig_rereads : (c : Circuit) (live : Liveness) → IsWritable c
    → AreLiveWritable (greatest_variable c) (justice_view live) live.fairness.items → IsTrue (is_numbered c)
    → IsTrue (are_above c.gates.items)
    → live_rows_of (live_aig_text c live) ≡ Some (packed_live_rows c live)
unfolding live_rows_of
live_aig_rereads c live is fits numbered are =
    let justice = justice_view live in
    let fairness = live.fairness.items in
    let i = length c.inputs.items in
    let l = length c.latches.items in
    let a = length c.gates.items in
    let b = length c.bads.items in
    let k = length c.constraints.items in
    let j = length live.justice.items in
    let f = length fairness in
    let m = greatest_variable c in
    let all = numbers c numbered in
    let same : i + l + a ≡ m = sym all.greatest in
    let as_many : length justice ≡ j = length-map live.justice.items (λ property. property.items) in
    let written = min (min (i + l) 18446744073709551615 + a) 18446744073709551615 in
    let rows = rows_text c justice fairness in
    let counts = number_text b 32 ++ (number_text k 32 ++ (number_text j 32 ++ (number_text f 10 ++ rows))) in
    let sizes = number_text i 32 ++ (number_text l 32 ++ (number_text 0 32 ++ (number_text a 32 ++ counts))) in
    let p : Properties = record { bads = b; constraints = k; justice = j; fairness = f } in
    let header : header_in Binary m i l a p
    ≡ header_in Binary m i l a (counts_of c.bads.items c.constraints.items justice fairness) =
    ap (λ n. header_in Binary m i l a (record { bads = b; constraints = k; justice = n; fairness = f })) (sym as_many)
    in
    let text : live_aig_text c live ≡ codes "aig " ++ (number_text written 32 ++ sizes) =
    of_six (live_packed_header_line c j f) (packed_latch_lines c.latches.items) (literal_lines c.bads.items)
    (literal_lines c.constraints.items) (liveness_lines justice fairness) (packed_ands c.gates.items)
    ∙ of_ten (codes "aig ") (number_text written 32) (number_text i 32) (number_text l 32) (number_text 0 32)
    (number_text a 32) (number_text b 32) (number_text k 32) (number_text j 32) (number_text f 10) rows
    in
    ap live_rows_of (text ∙ ap (λ n. codes "aig " ++ (number_text n 32 ++ sizes)) (maximum_is i l a m same is.small))
    ∙ ap (λ header. header >>= λ h. body_at h.0 h.1)
    (header-reread (codes "aig ") Binary m i l a p counts rows (λ bytes. refl) is.small is.counts (grind
    (arith, nat_tests, same)) (live_properties-reread b k j f rows is.bad_count is.constraint_count
    (subst (λ n. n < 2 ^ 31) as_many fits.justice_count) fits.fairness_count))
    ∙ body-reread c justice fairness (header_in Binary m i l a p) m refl is fits all are header
