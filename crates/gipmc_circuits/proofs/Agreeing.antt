-- Values that agree at all variables of a circuit: they are moments, initial, and transitions alike.
use Rattle.std.proofs.Common.{◌≡◌, ℕ, ◌<◌, ◌&&◌, ltb, Bool, not, List, [], ◌∷◌, IsTrue, refl, ap, ◌∙◌}
use Rattle.std.specs.Bool.{beq}
use Rattle.std.specs.List.{list_all}
use Rattle.std.proofs.lemmas.Bool.{and_parts, ltb-true}
use Rattle.gipsat_cnf.specs.Prelude.{Assignment, Lit, is_true, makes_true}
use Rattle.gipmc_circuits.specs.declared.circuit.And.{And}
use Rattle.gipmc_circuits.specs.declared.circuit.Circuit.{Circuit}
use Rattle.gipmc_circuits.specs.Prelude.{gate_below, has_value, is_below, is_initial, is_moment, is_reset, is_transition, is_valuation, latch_below, literal_below}

-- the values are the same at each variable below n
abbrev pub AgreeBelow : ℕ → Assignment → Assignment → Type 0
AgreeBelow n a b = (v : ℕ) → v < n → a v ≡ b v

-- two tests that agree at each item that passes a third one
pub both_alike : (p q : Bool) (r s : Bool) → p ≡ q → r ≡ s → (p && r) ≡ (q && s)
both_alike p q r s first second = rw (first, second) refl

pub all_alike : {X : Type 0} (inside p q : X → Bool) (xs : List X) → ((x : X) → IsTrue (inside x) → p x ≡ q x)
    → IsTrue (list_all inside xs) → list_all p xs ≡ list_all q xs
all_alike inside p q [] alike within = refl
all_alike inside p q (x ∷ xs) alike within =
    let (here, rest) = and_parts (inside x) (list_all inside xs) within in
    both_alike (p x) (q x) (list_all p xs) (list_all q xs) (alike x here) (all_alike inside p q xs alike rest)

pub is_true-alike : (n : ℕ) (a b : Assignment) (l : Lit) → AgreeBelow n a b → IsTrue (literal_below n l) → is_true a l ≡ is_true b l
is_true-alike n a b l agree within = ap (λ v. beq v l.positive) (agree l.variable (ltb-true l.variable n within))

has_value-alike : (n : ℕ) (a b : Assignment) (g : And) → AgreeBelow n a b → IsTrue (gate_below n g) → has_value a g ≡ has_value b g
has_value-alike n a b g agree within =
    let (output, operands) = and_parts (ltb g.output n) (literal_below n g.left && literal_below n g.right) within in
    let (left, right) = and_parts (literal_below n g.left) (literal_below n g.right) operands in
    ap (λ v. beq v (is_true a g.left && is_true a g.right)) (agree g.output (ltb-true g.output n output))
    ∙ ap (beq (b g.output)) (both_alike (is_true a g.left) (is_true b g.left) (is_true a g.right) (is_true b g.right)
    (is_true-alike n a b g.left agree left) (is_true-alike n a b g.right agree right))

-- what `is_below` says of each part
pub record Below (n : ℕ) (c : Circuit) : Type 0 where
  pub some : 0 < n
  pub inputs : IsTrue (list_all (λ v. ltb v n) c.inputs.items)
  pub latches : IsTrue (list_all (latch_below n) c.latches.items)
  pub gates : IsTrue (list_all (gate_below n) c.gates.items)
  pub bads : IsTrue (list_all (literal_below n) c.bads.items)
  pub constraints : IsTrue (list_all (literal_below n) c.constraints.items)

pub below-parts : (n : ℕ) (c : Circuit) → IsTrue (is_below n c) → Below n c
below-parts n c within =
    let inputs = list_all (λ v. ltb v n) c.inputs.items in
    let latches = list_all (latch_below n) c.latches.items in
    let gates = list_all (gate_below n) c.gates.items in
    let bads = list_all (literal_below n) c.bads.items in
    let constraints = list_all (literal_below n) c.constraints.items in
    let (some, a) = and_parts (ltb 0 n) (inputs && (latches && (gates && (bads && constraints)))) within in
    let (i, b) = and_parts inputs (latches && (gates && (bads && constraints))) a in
    let (l, d) = and_parts latches (gates && (bads && constraints)) b in
    let (g, e) = and_parts gates (bads && constraints) d in
    let (h, m) = and_parts bads constraints e in
    record { some = ltb-true 0 n some; inputs = i; latches = l; gates = g; bads = h; constraints = m }

pub is_valuation-alike : (n : ℕ) (c : Circuit) (a b : Assignment) → IsTrue (is_below n c) → AgreeBelow n a b
    → is_valuation c a ≡ is_valuation c b
is_valuation-alike n c a b within agree =
    let parts = below-parts n c within in
    both_alike (not (a 0)) (not (b 0)) (list_all (has_value a) c.gates.items) (list_all (has_value b) c.gates.items)
    (ap not (agree 0 parts.some))
    (all_alike (gate_below n) (has_value a) (has_value b) c.gates.items (λ g. has_value-alike n a b g agree) parts.gates)

pub is_moment-alike : (n : ℕ) (c : Circuit) (a b : Assignment) → IsTrue (is_below n c) → AgreeBelow n a b
    → is_moment c a ≡ is_moment c b
is_moment-alike n c a b within agree =
    both_alike (is_valuation c a) (is_valuation c b) (makes_true a c.constraints.items) (makes_true b c.constraints.items)
    (is_valuation-alike n c a b within agree)
    (all_alike (literal_below n) (is_true a) (is_true b) c.constraints.items (λ l. is_true-alike n a b l agree)
    (below-parts n c within).constraints)

pub is_initial-alike : (n : ℕ) (c : Circuit) (a b : Assignment) → IsTrue (is_below n c) → AgreeBelow n a b
    → is_initial c a ≡ is_initial c b
is_initial-alike n c a b within agree =
    all_alike (latch_below n) (λ l. is_reset l.reset (a l.variable)) (λ l. is_reset l.reset (b l.variable)) c.latches.items
    (λ l inside. ap (is_reset l.reset) (agree l.variable (ltb-true l.variable n (and_parts (ltb l.variable n) (literal_below n l.next) inside).0)))
    (below-parts n c within).latches

pub is_transition-alike : (n : ℕ) (c : Circuit) (a b d e : Assignment) → IsTrue (is_below n c)
    → AgreeBelow n a b → AgreeBelow n d e → is_transition c a d ≡ is_transition c b e
is_transition-alike n c a b d e within agree also =
    all_alike (latch_below n) (λ l. beq (d l.variable) (is_true a l.next)) (λ l. beq (e l.variable) (is_true b l.next)) c.latches.items
    (λ l inside.
    let (first, second) = and_parts (ltb l.variable n) (literal_below n l.next) inside in
    ap (λ v. beq v (is_true a l.next)) (also l.variable (ltb-true l.variable n first))
    ∙ ap (beq (e l.variable)) (is_true-alike n a b l.next agree second))
    (below-parts n c within).latches
