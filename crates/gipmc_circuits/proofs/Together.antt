-- What three questions about a circuit and its certificate together say of the circuit.
use Rattle.std.proofs.Common.{◌≡◌, ⊎_elim, ℕ, ◌+◌, ◌-◌, ◌&&◌, ltb, false, List, [], ◌∷◌, length, map, IsTrue, Vec, arith, refl, sym, ap, subst, ◌∙◌}
use Rattle.std.specs.declared.alloc.Global.{Global}
use Rattle.std.specs.Bool.{beq}
use Rattle.std.specs.List.{list_all}
use Rattle.std.proofs.Math.Path.{fun_ext}
use Rattle.std.proofs.lemmas.Bool.{and_from, and_parts, cond-false, false≢true, le-ltb, ltb-true, or_cases}
use Rattle.std.proofs.lemmas.List.Folds.{list_all-append, list_all-map}
use Rattle.gipsat_cnf.specs.Prelude.{Adds, AllBelow, Assignment, Formula, Lit, is_true, makes_true, negated, satisfies, satisfies_clause}
use Rattle.gipsat_cnf.proofs.LiteralLemmas.{not_both}
use Rattle.gipmc_circuits.specs.declared.circuit.Circuit.{Circuit}
use Rattle.gipmc_circuits.specs.declared.witness_circuit.Link.{Link}
use Rattle.gipmc_circuits.specs.declared.witness_circuit.WitnessCircuit.{WitnessCircuit}
use Rattle.gipmc_circuits.specs.Prelude.{ExcludesBy, ImpliesAt, ImpliesItem, IsCertifiedBy, IsInductiveBy, IsInitiatedBy, IsSafe, SayClaims, are_linked, are_paired, claims, claims_hold, holds, is_below, is_initial, is_linked, is_moment, is_transition, is_valuation, is_witness_below, link_below, literal_below, values_at}
use Rattle.gipmc_circuits.proofs.Agreeing.{AgreeBelow, all_alike, below-parts, both_alike, is_moment-alike, is_transition-alike, is_true-alike, is_valuation-alike}
use Rattle.gipmc_circuits.proofs.Certified.{beside, beside-first, implied_items, values_at-none}
use Rattle.gipmc_circuits.proofs.Traces.{safe_by}

-- a circuit that is certified is safe: along a trace the certificate goes with it, and its claims hold
pub safe_by_certificate : (c : Circuit) (w : WitnessCircuit) (bad : Lit) → IsCertifiedBy c bad w → IsSafe c bad
safe_by_certificate c w bad is =
    safe_by c bad (λ a. (b : Assignment) × IsTrue (are_paired c w a b) × IsTrue (claims_hold w b))
    (λ a first is_now.
    let (b, together, starts) = is.simulates.begins a is_now in
    (b, together, is.initiated a b together first starts))
    (λ a d is_now (b, together, claimed) goes is_next.
    let (e, behind, moved) = is.simulates.goes_on b d is_next in
    (e, behind, is.inductive a b d e together claimed goes moved behind))
    (λ a is_now (b, together, claimed). is.excluded a b together claimed)

-- what the bounds of a certificate say of each part
record Below (n m : ℕ) (w : WitnessCircuit) : Type 0 where
  circuit : IsTrue (is_below n w.circuit)
  shared : IsTrue (list_all (link_below n m) w.shared.items)
  resets : IsTrue (list_all (link_below n n) w.resets.items)
  nexts : IsTrue (list_all (link_below n n) w.nexts.items)

parts_below : (n m : ℕ) (w : WitnessCircuit) → IsTrue (is_witness_below n m w) → Below n m w
parts_below n m w within =
    let shared = list_all (link_below n m) w.shared.items in
    let resets = list_all (link_below n n) w.resets.items in
    let nexts = list_all (link_below n n) w.nexts.items in
    let (own, links) = and_parts (is_below n w.circuit) (shared && (resets && nexts)) within in
    let (s, others) = and_parts shared (resets && nexts) links in
    let (r, x) = and_parts resets nexts others in
    record { circuit = own; shared = s; resets = r; nexts = x }

linked-alike : (n m : ℕ) (links : List Link) (a d b e : Assignment) → IsTrue (list_all (link_below n m) links)
    → AgreeBelow m a d → AgreeBelow n b e → are_linked a b links ≡ are_linked d e links
linked-alike n m links a d b e within agree also =
    all_alike (link_below n m) (is_linked a b) (is_linked d e) links
    (λ k inside.
    let (own, other) = and_parts (ltb k.variable n) (literal_below m k.literal) inside in
    ap (λ v. beq v (is_true a k.literal)) (also k.variable (ltb-true k.variable n own))
    ∙ ap (beq (e k.variable)) (is_true-alike m a d k.literal agree other))
    within

paired-alike : (n m : ℕ) (c : Circuit) (w : WitnessCircuit) (a d b e : Assignment)
    → is_moment c a ≡ is_moment c d → Below n m w → AgreeBelow m a d → AgreeBelow n b e → are_paired c w a b ≡ are_paired c w d e
paired-alike n m c w a d b e moments below agree also =
    both_alike (is_valuation w.circuit b) (is_valuation w.circuit e) (are_linked a b w.shared.items && is_moment c a)
    (are_linked d e w.shared.items && is_moment c d) (is_valuation-alike n w.circuit b e below.circuit also)
    (both_alike (are_linked a b w.shared.items) (are_linked d e w.shared.items) (is_moment c a) (is_moment c d)
    (linked-alike n m w.shared.items a d b e below.shared agree also) moments)

claims-alike : (n : ℕ) (w : WitnessCircuit) (b e : Assignment) → IsTrue (is_below n w.circuit) → AgreeBelow n b e
    → claims_hold w b ≡ claims_hold w e
claims-alike n w b e within agree =
    let parts = below-parts n w.circuit within in
    let all : IsTrue (list_all (literal_below n) (claims w.circuit)) =
    list_all-append (literal_below n) (map negated w.circuit.bads.items) w.circuit.constraints.items
    ∙ and_from (list_all (literal_below n) (map negated w.circuit.bads.items)) (list_all (literal_below n) w.circuit.constraints.items)
    (list_all-map (literal_below n) negated w.circuit.bads.items ∙ parts.bads) parts.constraints in
    all_alike (literal_below n) (is_true b) (is_true e) (claims w.circuit) (λ l. is_true-alike n b e l agree) all

-- a pair's second values are a valuation of the certificate
valued : (c : Circuit) (w : WitnessCircuit) (a b : Assignment) → IsTrue (are_paired c w a b) → IsTrue (is_valuation w.circuit b)
valued c w a b together = (and_parts (is_valuation w.circuit b) (are_linked a b w.shared.items && is_moment c a) together).0

-- the values behind others, as they stand there
beside-behind : (n : ℕ) (b a : Assignment) → values_at n (beside n b a) ≡ a
beside-behind n b a = fun_ext (λ v.
    let back : v + n - n ≡ v = omega arith in
    cond-false (ltb (v + n) n) (b (v + n)) (a (v + n - n)) (le-ltb (v + n) n (omega arith)) ∙ ap a back)

same-agree : (n : ℕ) (a b : Assignment) → a ≡ b → AgreeBelow n a b
same-agree n a b same v less = ap (λ x. x v) same

first-agrees : (n : ℕ) (b a : Assignment) → AgreeBelow n b (values_at 0 (beside n b a))
first-agrees n b a v less = beside-first n b a v less ∙ ap (λ x. x v) (sym (values_at-none (beside n b a)))

-- the clauses of a pair that begins imply what the certificate claims
pub initiated_by : (n m : ℕ) (c : Circuit) (w : WitnessCircuit) (rows : List (Vec Lit Global)) (e f g h : Formula)
    → e ≡ [] → IsTrue (is_witness_below n m w) → ((a : Assignment) → holds rows a ≡ makes_true a (claims w.circuit))
    → Adds (λ a. IsTrue (are_paired c w (values_at n a) (values_at 0 a))) e f
    → Adds (λ a. IsTrue (is_initial c (values_at n a))) f g
    → Adds (λ a. IsTrue (are_linked (values_at 0 a) (values_at 0 a) w.resets.items)) g h
    → AllBelow (length rows) (ImpliesItem 0 h rows) → IsInitiatedBy c w
initiated_by n m c w rows e f g h none within claimed pair initial resets all a b together first starts =
    let below = parts_below n m w within in
    let z : Assignment = beside n b a in
    let here : values_at n z ≡ a = beside-behind n b a in
    let there : AgreeBelow n b (values_at 0 z) = first-agrees n b a in
    let start = subst (λ x. IsTrue (satisfies z x)) (sym none) refl in
    let sat_f = (pair z).1 (
      start,
      subst IsTrue (paired-alike n m c w a (values_at n z) b (values_at 0 z) (ap (is_moment c) (sym here)) below
          (same-agree m a (values_at n z) (sym here)) there) together,
    ) in
    let sat_g = (initial z).1 (sat_f, subst (λ x. IsTrue (is_initial c x)) (sym here) first) in
    let sat_h = (resets z).1 (
      sat_g,
      subst IsTrue (linked-alike n n w.resets.items b (values_at 0 z) b (values_at 0 z) below.resets there there) starts,
    ) in
    subst IsTrue (sym (claims-alike n w b (values_at 0 z) below.circuit there))
    (sym (claimed (values_at 0 z)) ∙ implied_items 0 h rows z all sat_h)

-- the clauses of a pair at which the claims hold imply that the literal is false
pub excluded_by : (n m : ℕ) (c : Circuit) (w : WitnessCircuit) (bad : Lit) (rows : List (Vec Lit Global)) (e f g : Formula)
    → e ≡ [] → IsTrue (is_witness_below n m w) → ((a : Assignment) → holds rows a ≡ makes_true a (claims w.circuit))
    → Adds (λ a. IsTrue (are_paired c w (values_at n a) (values_at 0 a))) e f
    → Adds (λ a. IsTrue (holds rows a)) f g → ImpliesAt n g (negated bad ∷ []) → ExcludesBy c w bad
excluded_by n m c w bad rows e f g none within claimed pair adds implied a b together claims_are fails =
    let below = parts_below n m w within in
    let z : Assignment = beside n b a in
    let here : values_at n z ≡ a = beside-behind n b a in
    let there : AgreeBelow n b (values_at 0 z) = first-agrees n b a in
    let start = subst (λ x. IsTrue (satisfies z x)) (sym none) refl in
    let sat_f = (pair z).1 (
      start,
      subst IsTrue (paired-alike n m c w a (values_at n z) b (values_at 0 z) (ap (is_moment c) (sym here)) below
          (same-agree m a (values_at n z) (sym here)) there) together,
    ) in
    let held : IsTrue (holds rows z) = claimed z ∙ sym (claims-alike n w b z below.circuit (beside-first n b a)) ∙ claims_are in
    let one = subst (λ x. IsTrue (satisfies_clause x (negated bad ∷ []))) here (implied z ((adds z).1 (sat_f, held))) in
    ⊎_elim (λ is. not_both a bad fails is) (λ is. false≢true is) (or_cases (is_true a (negated bad)) false one)

-- the clauses of two pairs with a transition of both between them imply the claims behind it, where they hold before
pub inductive_by : (n m k l : ℕ) (c : Circuit) (w : WitnessCircuit) (rows : List (Vec Lit Global))
    (e f g h i j : Formula) → k ≡ n + m → l ≡ k + n → e ≡ [] → IsTrue (is_below m c) → IsTrue (is_witness_below n m w)
    → SayClaims w rows
    → Adds (λ a. IsTrue (are_paired c w (values_at n a) (values_at 0 a))) e f
    → Adds (λ a. IsTrue (holds rows a)) f g
    → Adds (λ a. IsTrue (is_transition c (values_at n a) (values_at l a))) g h
    → Adds (λ a. IsTrue (are_linked (values_at 0 a) (values_at k a) w.nexts.items)) h i
    → Adds (λ a. IsTrue (are_paired c w (values_at l a) (values_at k a))) i j
    → AllBelow (length rows) (ImpliesItem k j rows) → IsInductiveBy c w
inductive_by n m k l c w rows e f g h i j stride second none c_below within claimed pair adds goes moves next all
    a b d x together claims_are leads moved behind =
    let below = parts_below n m w within in
    let now : Assignment = beside n b a in
    let later : Assignment = beside n x d in
    let z : Assignment = beside k now later in
    let at_k : values_at k z ≡ later = beside-behind k now later in
    let at_l : values_at l z ≡ d =
    fun_ext (λ v. let far : v + l ≡ v + n + k = omega (arith, second) in ap z far ∙ ap (λ y. y (v + n)) at_k)
    ∙ beside-behind n x d in
    let at_n : AgreeBelow m a (values_at n z) = λ v less.
    ap (λ y. y v) (sym (beside-behind n b a)) ∙ beside-first k now later (v + n) (omega (arith, stride, less)) in
    let plain : AgreeBelow n b z = λ v less.
    beside-first n b a v less ∙ beside-first k now later v (omega (arith, stride, less)) in
    let at_0 : AgreeBelow n b (values_at 0 z) = λ v less. plain v less ∙ ap (λ y. y v) (sym (values_at-none z)) in
    let new : AgreeBelow n x (values_at k z) = λ v less.
    beside-first n x d v less ∙ ap (λ y. y v) (sym at_k) in
    let start = subst (λ y. IsTrue (satisfies z y)) (sym none) refl in
    let sat_f = (pair z).1 (
      start,
      subst IsTrue (paired-alike n m c w a (values_at n z) b (values_at 0 z) (is_moment-alike m c a (values_at n z) c_below at_n)
          below at_n at_0) together,
    ) in
    let own = valued c w a b together in
    let own_z = subst IsTrue (is_valuation-alike n w.circuit b z below.circuit plain) own in
    let sat_g = (adds z).1 (sat_f, claimed z own_z ∙ sym (claims-alike n w b z below.circuit plain) ∙ claims_are) in
    let sat_h = (goes z).1 (
      sat_g,
      subst IsTrue (is_transition-alike m c a (values_at n z) d (values_at l z) c_below at_n (same-agree m d (values_at l z) (sym at_l)))
          leads,
    ) in
    let sat_i = (moves z).1 (
      sat_h,
      subst IsTrue (linked-alike n n w.nexts.items b (values_at 0 z) x (values_at k z) below.nexts at_0 new) moved,
    ) in
    let sat_j = (next z).1 (
      sat_i,
      subst IsTrue (paired-alike n m c w d (values_at l z) x (values_at k z) (ap (is_moment c) (sym at_l)) below
          (same-agree m d (values_at l z) (sym at_l)) new) behind,
    ) in
    subst IsTrue (sym (claims-alike n w x (values_at k z) below.circuit new))
    (sym (claimed (values_at k z) (subst IsTrue (is_valuation-alike n w.circuit x (values_at k z) below.circuit new) (valued c w d x behind)))
    ∙ implied_items k j rows z all sat_j)
