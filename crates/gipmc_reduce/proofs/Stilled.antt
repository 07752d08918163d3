-- A circuit that stands still has the moments of another one: what it excludes at them is excluded there.
use Rattle.std.proofs.Common.{◌≡◌, ⊎_elim, ℕ, zero, suc, ◌++◌, ◌&&◌, eqb, cond, true, not, List, [], ◌∷◌, length, slice_get, Some, IsTrue, arith, refl, sym, ap, subst, ◌∙◌}
use Rattle.std.specs.Bool.{beq}
use Rattle.std.specs.List.{list_all}
use Rattle.std.proofs.lemmas.Bool.{and_from, and_parts, cases_Bool, cond-false, cond-true, eq-eqb, eqb-true}
use Rattle.std.proofs.lemmas.List.Folds.{list_all-append}
use Rattle.gipsat_cnf.specs.Prelude.{Assignment, Lit, is_true, makes_true}
use Rattle.gipmc_circuits.specs.Prelude.{ExcludesBy, IsCertifiedBy, are_linked, has_value, is_below, is_linked, is_moment, is_valuation, literal_below}
use Rattle.gipmc_circuits.specs.declared.certificate.Verdict.{Verdict}
use Rattle.gipmc_circuits.specs.declared.certificate.Verdict.TheVariants.{Certified}
use Rattle.gipmc_circuits.specs.declared.circuit.Circuit.{Circuit}
use Rattle.gipmc_circuits.specs.declared.witness_circuit.WitnessCircuit.{WitnessCircuit}
use Rattle.gipmc_circuits.proofs.Agreeing.{AgreeBelow, all_alike, is_moment-alike, is_true-alike}
use Rattle.gipsat_cnf.proofs.Places.{same_some}
use Rattle.gipmc_circuits.proofs.Together.{safe_by_certificate}
use Rattle.gipmc_reduce.specs.Witnessed.{AreSafeBy, HoldsClaims, IsStilled, shares_below}

-- the values, and that of n is true
abbrev raised : ℕ → Assignment → Assignment
raised n a v = cond (eqb v n) true (a v)

raised-agree : (n : ℕ) (a : Assignment) → AgreeBelow n (raised n a) a
raised-agree n a v less =
    cond-false (eqb v n) true (a v)
    (⊎_elim (λ same. let is : v ≡ n = eqb-true v n same in absurd (omega (arith, less, is))) (λ other. other) (cases_Bool (eqb v n)))

raised-there : (n : ℕ) (a : Assignment) → raised n a n ≡ true
raised-there n a = cond-true (eqb n n) true (a n) (eq-eqb n n refl)

-- the values are a moment of the circuit that stands still
raised-moment : (n : ℕ) (c s : Circuit) (w : WitnessCircuit) (a : Assignment) → IsTrue (is_below n c) → IsStilled n c w s
    → IsTrue (is_moment c a) → IsTrue (is_moment s (raised n a))
raised-moment n c s w a below is moment =
    let b = raised n a in
    let (valuation, constraints) = and_parts (is_valuation c b) (makes_true b c.constraints.items)
    (is_moment-alike n c b a below (raised-agree n a) ∙ moment) in
    let (none, gates) = and_parts (not (b 0)) (list_all (has_value b) c.gates.items) valuation in
    let top : Lit = record { variable = n; positive = true } in
    let last : IsTrue (makes_true b (top ∷ [])) =
    and_from (is_true b top) true (ap (λ v. beq v true) (raised-there n a)) refl in
    let all : IsTrue (makes_true b (c.constraints.items ++ top ∷ [])) =
    list_all-append (is_true b) c.constraints.items (top ∷ [])
    ∙ and_from (makes_true b c.constraints.items) (makes_true b (top ∷ [])) constraints last in
    and_from (is_valuation s b) (makes_true b s.constraints.items)
    (and_from (not (b 0)) (list_all (has_value b) s.gates.items) none
    (subst (λ gs. IsTrue (list_all (has_value b) gs)) (sym is.moments.gates) gates))
    (subst (λ ls. IsTrue (makes_true b ls)) (sym is.moments.constraints) all)

-- what is excluded there is excluded here
ExcludesBy-still : (n : ℕ) (c s : Circuit) (w : WitnessCircuit) (bad : Lit) → IsTrue (is_below n c) → IsStilled n c w s
    → IsTrue (literal_below n bad) → ExcludesBy s w bad → ExcludesBy c w bad
ExcludesBy-still n c s w bad below is inside excludes a b paired claimed fails =
    let up = raised n a in
    let agree = raised-agree n a in
    let (valuation, others) = and_parts (is_valuation w.circuit b) (are_linked a b w.shared.items && is_moment c a) paired in
    let (linked, moment) = and_parts (are_linked a b w.shared.items) (is_moment c a) others in
    let linked_up : IsTrue (are_linked up b w.shared.items) =
    all_alike (shares_below n) (is_linked up b) (is_linked a b) w.shared.items
    (λ k within. ap (beq (b k.variable)) (is_true-alike n up a k.literal agree within)) is.shared ∙ linked in
    excludes up b
    (and_from (is_valuation w.circuit b) (are_linked up b w.shared.items && is_moment s up) valuation
    (and_from (are_linked up b w.shared.items) (is_moment s up) linked_up (raised-moment n c s w a below is moment)))
    claimed (is_true-alike n up a bad agree inside ∙ fails)

-- by claims that are an invariant, and exclude the literal in the circuit that stands still, it is certified
pub IsCertifiedBy-still : (n : ℕ) (c s : Circuit) (w : WitnessCircuit) (bad : Lit) → IsTrue (is_below n c)
    → IsStilled n c w s → IsTrue (literal_below n bad) → HoldsClaims c w → IsCertifiedBy s bad w → IsCertifiedBy c bad w
IsCertifiedBy-still n c s w bad below is inside claims certified = record {
  simulates = claims.simulates;
  initiated = claims.initiated;
  inductive = claims.inductive;
  excluded = ExcludesBy-still n c s w bad below is inside certified.excluded;
}

-- one more literal and its verdict
pub AreSafeBy-more : (c : Circuit) (w : WitnessCircuit) (bads : List Lit) (verdicts : List Verdict) (v : Verdict)
    → AreSafeBy c w bads verdicts
    → ((bad : Lit) → slice_get bads (length verdicts) ≡ Some bad → v ≡ Certified → IsCertifiedBy c bad w)
    → AreSafeBy c w bads (verdicts ++ v ∷ [])
AreSafeBy-more c w [] verdicts v before last k bad at found = cc
AreSafeBy-more c w (b ∷ bads) [] v before last zero bad at found =
    let by = last bad at (same_some v Certified found) in (by, safe_by_certificate c w bad by)
AreSafeBy-more c w (b ∷ bads) [] v before last (suc k) bad at found = cc
AreSafeBy-more c w (b ∷ bads) (u ∷ verdicts) v before last zero bad at found = before zero bad at found
AreSafeBy-more c w (b ∷ bads) (u ∷ verdicts) v before last (suc k) bad at found =
    AreSafeBy-more c w bads verdicts v (λ i. before (suc i)) last k bad at found

pub AreSafeBy-none : (c : Circuit) (w : WitnessCircuit) (bads : List Lit) → AreSafeBy c w bads []
AreSafeBy-none c w bads k bad at found = cc
