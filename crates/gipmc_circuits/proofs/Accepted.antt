-- Certificates without latches of their own: the moments at which they claim what holds are an invariant of the circuit.
use Rattle.std.proofs.Common.{◌≡◌, [], refl, subst, sym, IsTrue}
use Rattle.gipsat_cnf.specs.Prelude.{Assignment, Lit, is_true}
use Rattle.gipmc_circuits.specs.declared.circuit.Circuit.{Circuit}
use Rattle.gipmc_circuits.specs.declared.witness_circuit.WitnessCircuit.{WitnessCircuit}
use Rattle.gipmc_circuits.specs.Prelude.{IsCertifiedBy, are_linked, are_paired, claims_hold, is_initial, is_moment, is_transition}

-- the claims hold at each valuation of the certificate that is alike in what is shared
abbrev pub Accepts : Circuit → WitnessCircuit → Assignment → Type 0
Accepts c w a = (b : Assignment) → IsTrue (are_paired c w a b) → IsTrue (claims_hold w b)

-- the certificate accepts each initial moment, and each moment behind one that it accepts; where it accepts, the literal
-- is false
pub record IsAccepted (c : Circuit) (bad : Lit) (w : WitnessCircuit) : Type 0 where
  pub initiated : (a : Assignment) → IsTrue (is_initial c a) → IsTrue (is_moment c a) → Accepts c w a
  pub inductive : (a d : Assignment) → IsTrue (is_moment c a) → Accepts c w a → IsTrue (is_transition c a d)
      → IsTrue (is_moment c d) → Accepts c w d
  pub excluded : (a : Assignment) → IsTrue (is_moment c a) → Accepts c w a → ¬ (IsTrue (is_true a bad))

pub accepted : (c : Circuit) (w : WitnessCircuit) (bad : Lit) → w.resets.items ≡ [] → w.nexts.items ≡ []
    → IsCertifiedBy c bad w → IsAccepted c bad w
accepted c w bad no_resets no_nexts is = record {
  initiated = λ a first is_now b together.
      is.initiated a b together first (subst (λ ks. IsTrue (are_linked b b ks)) (sym no_resets) refl);
  inductive = λ a d is_now accepts goes is_next e behind.
      let (b, together, starts) = is.simulates.begins a is_now in
      is.inductive a b d e together (accepts b together) goes (subst (λ ks. IsTrue (are_linked b e ks)) (sym no_nexts) refl) behind;
  excluded = λ a is_now accepts.
      let (b, together, starts) = is.simulates.begins a is_now in
      is.excluded a b together (accepts b together);
}
