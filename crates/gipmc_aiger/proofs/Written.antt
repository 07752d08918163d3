-- The circuits that one text writes fail and are safe alike.
use Rattle.std.proofs.Common.{◌≡◌, ℕ, ◌+◌, ◌&&◌, false, List, IsTrue, refl, sym, ap, subst, ◌∙◌}
use Rattle.std.specs.List.{list_all}
use Rattle.std.specs.Prelude.{◌==◌, None, Some, if◌then◌else◌, length, nat_lt}
use Rattle.gipsat_cnf.specs.Prelude.{Assignment, Lit}
use Rattle.gipsat_cnf.proofs.Places.{same_some}
use Rattle.gipsat_cnf.proofs.Tests.{list_all-permuted}
use Rattle.gipmc_circuits.specs.declared.circuit.Circuit.{Circuit}
use Rattle.gipmc_circuits.specs.Circuit.{FailsAfter, IsSafe, IsTrace, has_value, holds_next, holds_reset, is_moment}
use Rattle.gipmc_aiger.specs.Prelude.{◌>>=◌, IsReordering, Rows, Writes, WritesLive, circuit_in, circuit_of, is_live_alone, justice_view, live_rows, rows_of}
use Rattle.gipmc_aiger.specs.declared.liveness.Liveness.{Liveness}

-- circuits with the same rows have the same moments
pub moments-reordered : (c d : Circuit) (n : Rows) (a : Assignment)
    → IsReordering n (rows_of c) → IsReordering n (rows_of d) → is_moment c a ≡ is_moment d a
moments-reordered c d n a first second =
    let gates : list_all (has_value a) c.gates.items ≡ list_all (has_value a) d.gates.items =
    sym (list_all-permuted (has_value a) n.gates c.gates.items first.gates)
    ∙ list_all-permuted (has_value a) n.gates d.gates.items second.gates in
    let constraints : c.constraints.items ≡ d.constraints.items = first.constraints ∙ sym second.constraints in
    rw (gates, constraints) refl

-- and the same traces
IsTrace-reordered : (c d : Circuit) (n : Rows) (m : ℕ) (t : ℕ → Assignment)
    → IsReordering n (rows_of c) → IsReordering n (rows_of d) → IsTrace c m t → IsTrace d m t
IsTrace-reordered c d n m t first second is =
    let latches : c.latches.items ≡ d.latches.items = first.latches ∙ sym second.latches in record {
      initial = subst (λ ls. IsTrue (list_all (holds_reset (t 0)) ls)) latches is.initial;
      moments = λ i within. sym (moments-reordered c d n (t i) first second) ∙ is.moments i within;
      transitions = λ i less.
          subst (λ ls. IsTrue (list_all (holds_next (t i) (t (i + 1))) ls)) latches (is.transitions i less);
    }

-- where one circuit that a text writes fails, so does each other one
pub FailsAfter-written : (text : List ℕ) (c d : Circuit) (bad : Lit) (m : ℕ)
    → Writes text c → Writes text d → FailsAfter c bad m → FailsAfter d bad m
FailsAfter-written text c d bad m (n, at, first) (o, other, second) (t, is, fails) =
    let same : o ≡ n = same_some o n (sym other ∙ at) in
    (t, IsTrace-reordered c d n m t first (subst (λ x. IsReordering x (rows_of d)) same second) is, fails)

-- where one circuit that a text writes is safe, so is each other one
pub IsSafe-written : (text : List ℕ) (c d : Circuit) (bad : Lit) → Writes text c
    → Writes text d → IsSafe c bad → IsSafe d bad
IsSafe-written text c d bad first second safe m fails = safe m (FailsAfter-written text d c bad m second first fails)

-- the circuit that a text writes with justice properties is the one that it writes without them, where that is read
pub Writes-live : (text : List ℕ) (c : Circuit) (l : Liveness) → is_live_alone (live_rows c l) ≡ false
    → WritesLive text c l → Writes text c
unfolding circuit_of
Writes-live text c l beside (n, at, is) =
    let same : is_live_alone n ≡ false =
    ap (λ js. nat_lt 0 (length js) && (length n.circuit.bads == 0)) (sym is.justice)
    ∙ (ap (λ bs. nat_lt 0 (length (justice_view l)) && (length bs == 0)) (sym is.circuit.bads) ∙ beside)
    in
    (n.circuit, ap (λ read. read >>= circuit_in) at ∙ ap (λ b. if b then None else Some n.circuit) same, is.circuit)
