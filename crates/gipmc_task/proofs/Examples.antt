-- Worked examples: texts of answers, what witnesses name, certificates, and some that are refused.
use Rattle.std.proofs.Common.{◌≡◌, ℕ, zero, suc, eqb, Bool, true, false, not, List, [], ◌∷◌, Vec, Option, Some, None, IsTrue, codes, ap, arith, length, map, refl, subst, sym}
use Rattle.std.specs.Prelude.{slice_get}
use Rattle.std.specs.declared.alloc.Global.{Global}
use Rattle.std.specs.Bool.{beq}
use Rattle.std.specs.Fmt.{digits}
use Rattle.std.specs.List.{list_all, list_any}
use Rattle.std.specs.Str.{bytes_eq}
use Rattle.std.proofs.Math.Nat.{le_refl}
use Rattle.std.proofs.lemmas.Bool.{and_parts, false≢true}
use Rattle.std.proofs.lemmas.List.Sorted.{IsPermutation-append_comm}
use Rattle.gipsat_cnf.specs.Prelude.{Assignment, Lit, makes_true}
use Rattle.gipsat_cnf.proofs.Places.{none_some, same_some}
use Rattle.gipmc_aiger.specs.Prelude.{claim_by, claim_of, invariant_in}
use Rattle.gipmc_circuits.specs.Prelude.{FailsAfter, FailsBy, IsSafe, IsSafeByClauses, has_value, is_moment, is_valuation}
use Rattle.gipmc_circuits.specs.declared.circuit.Circuit.{Circuit}
use Rattle.gipmc_circuits.specs.declared.trace.Trace.{Trace}
use Rattle.gipmc_reduce.specs.Lassos.{IsLasso, from}
use Rattle.gipmc_reduce.specs.declared.means.Means.{Means}
use Rattle.gipmc_reduce.proofs.Looped.{FailsForever-lasso}
use Rattle.gipmc_aiger.specs.declared.problem.Problem.{Problem}
use Rattle.gipmc_aiger.specs.declared.problem.Property.TheVariants.{Bad, Justice}
use Rattle.gipmc_task.specs.Outcomes.{both}
use Rattle.gipmc_task.specs.declared.outcome.Outcome.TheVariants.{Fails, Safe, Open}
use Rattle.gipmc_task.specs.Answers.{Tells, TellsAll, TellsAny, TellsFirst}
use Rattle.gipmc_task.specs.Certificates.{BeginsWithK, CertifiesSafe, clauses_behind, k_in}
use Rattle.gipmc_task.specs.Left.{StandsFor}
use Rattle.gipmc_task.specs.Witnesses.{Replays, ReplaysAll, claimed, names_asked, names_place}
use Rattle.gipmc_task.specs.declared.certificates.Certificate.TheVariants as certificate
use Rattle.gipmc_task.specs.declared.kind.PropertyKind.TheVariants as kind
use Rattle.gipmc_task.specs.Verdicts.{IsAnswerBy, depths_text, outcome_of, place_of, places_of, text_of}
use Rattle.gipmc_task.specs.declared.answered.Answered.{Answered}
use Rattle.gipmc_task.specs.declared.output.AnswerOrder.TheVariants.{Known}
use Rattle.gipmc_task.specs.declared.verdict.Evidence.TheVariants.{Invariant, Longer}
use Rattle.gipmc_task.specs.declared.verdict.Verdict.TheVariants as verdict
use Rattle.gipmc_task.proofs.ForAll.{known_safe, none_open}
use Rattle.gipmc_task.proofs.Once.{of_each}
use Rattle.gipmc_task.proofs.Told.{Tells-by}

-- a variable
abbrev yes_of : ℕ → Lit
yes_of v = record { variable = v; positive = true }

-- texts of what is known of a property
safe_text : text_of (Bad 3) (verdict.Holds Invariant) ≡ codes "0\nb3\n.\n"
unfolding digits
safe_text = refl

live_text : (means : Means) (clauses : Vec (Vec Lit Global) Global)
    → text_of (Justice 3) (verdict.Holds (Longer means clauses)) ≡ codes "0\nj3\n.\n"
unfolding digits
live_text means clauses = refl

clear_text : text_of (Bad 0) (verdict.ClearTo 40) ≡ codes "u40\n2\nb0\n.\n"
unfolding digits
clear_text = refl

unknown_text : text_of (Justice 12) verdict.Unknown ≡ codes "2\nj12\n.\n"
unfolding digits
unknown_text = refl

refused-text_of_another : bytes_eq (text_of (Bad 3) verdict.Unknown) (codes "2\nb4\n.\n") ≡ false
unfolding digits
refused-text_of_another = refl

-- a lasso of a latch that is 1 and of an input that is 0
lasso_text_of_one : (trace : Trace) (row : Vec Bool Global) → trace.latches.items ≡ true ∷ []
    → trace.inputs.items ≡ row ∷ [] → row.items ≡ false ∷ []
    → text_of (Justice 0) (verdict.Fails trace) ≡ codes "1\nj0\n1\n0\n.\n"
unfolding digits
lasso_text_of_one trace row latches rows is = rw (latches, rows, is) refl

-- the depths that were told stand before it
two_depths : depths_text (2 ∷ 9 ∷ []) ≡ codes "u2\nu9\n"
unfolding digits
two_depths = refl

-- a depth alone leaves a literal open; one that is open leaves all open, unless one fails
depth_is_open : outcome_of (verdict.ClearTo 40) ≡ Open
depth_is_open = refl

one_is_open : both Safe Open ≡ Open
one_is_open = refl

one_fails : both Open Fails ≡ Fails
one_fails = refl

-- the constant is never true
not_constant : (c : Circuit) (a : Assignment) → IsTrue (is_moment c a) → ¬ (IsTrue (beq (a 0) true))
not_constant c a moment bad =
    let valuation = (and_parts (is_valuation c a) (makes_true a c.constraints.items) moment).0 in
    not_both (a 0) (and_parts (not (a 0)) (list_all (has_value a) c.gates.items) valuation).0 bad
  where
    not_both : (value : Bool) → IsTrue (not value) → ¬ (IsTrue (beq value true))
    not_both true low high = false≢true low
    not_both false low high = false≢true high

constant_is_safe : (c : Circuit) → IsSafe c (yes_of 0)
constant_is_safe c n (t, trace, bad) = not_constant c (t n) (trace.moments n (le_refl n)) bad

-- so an answer may say that it is safe, and nothing of an input behind it
tells_of_constant : (c : Circuit) (a : Answered) → slice_get c.bads.items 0 ≡ Some (yes_of 0)
    → IsAnswerBy (Bad 0) [] (verdict.Holds Invariant) a → Tells c 0 a
tells_of_constant c a here is = Tells-by c 0 (yes_of 0) [] (verdict.Holds Invariant) a here tt (constant_is_safe c) is

tells_of_input : (c : Circuit) (a : Answered) → slice_get c.bads.items 1 ≡ Some (yes_of 1)
    → IsAnswerBy (Bad 1) [] verdict.Unknown a → Tells c 1 a
tells_of_input c a here is = Tells-by c 1 (yes_of 1) [] verdict.Unknown a here tt tt is

tells_of_both : (c : Circuit) (a b : Answered) → c.bads.items ≡ yes_of 0 ∷ yes_of 1 ∷ []
    → IsAnswerBy (Bad 0) [] (verdict.Holds Invariant) a → IsAnswerBy (Bad 1) [] verdict.Unknown b
    → TellsFirst (Tells c) 2 (a ∷ b ∷ [])
tells_of_both c a b bads is_safe is_open = (
  a ∷ [],
  b,
  ([], a, refl, tells_of_constant c a (rw bads refl) is_safe, refl),
  tells_of_input c b (rw bads refl) is_open,
  refl,
)

-- in whatever order they may come the other way round, and none twice
tells_each_of_both : (c : Circuit) (a b : Answered) → c.bads.items ≡ yes_of 0 ∷ yes_of 1 ∷ []
    → IsAnswerBy (Bad 0) [] (verdict.Holds Invariant) a → IsAnswerBy (Bad 1) [] verdict.Unknown b
    → TellsAll Known (Tells c) 2 (b ∷ a ∷ [])
tells_each_of_both c a b bads is_safe is_open =
    let first = ap place_of is_safe.0 in
    let second = ap place_of is_open.0 in
    record {
      once = rw (first, second) (IsPermutation-append_comm (0 ∷ []) (1 ∷ []));
      right = (
        subst (λ k. Tells c k b) (sym second) (tells_of_input c b (rw bads refl) is_open),
        (subst (λ k. Tells c k a) (sym first) (tells_of_constant c a (rw bads refl) is_safe), tt),
      );
    }

refused-twice : (c : Circuit) (a b : Answered) → a.property ≡ Bad 0 → b.property ≡ Bad 0
    → ¬ (TellsAll Known (Tells c) 2 (a ∷ b ∷ []))
refused-twice c a b first second each =
    absurd (omega (
      arith,
      of_each (λ k. k ≡ 0) 2 (places_of (a ∷ b ∷ [])) each.once
          (ap place_of first, (ap place_of second, tt)) 1 (omega arith),
    ))

-- in place of both there may be one on that which is open
tells_any_open : (c : Circuit) (a : Answered) → c.bads.items ≡ yes_of 0 ∷ yes_of 1 ∷ []
    → IsAnswerBy (Bad 1) [] verdict.Unknown a → TellsAny c a
tells_any_open c a bads (of, told, says, small) =
    ((1, tells_of_input c a (rw bads refl) (of, told, says, small)), λ all. none_open (rw says at all))

-- and that all are safe where the constant is the only one
only : (l m : Lit) (k : ℕ) → slice_get (l ∷ []) k ≡ Some m → l ≡ m
only l m zero at = same_some l m at
only l m (suc k) at = none_some m at

tells_any_safe : (c : Circuit) (a : Answered) → c.bads.items ≡ yes_of 0 ∷ []
    → IsAnswerBy (Bad 0) [] (verdict.Holds Invariant) a → TellsAny c a
tells_any_safe c a bads is = (
  (0, tells_of_constant c a (rw bads refl) is),
  λ all k bad here. subst (IsSafe c) (only (yes_of 0) bad k (rw bads at here)) (constant_is_safe c),
)

-- an input may be true at the start
abbrev first : Assignment
first v = eqb v 1

input_fails : (c : Circuit) → c.latches.items ≡ [] → c.gates.items ≡ [] → c.constraints.items ≡ []
    → FailsAfter c (yes_of 1) 0
input_fails c latches gates constraints = (
  (λ i. first),
  record {
    initial = rw latches refl;
    moments = λ i within. rw (gates, constraints) refl;
    transitions = λ i less. rw latches refl;
  },
  refl,
)

-- so no answer may say that it is safe
refused-safe : (c : Circuit) (a : Answered) → c.latches.items ≡ [] → c.gates.items ≡ [] → c.constraints.items ≡ []
    → c.bads.items ≡ yes_of 1 ∷ [] → outcome_of a.verdict ≡ Safe → ¬ (Tells c 0 a)
refused-safe c a latches gates constraints bads says (of, small, (bad, here, holds, clear)) =
    known_safe c bad a.verdict says holds 0
    (subst (λ l. FailsAfter c l 0) (same_some (yes_of 1) bad (rw bads at here)) (input_fails c latches gates constraints))

-- nor in place of a constant beside it
refused-any_safe : (c : Circuit) (a : Answered) → c.latches.items ≡ [] → c.gates.items ≡ [] → c.constraints.items ≡ []
    → c.bads.items ≡ yes_of 0 ∷ yes_of 1 ∷ [] → outcome_of a.verdict ≡ Safe → ¬ (TellsAny c a)
refused-any_safe c a latches gates constraints bads says (told, safe) =
    safe says 1 (yes_of 1) (rw bads refl) 0 (input_fails c latches gates constraints)

-- nor may a constant stand for it in a smaller circuit
refused-constant_for_input : (small whole : Circuit) → whole.latches.items ≡ [] → whole.gates.items ≡ []
    → whole.constraints.items ≡ [] → ¬ (StandsFor small (yes_of 0) whole (yes_of 1))
refused-constant_for_input small whole latches gates constraints stands =
    stands 0 (constant_is_safe small 0) (input_fails whole latches gates constraints)

-- a witness without names is one of each literal, and has to show the first one where none is asked for
names_second : names_place (0 ∷ 2 ∷ []) 2 ≡ true
names_second = refl

names_no_other : names_place (0 ∷ 2 ∷ []) 1 ≡ false
names_no_other = refl

bare_names_each : names_place [] 1 ≡ true
bare_names_each = refl

bare_claims_first : claimed [] None ≡ 0 ∷ []
bare_claims_first = refl

claims_all : claimed (2 ∷ 5 ∷ []) None ≡ 2 ∷ 5 ∷ []
claims_all = refl

claims_asked : claimed (2 ∷ 5 ∷ []) (Some 5) ≡ 5 ∷ []
claims_asked = refl

claims_no_other : claimed (2 ∷ 5 ∷ []) (Some 1) ≡ []
claims_no_other = refl

-- a text of one witness, of the bad input of a circuit without latches
one_witness : (p : Problem) (trace : Trace) (row : Vec Bool Global)
    → p.netlist.circuit.inputs.items ≡ 1 ∷ [] → p.netlist.circuit.latches.items ≡ []
    → p.netlist.circuit.bads.items ≡ yes_of 1 ∷ [] → trace.latches.items ≡ [] → trace.inputs.items ≡ row ∷ []
    → row.items ≡ true ∷ [] → FailsBy p.netlist.circuit (yes_of 1) trace
    → Replays p kind.Bad (codes "1\nb0\n\n1\n.\n") (Some 0)
unfolding claim_of
one_witness p trace row inputs latches bads none rows is fails = (
  (0 ∷ [], trace) ∷ [],
  rw (latches, inputs, none, rows, is) refl,
  refl,
  (((yes_of 1, rw bads refl, fails), tt), tt),
)

-- a text of one lasso, of a circuit with a latch and an input
one_lasso : (p : Problem) (justice : Vec Lit Global) (trace : Trace) (row : Vec Bool Global)
    → length p.netlist.circuit.latches.items ≡ 1 → length p.netlist.circuit.inputs.items ≡ 1
    → slice_get p.liveness.justice.items 0 ≡ Some justice → trace.latches.items ≡ true ∷ []
    → trace.inputs.items ≡ row ∷ [] → row.items ≡ false ∷ []
    → IsLasso p.netlist.circuit p.liveness.fairness.items justice.items (from trace 0)
    → Replays p kind.Justice (codes "1\nj0\n1\n0\n.\n") (Some 0)
unfolding claim_of
one_lasso p justice trace row latches inputs here holds rows is lasso =
    let runs = FailsForever-lasso p.netlist.circuit p.liveness.fairness.items justice.items (from trace 0) lasso in (
      (0 ∷ [], trace) ∷ [],
      rw (latches, inputs, holds, rows, is) refl,
      refl,
      (((justice, here, (0, lasso), runs), tt), tt),
    )

-- a text of witnesses of one kind alone has none of the other, and so it is no replay
no_witness : (p : Problem) → ReplaysAll p kind.Bad (codes "1\nj0\n0\n1\n.\n") 0
no_witness p = ([], refl, refl, tt)

no_lasso : (p : Problem) → ReplaysAll p kind.Justice (codes "1\nb0\n0\n1\n.\n") 0
no_lasso p = ([], refl, refl, tt)

none_named : (asked : Option ℕ) (witnesses : List (List ℕ × Trace))
    → Some [] ≡ Some (map (λ w. claim_by w.0 w.1) witnesses)
    → ¬ (IsTrue (list_any (λ w. names_asked w.0 asked) witnesses))
none_named asked [] are named = false≢true named
none_named asked (w ∷ witnesses) are named = absurd cc

refused-no_witness : (p : Problem) (asked : Option ℕ) → ¬ (Replays p kind.Bad (codes "1\nj0\n0\n1\n.\n") asked)
refused-no_witness p asked (witnesses, are, named, right) = none_named asked witnesses are named

refused-no_lasso : (p : Problem) (asked : Option ℕ) → ¬ (Replays p kind.Justice (codes "1\nb0\n0\n1\n.\n") asked)
refused-no_lasso p asked (witnesses, are, named, right) = none_named asked witnesses are named

-- a first line with a k, and lines that are none
k_is_three : k_in (codes "k 3") ≡ Some 3
k_is_three = refl

refused-k_of_two_numbers : k_in (codes "k 3 4") ≡ None
refused-k_of_two_numbers = refl

refused-header : k_in (codes "p cnf 0 0") ≡ None
refused-header = refl

-- behind it there may be nothing, and so no clauses
k_alone : (c : Circuit) → clauses_behind c [] ≡ Some []
k_alone c = refl

k_before_clauses : BeginsWithK (codes "k 2\np cnf 0 0\n") 2 (codes "p cnf 0 0\n")
k_before_clauses = (codes "k 2", refl, refl)

-- no clauses show that the constant is never true; they show nothing where there is no bad literal
no_clauses : (c : Circuit) (clauses : Vec (Vec Lit Global) Global) → c.latches.items ≡ []
    → c.bads.items ≡ yes_of 0 ∷ [] → clauses.items ≡ [] → CertifiesSafe c (codes "p cnf 0 0\n") None
unfolding invariant_in
no_clauses c clauses latches bads none = (
  certificate.Clauses clauses,
  rw (latches, none) refl,
  (
    rw bads (omega arith),
    λ k bad here.
        subst (λ l. IsSafeByClauses c clauses.items l) (only (yes_of 0) bad k (rw bads at here))
        (rw none (record {
          initiated = λ a initial moment. refl;
          inductive = λ a b moment holds transition next. refl;
          excluded = λ a moment holds bad. not_constant c a moment bad;
          safe = constant_is_safe c;
        })),
  ),
)

refused-no_bad_literal : (c : Circuit) (text : List ℕ) → c.bads.items ≡ [] → ¬ (CertifiesSafe c text None)
refused-no_bad_literal c text bads (shown, is, (some, each)) =
    let none : length c.bads.items ≡ 0 = rw bads refl in absurd (omega (arith, some, none))
