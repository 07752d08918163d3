-- What holds of a part holds of the whole circuit.
use Rattle.std.proofs.Common.{◌≡◌, ℕ, zero, suc, ◌+◌, ◌&&◌, ◌||◌, Bool, not, List, [], ◌∷◌, map, IsTrue, Vec, arith, refl, sym, ap, subst, ◌∙◌}
use Rattle.std.specs.declared.alloc.Global.{Global}
use Rattle.std.specs.List.{list_all}
use Rattle.std.proofs.lemmas.Bool.{and_from, and_parts}
use Rattle.gipsat_cnf.specs.Prelude.{Assignment, Clause, Lit, is_true, makes_true, satisfies_clause}
use Rattle.gipmc_circuits.specs.declared.circuit.Circuit.{Circuit}
use Rattle.gipmc_circuits.specs.Prelude.{FailsAfter, IsSafe, IsSafeByClauses, IsTrace, has_value, holds, holds_next, holds_reset, is_initial, is_moment, is_transition, is_valuation}
use Rattle.gipmc_reduce.proofs.Lists.{all_renamed}
use Rattle.gipmc_reduce.specs.Cone.{IsPartOf, gate_named, latch_named, literal_named, read, rows, rows_named}

pub is_moment-read : (names : List ℕ) (part whole : Circuit) (a : Assignment)
    → IsPartOf names part whole → IsTrue (is_moment whole a) → IsTrue (is_moment part (read names a))
is_moment-read names part whole a is moment =
    let (valuation, constraints) = and_parts (is_valuation whole a) (makes_true a whole.constraints.items) moment in
    let (none, gates) = and_parts (not (a 0)) (list_all (has_value a) whole.gates.items) valuation in
    and_from (is_valuation part (read names a)) (makes_true (read names a) part.constraints.items)
    (and_from (not (read names a 0)) (list_all (has_value (read names a)) part.gates.items)
    (subst (λ v. IsTrue (not (a v))) (sym is.constant) none)
    (all_renamed (gate_named names) (has_value (read names a)) (has_value a) part.gates.items whole.gates.items (λ g. refl) is.gates gates))
    (all_renamed (literal_named names) (is_true (read names a)) (is_true a) part.constraints.items whole.constraints.items (λ l. refl) is.constraints constraints)

pub is_initial-read : (names : List ℕ) (part whole : Circuit) (a : Assignment)
    → IsPartOf names part whole → IsTrue (is_initial whole a) → IsTrue (is_initial part (read names a))
is_initial-read names part whole a is initial =
    all_renamed (latch_named names) (holds_reset (read names a)) (holds_reset a) part.latches.items whole.latches.items (λ l. refl) is.latches initial

pub is_transition-read : (names : List ℕ) (part whole : Circuit) (a b : Assignment)
    → IsPartOf names part whole → IsTrue (is_transition whole a b) → IsTrue (is_transition part (read names a) (read names b))
is_transition-read names part whole a b is transition =
    all_renamed (latch_named names) (holds_next (read names a) (read names b)) (holds_next a b) part.latches.items whole.latches.items (λ l. refl) is.latches transition

-- a trace of the whole circuit, read through the names, is one of the part
pub IsTrace-read : (names : List ℕ) (part whole : Circuit) (n : ℕ) (t : ℕ → Assignment)
    → IsPartOf names part whole → IsTrace whole n t → IsTrace part n (λ i. read names (t i))
IsTrace-read names part whole n t is trace = record {
  initial = is_initial-read names part whole (t 0) is trace.initial;
  moments = λ i within. is_moment-read names part whole (t i) is (trace.moments i within);
  transitions = λ i less. is_transition-read names part whole (t i) (t (i + 1)) is (trace.transitions i less);
}

-- if the whole circuit fails after n transitions, the part does
pub FailsAfter-part : (names : List ℕ) (part whole : Circuit) (bad : Lit) (n : ℕ)
    → IsPartOf names part whole → FailsAfter whole (literal_named names bad) n → FailsAfter part bad n
FailsAfter-part names part whole bad n is (t, trace, fails) =
    ((λ i. read names (t i)), IsTrace-read names part whole n t is trace, fails)

-- if the part is safe, the whole circuit is
pub IsSafe-part : (names : List ℕ) (part whole : Circuit) (bad : Lit)
    → IsPartOf names part whole → IsSafe part bad → IsSafe whole (literal_named names bad)
IsSafe-part names part whole bad is safe n fails = safe n (FailsAfter-part names part whole bad n is fails)

-- the clauses hold under the names where the values that are read satisfy them
satisfies-read : (names : List ℕ) (a : Assignment) (clause : Clause)
    → satisfies_clause a (map (literal_named names) clause) ≡ satisfies_clause (read names a) clause
satisfies-read names a [] = refl
satisfies-read names a (l ∷ clause) = ap (λ rest. is_true (read names a) l || rest) (satisfies-read names a clause)

holds-rows : (clauses : List (Vec Lit Global)) (a : Assignment) → holds clauses a ≡ list_all (satisfies_clause a) (rows clauses)
holds-rows [] a = refl
holds-rows (c ∷ clauses) a = ap (λ rest. satisfies_clause a c.items && rest) (holds-rows clauses a)

rows-read : (names : List ℕ) (a : Assignment) (lists : List Clause)
    → list_all (satisfies_clause a) (map (map (literal_named names)) lists) ≡ list_all (satisfies_clause (read names a)) lists
rows-read names a [] = refl
rows-read names a (c ∷ lists) = rw (satisfies-read names a c, rows-read names a lists) refl

pub holds-read : (names : List ℕ) (own named : List (Vec Lit Global)) (a : Assignment)
    → rows named ≡ rows_named names own → holds named a ≡ holds own (read names a)
holds-read names own named a same =
    holds-rows named a ∙ ap (list_all (satisfies_clause a)) same ∙ rows-read names a (rows own) ∙ sym (holds-rows own (read names a))

-- an invariant of the part, under the names, is one of the whole circuit
pub IsSafeByClauses-part : (names : List ℕ) (part whole : Circuit) (bad : Lit) (own named : List (Vec Lit Global))
    → IsPartOf names part whole → rows named ≡ rows_named names own
    → IsSafeByClauses part own bad → IsSafeByClauses whole named (literal_named names bad)
IsSafeByClauses-part names part whole bad own named is same by = record {
  initiated = λ a initial moment.
      back a (by.initiated (read names a) (is_initial-read names part whole a is initial) (is_moment-read names part whole a is moment));
  inductive = λ a b moment held goes behind.
      back b (by.inductive (read names a) (read names b) (is_moment-read names part whole a is moment) (forth a held)
      (is_transition-read names part whole a b is goes) (is_moment-read names part whole b is behind));
  excluded = λ a moment held fails. by.excluded (read names a) (is_moment-read names part whole a is moment) (forth a held) fails;
  safe = IsSafe-part names part whole bad is by.safe;
}
  where
    back : (a : Assignment) → IsTrue (holds own (read names a)) → IsTrue (holds named a)
    back a held = subst IsTrue (sym (holds-read names own named a same)) held

    forth : (a : Assignment) → IsTrue (holds named a) → IsTrue (holds own (read names a))
    forth a held = subst IsTrue (holds-read names own named a same) held
