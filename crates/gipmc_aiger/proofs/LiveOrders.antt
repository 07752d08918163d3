-- Literals that are tested as bad literals, and that are bad no more then.
use Rattle.std.proofs.Common.{◌≡◌, ℕ, ◌&&◌, Bool, List, ◌++◌, IsTrue, length, map, sym, ap, subst, take, ◌∙◌}
use Rattle.std.specs.List.{list_all}
use Rattle.std.specs.List.Sorted.{IsPermutation}
use Rattle.std.proofs.lemmas.Bool.{and_parts}
use Rattle.std.proofs.Math.Seq.{take-append_seam}
use Rattle.std.proofs.lemmas.List.Folds.{list_all-append}
use Rattle.gipsat_cnf.specs.Literals.{Lit}
use Rattle.gipmc_circuits.specs.declared.circuit.Circuit.{Circuit}
use Rattle.gipmc_circuits.specs.Prelude.{are_in_order, are_new, is_constant, is_source, is_variable, is_well_formed, latch_variables, uses_defined, with_variables}
use Rattle.gipmc_aiger.specs.Prelude.{IsErrorOf, IsReordering, Rows, rows_of, with_bads}
use Rattle.gipmc_aiger.specs.declared.error.AigerError.{AigerError}

-- an error of rows with more bad literals
pub error-with : (n : Rows) (live bads : List Lit) (e : AigerError) → bads ≡ n.bads ++ live
    → IsErrorOf (with_bads n bads) e → IsErrorOf (with_bads n (n.bads ++ live)) e
error-with n live bads e same is = subst (λ b. IsErrorOf (with_bads n b) e) same is

-- the gates are put in order with more bad literals, and only its own are kept
pub kept_alone : (n m k : Rows) (own : ℕ) (live bads : List Lit) → bads ≡ n.bads ++ live → own ≡ length n.bads
    → IsReordering (with_bads n bads) m → k ≡ with_bads m (take own m.bads) → IsReordering n k
kept_alone n m k own live bads same count is kept = record {
  inputs = ap (λ r. r.inputs) kept ∙ is.inputs;
  latches = ap (λ r. r.latches) kept ∙ is.latches;
  gates = subst (λ gs. IsPermutation n.gates gs) (sym (ap (λ r. r.gates) kept)) is.gates;
  bads = ap (λ r. r.bads) kept
      ∙ (ap (λ i. take i m.bads) count ∙ (ap (take (length n.bads)) (is.bads ∙ same) ∙ take-append_seam n.bads live));
  constraints = ap (λ r. r.constraints) kept ∙ is.constraints;
}

-- the variables of rows
abbrev variables_of : Rows → ℕ → Bool
variables_of n =
    with_variables (map (λ g. g.output) n.gates) (with_variables (map (λ l. l.variable) n.latches) (with_variables
    n.inputs is_constant))

-- the literals that are bad no more are of variables of the circuit
pub defined_still : (d e : Circuit) (n : Rows) (own : ℕ) (live bads : List Lit) → bads ≡ n.bads ++ live
    → IsReordering (with_bads n bads) (rows_of d) → IsTrue (is_well_formed d)
    → rows_of e ≡ with_bads (rows_of d) (take own d.bads.items) → IsTrue (list_all (λ x. is_variable e x.variable) live)
defined_still d e n own live bads same is formed kept =
    let p = λ (x : Lit). is_variable d x.variable in
    let (news, used) =
    and_parts (are_new d.inputs.items is_constant && are_new (latch_variables d) (with_variables d.inputs.items is_constant))
    (are_in_order d.gates.items (is_source d) && uses_defined (is_variable d) d) formed
    in
    let (ordered, uses) = and_parts (are_in_order d.gates.items (is_source d)) (uses_defined (is_variable d) d) used in
    let (nexts, others) =
    and_parts (list_all (λ l. is_variable d l.next.variable) d.latches.items)
    (list_all p d.bads.items && list_all p d.constraints.items) uses
    in
    let (bad, constraints) = and_parts (list_all p d.bads.items) (list_all p d.constraints.items) others in
    let both : IsTrue (list_all p (n.bads ++ live)) = subst (λ ls. IsTrue (list_all p ls)) (is.bads ∙ same) bad in
    let (own_ones, more) =
    and_parts (list_all p n.bads) (list_all p live) (subst (λ b. IsTrue b) (list_all-append p n.bads live) both)
    in
    let variables : is_variable e ≡ is_variable d = ap variables_of kept in
    subst (λ v. IsTrue (list_all (λ (x : Lit). v x.variable) live)) (sym variables) more
