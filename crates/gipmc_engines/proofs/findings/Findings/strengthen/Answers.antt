-- The clauses of two invariants are one, which excludes what one of them does.
use Rattle.std.proofs.Common.{◌++◌}
use Rattle.gipmc_circuits.specs.Certificate.{IsInductive, IsInitiated}
use Rattle.gipmc_engines.specs.Findings.{AreRight}
use Rattle.gipmc_engines.proofs.AreRight.{AreRight-stronger, either, IsInductive-both, IsInitiated-both}
use Rattle.gipmc_engines.proofs.findings.Findings.strengthen.Goals as goal

pub invariant_of-self-clause-initiated : goal.invariant_of-self-clause-initiated
invariant_of-self-clause-initiated c =
    let now = c.args.self.now in
    let circuit = now.netlist.now.circuit in
    let i = now.invariant.items in
    let j = c.args.clauses.items in
    rw (c.append.ensures.items)
    (either (λ x. IsInitiated circuit x) _ (i ++ j) i (IsInitiated-both circuit i j now.initiated c.requires.initiated) now.initiated)

pub invariant_of-self-clause-inductive : goal.invariant_of-self-clause-inductive
invariant_of-self-clause-inductive c =
    let now = c.args.self.now in
    let circuit = now.netlist.now.circuit in
    let i = now.invariant.items in
    let j = c.args.clauses.items in
    rw (c.append.ensures.items)
    (either (λ x. IsInductive circuit x) _ (i ++ j) i (IsInductive-both circuit i j now.inductive c.requires.inductive) now.inductive)

pub invariant_of-self-clause-right : goal.invariant_of-self-clause-right
invariant_of-self-clause-right c =
    let now = c.args.self.now in
    let circuit = now.netlist.now.circuit in
    let i = now.invariant.items in
    let j = c.args.clauses.items in
    rw (c.append.ensures.items)
    (either (λ x. AreRight circuit x now.bads.now now.each.items) _ (i ++ j) i
    (AreRight-stronger circuit i j now.bads.now now.each.items now.right) now.right)
