-- The circuit after the merges, with the invariant that shows them, is a sweep.
use Rattle.std.proofs.Common.{◌≡◌, sym, subst}
use Rattle.gipmc_reduce.specs.Correspondence.{IsMergedOf}
use Rattle.gipmc_reduce.proofs.correspondence.Correspondence.with.Goals as goal

pub returns-in-Some-clause-swept : goal.returns-in-Some-clause-swept
returns-in-Some-clause-swept c =
    let same : c.in-Some.netlist.circuit ≡ c.in_ok-circuit.circuit = rw (c.in-Some.is) at c.in_ok-netlist.ensures in
    record {
      smaller = subst (λ k. IsMergedOf c.args.merges.literals.items k c.args.whole.now.circuit) (sym same) c.in_ok-circuit.ensures.smaller;
      implied = c.requires.implied;
      initiated = c.requires.initiated;
      inductive = c.requires.inductive;
    }
