-- What is left comes of the whole circuit.
use Rattle.std.proofs.Common.{◌++◌, ap, ◌∙◌}
use Rattle.gipmc_reduce.proofs.correspondence.merged.merged_circuit.Goals as goal

pub returns-clause-smaller : goal.returns-clause-smaller
returns-clause-smaller c = record {
  inputs = c.in_ok-extend_from_slice.ensures.items
      ∙ ap (λ xs. xs ++ c.deref-2.result.now) c.new-inputs.ensures.items ∙ c.deref-2.ensures.value;
  gates = rw (c.deref-4.ensures.value) at c.in_ok-gates.ensures;
  latches = rw (c.deref-3.ensures.value) at c.in_ok-latches.ensures;
  constraints = rw (c.deref.ensures.value) at c.in_ok-constraints.ensures;
}
