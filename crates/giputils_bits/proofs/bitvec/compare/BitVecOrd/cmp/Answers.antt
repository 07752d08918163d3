use Rattle.std.proofs.Common.{◌∙◌, length, ap}
use Rattle.std.specs.Ordering.{nat_cmp}
use Rattle.giputils_bits.proofs.Ordered.{decided_greater, decided_less, not_decided}
use Rattle.giputils_bits.proofs.bitvec.compare.BitVecOrd.cmp.Goals as goal

pub returns-in-Some-true : goal.returns-in-Some-true
returns-in-Some-true g c =
    decided_greater _ _ _ _ _ _ c.self.view_is c.other.view_is c.self.invariant c.other.invariant c.in-Some-true.field-0 c.in-Some-true.field-0-test
    (rw (c.as_slice.ensures, c.as_slice-2.ensures) at c.in-Some-true.ensures)

pub returns-in-Some-false : goal.returns-in-Some-false
returns-in-Some-false g c =
    decided_less _ _ _ _ _ _ c.self.view_is c.other.view_is c.self.invariant c.other.invariant c.in-Some-false.field-0 c.in-Some-false.field-0-test
    (rw (c.as_slice.ensures, c.as_slice-2.ensures) at c.in-Some-false.ensures)

pub returns-in-None : goal.returns-in-None
returns-in-None g c =
    c.cmp.ensures ∙ ap (λ n. nat_cmp n c.len-in-None.result) c.len.ensures ∙ ap (nat_cmp (length c.args.self.now)) c.len-in-None.ensures
    ∙ not_decided _ _ _ _ _ _ c.self.view_is c.other.view_is c.self.invariant c.other.invariant (rw (c.as_slice.ensures, c.as_slice-2.ensures) at c.in-None.ensures)
