-- No values tell the sum from the one that is proved.
use Rattle.std.proofs.Common.{◌≡◌, refl, ◌∙◌}
use Rattle.gipmc_uses.proofs.SameSums.{adds_too}
use Rattle.gipmc_uses.proofs.adders.majority_adder.Goals as goal

pub returns-in-Certified : goal.returns-in-Certified
returns-in-Certified g c =
    adds_too c.add.new.self.circuit c.are_same.new.self.circuit c.in-Some.netlist.circuit _ c.in_ok-left.left.items
    c.in_ok-right.right.items c.in_ok-sum.sum.items c.in_ok-wanted.wanted.items c.in_ok-same.same c.negated.result
    (rw (c.deref-3.ensures.value, c.deref-4.ensures.value) at c.in_ok-wanted.ensures.gives) c.are_same.ensures.keeps
    (rw (c.deref-5.ensures.value, c.deref-6.ensures.value) at c.in_ok-same.ensures.gives)
    (rw c.in-Some.is at c.in_ok-netlist.ensures)
    (c.are_same.ensures.keeps.constraints ∙ c.add.ensures.keeps.constraints ∙ c.add_by_majorities.ensures.constraints
    ∙ c.in_ok-right.ensures.adds.constraints ∙ c.in_ok-left.ensures.adds.constraints ∙ c.new-build.ensures.constraints)
    (c.deref-7.ensures.value ∙ c.new-clauses.ensures.items) c.negated.ensures ((rw c.in-Certified.is at c.in_ok-verdict.ensures.excluded) refl)
