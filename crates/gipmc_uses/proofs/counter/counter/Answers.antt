-- One register that takes what the gates count.
use Rattle.std.proofs.Common.{[], ◌∷◌, refl}
use Rattle.std.proofs.lemmas.Bool.{and_from}
use Rattle.gipmc_builder.proofs.Steps.{CanRead-one, IsMachine-register}
use Rattle.gipmc_uses.proofs.counter.counter.Goals as goal

pub returns-in-Some : goal.returns-in-Some
returns-in-Some c =
    IsMachine-register {inputs = c.in_ok-enable.enable ∷ []} c.in_ok-count.count.items c.in_ok-next.next.items 0 c.new-build.ensures
    c.in_ok-enable.ensures.adds (and_from _ _ c.in_ok-enable.ensures.positive refl) c.bits.ensures.same c.count_on.ensures.keeps
    (rw c.deref.ensures.value at c.in_ok-next.ensures.next) (rw c.deref.ensures.value at c.in_ok-next.ensures.three)
    c.in_ok-register.ensures.adds (rw c.deref-2.ensures.value at c.in_ok-register.ensures.starts)
    (rw c.in_ok-count.ensures.width refl)
    (rw (c.deref-2.ensures.value, c.deref-3.ensures.value) at c.in_ok-register.ensures.takes) c.in_ok-bad.ensures
    (rw c.in-Some.is at c.in_ok-netlist.ensures) c.in-Some.netlist.formed (CanRead-one c.in_ok-enable.enable)
