-- Latches that take the lamps which the gates turn on.
use Rattle.std.proofs.Common.{[], ◌∷◌, refl, ◌∙◌}
use Rattle.std.proofs.lemmas.Bool.{and_from}
use Rattle.gipmc_builder.proofs.Built.{Extends-then, keeps_then}
use Rattle.gipmc_builder.proofs.Steps.{CanRead-one, HasInputs-built, IsMachine-steps}
use Rattle.gipmc_uses.specs.Lights.{lights_of}
use Rattle.gipmc_uses.proofs.lights.lights.Goals as goal

pub returns-in-Some : goal.returns-in-Some
returns-in-Some c =
    let is_time = c.in_ok-is_time.is_time in
    let last = c.in_ok-bad.ensures.extends in
    let held = Extends-then c.in_ok-hold.ensures.adds.extends last in
    let turned = Extends-then c.and.ensures.keeps.extends held in
    IsMachine-steps {inputs = is_time ∷ []}
    {state = λ a. lights_of a c.in_ok-bit.field-0 c.in_ok-bit-2.field-0 c.in_ok-bit-3.field-0 c.in_ok-bit-4.field-0}
    (rw c.in-Some.is at c.in_ok-netlist.ensures) c.in-Some.netlist.formed
    (HasInputs-built c.new-build.ensures c.in_ok-is_time.ensures.adds (and_from _ _ c.in_ok-is_time.ensures.positive refl)
    (c.bit-4.ensures.same ∙ c.bit-3.ensures.same ∙ c.bit-2.ensures.same ∙ c.bit.ensures.same)
    (keeps_then c.turn.ensures.keeps c.and.ensures.keeps) c.in_ok-hold.ensures.adds c.in_ok-bad.ensures)
    (CanRead-one is_time)
    (record {
      starts = λ a is first. c.in_ok-hold.ensures.starts a (last.initials a first);
      steps = λ a b is then goes.
          c.in_ok-hold.ensures.becomes a b (last.transitions a b goes)
          ∙ c.in_ok-next.ensures.turned a (turned.valuations a is);
      tells = λ a is. c.in_ok-both.ensures.gives a (held.valuations a is);
    })
