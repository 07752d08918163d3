-- Two latches that take what the gates grant.
use Rattle.std.proofs.Common.{[], ◌∷◌, refl, ◌∙◌}
use Rattle.std.proofs.lemmas.Bool.{and_from}
use Rattle.gipmc_builder.proofs.Built.{Extends-then, adds_inputs_then, keeps_then}
use Rattle.gipmc_builder.proofs.Steps.{CanRead-two, HasInputs-built, IsMachine-steps}
use Rattle.gipmc_uses.specs.Arbiter.{grants_of}
use Rattle.gipmc_uses.proofs.arbiter.arbiter.Goals as goal

pub returns-in-Some : goal.returns-in-Some
returns-in-Some c =
    let asks = c.in_ok-asks.asks in
    let other_asks = c.in_ok-other_asks.other_asks in
    let last = c.in_ok-bad.ensures.extends in
    let held = Extends-then c.in_ok-hold.ensures.adds.extends last in
    let granted = Extends-then c.and.ensures.keeps.extends held in
    IsMachine-steps {inputs = asks ∷ other_asks ∷ []}
    {state = λ a. grants_of a (c.in_ok-has.has, c.in_ok-other_has.other_has)}
    (rw c.in-Some.is at c.in_ok-netlist.ensures) c.in-Some.netlist.formed
    (HasInputs-built c.new-build.ensures
    (adds_inputs_then (asks ∷ []) other_asks c.in_ok-asks.ensures.adds c.in_ok-other_asks.ensures.adds)
    (and_from _ _ c.in_ok-asks.ensures.positive (and_from _ _ c.in_ok-other_asks.ensures.positive refl))
    (c.bit-2.ensures.same ∙ c.bit.ensures.same) (keeps_then c.grants.ensures.keeps c.and.ensures.keeps)
    c.in_ok-hold.ensures.adds c.in_ok-bad.ensures)
    (CanRead-two asks other_asks)
    (record {
      starts = λ a is first. c.in_ok-hold.ensures.starts a (last.initials a first);
      steps = λ a b is then goes.
          c.in_ok-hold.ensures.becomes a b (last.transitions a b goes)
          ∙ c.in_ok-next.ensures.next a (granted.valuations a is);
      tells = λ a is. c.in_ok-both.ensures.gives a (held.valuations a is);
    })
