-- The definition at the variable's place.
use Rattle.std.proofs.Common.{◌<◌, length, arith, sym, ap, ◌∙◌}
use Rattle.std.proofs.lemmas.Grind.{common_steps}
use Rattle.gipmc_circuits.specs.WellFormed.{with_variable}
use Rattle.gipmc_aiger.specs.Defects.{defined_in}
use Rattle.gipmc_aiger.proofs.Tables.{defined_set, twice_here}
use Rattle.gipmc_aiger.proofs.order.define.Goals as goal

pub returns-then-is_some-clause-defect : goal.returns-then-is_some-clause-defect
returns-then-is_some-clause-defect c =
    let within : c.args.variable < length c.grow.new.definitions.items = grind (arith, common_steps) in
    twice_here c.grow.new.definitions.items (defined_in c.args.definitions.now.items) c.args.variable c.index.result.now
    within c.index.ensures (sym c.is_some.ensures ∙ c.if-is_some.true) c.in_ok-grow.ensures.same

pub returns-clause-ok : goal.returns-clause-ok
returns-clause-ok c =
    let within : c.args.variable < length c.grow.new.definitions.items = grind (arith, common_steps) in
    defined_set c.grow.new.definitions.items c.args.variable c.args.by within
    ∙ ap (with_variable c.args.variable) c.in_ok-grow.ensures.same
