-- The value at the variable's place becomes true.
use Rattle.std.proofs.Common.{◌<◌, length, arith, ap, ◌∙◌}
use Rattle.std.proofs.lemmas.Grind.{common_steps}
use Rattle.gipmc_circuits.specs.WellFormed.{with_variable}
use Rattle.gipmc_circuits.proofs.Defined.{defined_set}
use Rattle.gipmc_circuits.proofs.well_formed.define.Goals as goal

pub returns : goal.returns
returns c =
    let within : c.args.variable < length c.grow.new.defined.items = grind (arith, common_steps) in
    defined_set c.grow.new.defined.items c.args.variable within ∙ ap (with_variable c.args.variable) c.in_ok-grow.ensures.same
