-- Digits that are 0, and then those of the number.
use Rattle.std.proofs.Common.{rules, ◌≡◌, ◌++◌, false, replicate, ap, ◌∙◌}
use Rattle.gipmc_builder.specs.Build.{constant, number_of}
use Rattle.gipmc_builder.proofs.Shifts.{shifted_left}
use Rattle.gipmc_builder.proofs.build.Builder.shift_left.Goals as goal

pub returns : goal.returns
returns c = λ a none.
    let items : c.extend_from_slice.new.self.items ≡ replicate c.args.places (constant false) ++ c.args.bits.now = search rules in
    ap (number_of a) items ∙ shifted_left c.args.bits.now c.args.places a none
