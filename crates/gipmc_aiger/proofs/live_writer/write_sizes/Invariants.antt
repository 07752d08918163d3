-- What was written, and what is left to write, are the lines.
use Rattle.std.proofs.Common.{◌≡◌, ◌++◌, drop, map}
use Rattle.gipmc_aiger.specs.LiveTexts.{size_lines}
use Rattle.gipmc_aiger.proofs.live_writer.write_sizes.Given as goal

abbrev pub invariant-loop-property : goal.invariant-loop-property
invariant-loop-property l =
    l.fn.text.items ++ size_lines (map (λ property. property.items) l.fn.justice)
    ≡ l.text.items ++ size_lines (map (λ property. property.items) (drop l.property-index l.fn.justice))
