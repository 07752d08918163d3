-- The links so far, and those that the rest states, are all.
use Rattle.std.proofs.Common.{◌≡◌, ◌++◌, length}
use Rattle.giputils_text.specs.Lines.{text_lines}
use Rattle.gipmc_aiger.specs.Sharing.{links_in}
use Rattle.gipmc_aiger.proofs.sharing.by_names.Given as goal

abbrev pub invariant-loop-line : goal.invariant-loop-line
invariant-loop-line l =
    l.links.items ++ links_in l.inputs l.latches (text_lines l.rest)
    ≡ links_in l.inputs l.latches (text_lines l.symbols)

abbrev pub decreases-loop-line : goal.decreases-loop-line
decreases-loop-line l = length l.rest
