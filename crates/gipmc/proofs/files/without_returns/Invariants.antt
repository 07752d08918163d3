-- The text has the lines so far. Each shortens the rest.
use Rattle.std.proofs.Common.{◌≡◌, ◌++◌, length}
use Rattle.giputils_text.specs.Lines.{text_lines}
use Rattle.gipmc.specs.Texts.{with_feeds}
use Rattle.gipmc.proofs.files.without_returns.Given as goal

abbrev pub decreases-loop-line : goal.decreases-loop-line
decreases-loop-line l = length l.rest

abbrev pub invariant-loop-line : goal.invariant-loop-line
invariant-loop-line l = l.text.items ++ with_feeds (text_lines l.rest) ≡ with_feeds (text_lines l.bytes)
