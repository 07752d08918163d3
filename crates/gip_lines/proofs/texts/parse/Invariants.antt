-- The lines so far have the form, and the rest of the text follows them.
use Rattle.std.proofs.Common.{◌≡◌, ◌+◌, ◌≤◌, ◌++◌, length, map, vec_len, Some}
use Rattle.gip_lines.specs.Texts.{readings}
use Rattle.gip_lines.proofs.texts.parse.Given as goal

abbrev pub invariant-loop-line : goal.invariant-loop-line
invariant-loop-line g l = record {
  read : readings g.L.Said.form l.text ≡ map Some l.lines.items ++ readings g.L.Said.form l.rest;
  room : vec_len l.lines + length l.rest ≤ length l.text;
}

abbrev pub decreases-loop-line : goal.decreases-loop-line
decreases-loop-line g l = length l.rest
