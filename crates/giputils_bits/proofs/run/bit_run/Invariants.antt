-- The calls so far were answered so, and there is room for the other replies.
use Rattle.std.proofs.Common.{◌≡◌, ◌≤◌, length, [], take}
use Rattle.giputils_bits.specs.BitRun.{Answers}
use Rattle.giputils_bits.proofs.run.bit_run.Given as goal

abbrev pub invariant-loop-call : goal.invariant-loop-call
invariant-loop-call g l = record {
  answers : Answers [] (take l.call-index l.calls) l.replies.items l.bits;
  len : l.replies.len ≡ l.call-index;
  room : length l.calls ≤ l.replies.cap;
}
