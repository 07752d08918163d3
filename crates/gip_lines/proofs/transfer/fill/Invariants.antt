-- What has been filled is what the reader has lost.
use Rattle.std.proofs.Common.{◌≡◌, ◌≤◌, ◌-◌, length, take, false}
use Rattle.std.specs.Io.KnownBytes.{Consumes}
use Rattle.gip_lines.proofs.transfer.fill.Given as goal

abbrev pub invariant-loop-filled : goal.invariant-loop-filled
invariant-loop-filled g l = record {
  same_len : length l.buf ≡ length l.initial.buf;
  within : l.filled ≤ length l.buf;
  bytes : Consumes (g.R.Read.remaining l.initial.reader.device) (g.R.Read.remaining l.reader.device) (take l.filled l.buf);
  works : l.reader.has_failed ≡ false;
}

abbrev pub decreases-loop-filled : goal.decreases-loop-filled
decreases-loop-filled g l = length l.initial.buf - l.filled
