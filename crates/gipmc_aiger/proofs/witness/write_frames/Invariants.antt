-- What was written, and what is left to write, are the lines.
use Rattle.std.proofs.Common.{◌≡◌, ◌++◌, drop}
use Rattle.gipmc_aiger.specs.Witnesses.{frames_lines}
use Rattle.gipmc_aiger.proofs.witness.write_frames.Given as goal

abbrev pub invariant-loop-frame : goal.invariant-loop-frame
invariant-loop-frame l =
    l.fn.text.items ++ frames_lines l.fn.frames
    ≡ l.text.items ++ frames_lines (drop l.frame-index l.fn.frames)
