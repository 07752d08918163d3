-- The first line against a task is the one against its form.
use Rattle.gip_lines.proofs.task.Task.run.Goals as goal

pub returns-in-Script-clause-line : goal.returns-in-Script-clause-line
returns-in-Script-clause-line g c = rw c.in-Script.is c.script.ensures.line

pub returns-in-Bits-clause-line : goal.returns-in-Bits-clause-line
returns-in-Bits-clause-line g c = rw c.in-Bits.is c.bits.ensures.line
