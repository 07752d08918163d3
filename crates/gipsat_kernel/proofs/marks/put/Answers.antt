use Rattle.std.proofs.Common.{sym, arith}
use Rattle.std.proofs.lemmas.Grind.{common_steps}
use Rattle.std.proofs.lemmas.List.{set_past}
use Rattle.gipsat_kernel.proofs.marks.put.Goals as goal

pub returns-then-code-len : goal.returns-then-code-len
returns-then-code-len c = sym (set_past c.args.flags.now.items _ c.args.mark (grind (arith, common_steps)))
