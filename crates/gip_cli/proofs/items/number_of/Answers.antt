-- The number that was read, or none.
use Rattle.std.proofs.Common.{ℕ, Ok, Err}
use Rattle.giputils_text.proofs.NumberLemmas.{number_of-read}
use Rattle.gip_cli.proofs.items.number_of.Goals as goal

pub returns-in-Ok : goal.returns-in-Ok
returns-in-Ok c = number_of-read {E = ℕ} c.args.word.now (Ok c.in-Ok.number) c.in-Ok.ensures.value.0

pub returns-in-Err : goal.returns-in-Err
returns-in-Err c = number_of-read {E = ℕ} c.args.word.now (Err 0) c.in-Err.ensures.value.0
