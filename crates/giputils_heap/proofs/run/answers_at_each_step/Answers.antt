use Rattle.giputils_heap.specs.Record.{start}
use Rattle.giputils_heap.proofs.Records.{answers_at_step}
use Rattle.giputils_heap.proofs.run.answers_at_each_step.Goals as goal

pub returns : goal.returns
returns g c number at_least entries answers i e found = answers_at_step number at_least start entries answers i e found
