use Rattle.std.proofs.Common.{[]}
use Rattle.giputils_heap.proofs.CallBounds.{keeps_count_at_step}
use Rattle.giputils_heap.proofs.run.keeps_counts_at_each_step.Goals as goal

pub returns : goal.returns
returns g c number entries keeps i e found = keeps_count_at_step number [] entries keeps i e found
