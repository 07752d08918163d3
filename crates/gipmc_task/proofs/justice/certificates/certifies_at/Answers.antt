-- What the text shows of the property that is read.
use Rattle.std.proofs.Common.{length, refl}
use Rattle.std.proofs.lemmas.Option.{slice_get_read}
use Rattle.gipmc_task.proofs.justice.certificates.certifies_at.Goals as goal

pub returns-in-Certified : goal.returns-in-Certified
returns-in-Certified g c =
    let properties = c.args.problem.now.liveness.justice.items in
    let here = slice_get_read properties (length properties) c.args.place c.index.result.now refl c.requires c.index.ensures in
    let live = (rw (c.in-Certified.is, c.deref.ensures.value, c.deref-2.ensures.value) at c.in_ok-verdict.ensures) refl in
    (c.index.result.now, here, live)
