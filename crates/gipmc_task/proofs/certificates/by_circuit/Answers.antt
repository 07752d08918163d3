-- A circuit that certifies says that the circuit is safe as to the literal that is read.
use Rattle.std.proofs.Common.{length, refl}
use Rattle.std.proofs.lemmas.Option.{slice_get_read}
use Rattle.gipmc_task.proofs.certificates.by_circuit.Goals as goal

pub returns-in-Certified : goal.returns-in-Certified
returns-in-Certified g c =
    let bads = c.args.netlist.now.circuit.bads.items in
    let here = slice_get_read bads (length bads) c.args.place c.index.result.now refl c.requires c.index.ensures in
    let said = c.in_ok-said.ensures in
    let certified = (rw (c.in-Some.is, c.in-Certified.is) at said.certified) refl in
    let safe = (rw (c.in-Some.is, c.in-Certified.is) at said.safe) refl in
    (c.index.result.now, here, (certified, safe))
