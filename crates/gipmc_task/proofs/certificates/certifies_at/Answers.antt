-- The one literal that is asked about.
use Rattle.std.proofs.Common.{length, refl}
use Rattle.std.proofs.lemmas.Option.{slice_get_read}
use Rattle.std.proofs.lemmas.Result.{IfOk-weaker}
use Rattle.gipsat_cnf.proofs.Places.{IfNone-more}
use Rattle.gipmc_task.proofs.Shown.{ShowsSafeAt-one}
use Rattle.gipmc_task.specs.declared.certificates.Certificate.TheVariants as certificate
use Rattle.gipmc_task.proofs.certificates.certifies_at.Goals as goal

pub returns-in-Clauses : goal.returns-in-Clauses
returns-in-Clauses g c =
    let bads = c.args.netlist.now.circuit.bads.items in
    let here = slice_get_read bads (length bads) c.args.place c.index-bad.result.now refl c.requires c.index-bad.ensures in
    rw (c.in-Clauses.is)
    (IfOk-weaker c.by_clauses.result _ _
    (λ doubt. IfNone-more doubt
    (ShowsSafeAt-one c.args.netlist.now.circuit (certificate.Clauses c.in-Clauses.clauses) c.args.place c.index-bad.result.now here))
    c.by_clauses.ensures)

pub returns-in-Induction : goal.returns-in-Induction
returns-in-Induction g c =
    let bads = c.args.netlist.now.circuit.bads.items in
    let here = slice_get_read bads (length bads) c.args.place c.index-bad-in-Induction.result.now refl c.requires
    c.index-bad-in-Induction.ensures in
    rw (c.in-Induction.is)
    (IfOk-weaker c.by_induction.result _ _
    (λ doubt. IfNone-more doubt
    (ShowsSafeAt-one c.args.netlist.now.circuit (certificate.Induction c.in-Induction.k c.in-Induction.clauses) c.args.place
    c.index-bad-in-Induction.result.now here))
    c.by_induction.ensures)
