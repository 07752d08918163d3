-- That a literal fails is a right finding, since a trace is replayed before it is answered.
use Rattle.std.proofs.Common.{◌<◌, get_or, length}
use Rattle.std.proofs.lemmas.Option.{slice_get-get_or}
use Rattle.gipmc_engines.proofs.AreRight.{AreRight-set, right_length}
use Rattle.gipmc_task.proofs.parted.leave_out_at.Goals as goal

pub invariant_of-findings-clause-count : goal.invariant_of-findings-clause-count
invariant_of-findings-clause-count c =
    let now = c.args.findings.now in
    right_length now.each.items c.args.at _ _ now.count

pub invariant_of-findings-clause-right : goal.invariant_of-findings-clause-right
invariant_of-findings-clause-right c =
    let now = c.args.findings.now in
    let bad = c.index-findings-at.result in
    let within : c.args.at < length now.bads.now = search in
    AreRight-set now.netlist.now.circuit now.invariant.items now.bads.now now.each.items c.args.at (get_or now.bads.now c.args.at bad) _
    now.right (slice_get-get_or now.bads.now c.args.at bad within) (record { safe = λ is. cc; inductive = λ k is. cc; clear = λ n is. cc })
