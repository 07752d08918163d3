-- The literal stands for the bad one, and what is shown of it is right.
use Rattle.std.proofs.Common.{get_or}
use Rattle.std.proofs.lemmas.Option.{slice_get-get_or}
use Rattle.gipmc_task.proofs.parted.Parted.carried.Goals as goal

pub on_whole-requires-clause-stands : goal.on_whole-requires-clause-stands
on_whole-requires-clause-stands g c =
    let now = c.args.self.now in
    let owns = now.joint.findings.bads.now in
    let own = c.index-self-at-2.result in
    let bad = c.index-self-at.result in
    now.stand.each c.args.at (get_or owns c.args.at own) (get_or now.bads.now c.args.at bad)
    (slice_get-get_or owns c.args.at own c.requires.own) (slice_get-get_or now.bads.now c.args.at bad c.requires.within)

pub on_whole-requires-clause-right : goal.on_whole-requires-clause-right
on_whole-requires-clause-right g c =
    let owns = c.args.self.now.joint.findings.bads.now in
    let own = c.index-self-at-2.result in
    c.in_ok-is_shown.ensures c.if-branch.true (get_or owns c.args.at own) c.at-finding.result.now
    (slice_get-get_or owns c.args.at own c.requires.own) c.at-finding.ensures
