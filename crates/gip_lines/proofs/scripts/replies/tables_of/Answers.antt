-- Each line that gives ranks adds a table.
use Rattle.std.proofs.Common.{◌≡◌, rules, sym, ap, ◌∙◌, take, ◌+◌, get_or}
use Rattle.gip_lines.specs.Scripts.Replies.{start_ranks, ranks_after}
use Rattle.gip_lines.specs.declared.scripts.lines.Line.TheVariants.{Push}
use Rattle.gip_lines.proofs.Tables.{ranks_from, ranks_from-more, tables_from-gives, tables_from-other}
use Rattle.gip_lines.proofs.scripts.replies.tables_of.Goals as goal
use Rattle.gip_lines.proofs.scripts.replies.tables_of.Goals.{then-gives_ranks+in_ok-push-2, else-gives_ranks}

pub loop-line-init : goal.loop-line-init
loop-line-init g c = record { tables = search rules; ranks = search rules }

pub loop-line-preserved : goal.loop-line-preserved
loop-line-preserved g c =
    let lines = c.args.lines.now in
    let i = c.loop-line.line-index in
    let inside = c.loop-line-test.true in
    let before = c.loop-line.invariant in
    let ranks : c.ranks_after-left.result ≡ ranks_from start_ranks (take (i + 1) lines) =
    c.ranks_after-left.ensures ∙ ap (ranks_after (get_or lines i (Push 0))) before.ranks ∙ sym (ranks_from-more lines i (Push 0) inside start_ranks)
    in
    elim c.if-gives_ranks.branch [
      | then-gives_ranks+in_ok-push-2 w ↦
          let gives = sym c.gives_ranks.ensures ∙ w.if-gives_ranks.true in
          let tables = tables_from-gives lines i (Push 0) inside start_ranks record { 0 = start_ranks } c.loop-line.tables.items before.tables gives in
          record { tables = rw (w.tables-is, w.in_ok-push-2.ensures.items, ranks) tables; ranks = ranks }
      | else-gives_ranks w ↦
          let other = sym c.gives_ranks.ensures ∙ w.if-gives_ranks.false in
          let tables = tables_from-other lines i (Push 0) inside start_ranks record { 0 = start_ranks } c.loop-line.tables.items before.tables other in
          record { tables = rw w.tables-is tables; ranks = ranks }
    ]
