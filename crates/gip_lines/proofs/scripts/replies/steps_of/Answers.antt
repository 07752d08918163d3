-- The table of a line is the one that it leaves.
use Rattle.std.proofs.Common.{◌≡◌, ◌∙◌, ap, cond, refl, Bool, true, false, get_or, arith}
use mir.Val.{bool_byte}
use Rattle.gip_lines.specs.Scripts.Replies.{start_ranks}
use Rattle.gip_lines.specs.Scripts.Steps.{gives_ranks}
use Rattle.gip_lines.specs.declared.scripts.lines.Line.TheVariants.{Push}
use Rattle.gip_lines.proofs.Tables.{IsAtTable-inside, IsAtTable-item, IsAtTable-more, steps_from-more, added-le_one}
use Rattle.gip_lines.proofs.scripts.replies.steps_of.Given.{Over}
use Rattle.gip_lines.proofs.scripts.replies.steps_of.Goals as goal
use Rattle.gip_lines.proofs.scripts.replies.steps_of.Goals.{After-from-table}

pub loop-line-init : goal.loop-line-init
loop-line-init g c = record { steps = c.in_ok-steps.ensures.items; table = record { rest = c.requires }; few = omega arith }

one_if : (b : Bool) → bool_byte b ≡ cond b 1 0
one_if true = refl
one_if false = refl

-- a line moves the place by one where it gives ranks
added : (g : Over) (c : After-from-table g)
    → c.from-table.result ≡ cond (gives_ranks (get_or c.args.lines.now c.loop-line.line-index (Push 0))) 1 0
added g c = c.from-table.ensures ∙ one_if c.gives_ranks.result ∙ ap (λ b. cond b 1 0) c.gives_ranks.ensures

pub bounds-tables-table : goal.bounds-tables-table
bounds-tables-table g c =
    IsAtTable-inside _ _ _ _
    (IsAtTable-more c.args.lines.now c.loop-line.line-index (Push 0) c.loop-line-test.true c.args.tables.now c.loop-line.table
    c.from-table.result start_ranks (added g (goal.at.bounds-tables-table g c).After-from-table) c.loop-line.invariant.table)

pub loop-line-preserved : goal.loop-line-preserved
loop-line-preserved g c =
    let lines = c.args.lines.now in
    let i = c.loop-line.line-index in
    let inside = c.loop-line-test.true in
    let before = c.loop-line.invariant in
    let moved = added g (goal.at.loop-line-preserved g c).After-from-table in
    let at =
    IsAtTable-more lines i (Push 0) inside c.args.tables.now c.loop-line.table c.from-table.result start_ranks moved before.table
    in
    let call = c.new.ensures.call ∙ c.heap_call.ensures in
    let comparer = c.new.ensures.comparer ∙ IsAtTable-item c.args.tables.now _ _ _ _ at in
    record {
      steps = rw c.in_ok-push.ensures.items
          (steps_from-more lines i (Push 0) inside start_ranks c.loop-line.steps.items c.new.result before.steps call comparer c.new.ensures.zero);
      table = at;
      few = omega (arith, added-le_one c.from-table.result _ moved, before.few);
    }
