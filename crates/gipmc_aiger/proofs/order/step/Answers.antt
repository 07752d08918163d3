-- The gate that waited last is done.
use Rattle.std.proofs.Common.{sym, subst, ◌∙◌}
use Rattle.gipmc_aiger.specs.Defects.{IsStack}
use Rattle.gipmc_aiger.proofs.Stacks.{closed, passed}
use Rattle.gipmc_aiger.proofs.order.step.Goals as goal

pub returns-in-Open-clause-ok : goal.returns-in-Open-clause-ok
returns-in-Open-clause-ok c =
    subst (λ vs. IsStack c.args.gates.now vs c.args.waiting.now.items) (sym c.note.ensures)
    (closed c.args.gates.now c.args.visits.now c.args.waiting.now.items c.args.place c.requires c.args.done)

pub returns-in-Done-clause-ok : goal.returns-in-Done-clause-ok
returns-in-Done-clause-ok c =
    passed c.args.gates.now c.args.visits.now c.args.waiting.now.items c.args.place c.requires c.in-Done.field-0
    (sym c.visit_at.ensures ∙ c.in-Done.is)
