use Rattle.std.proofs.Common.{sym, ap, ◌∙◌, ◌++◌, ◌∷◌, []}
use Rattle.gipsat_cnf.proofs.Retaining.{retained-goes, retained-nil, retained-stays}
use Rattle.gipsat_cnf.proofs.cnf.Cnf.kept.Goals as goal

pub loop-place-init : goal.loop-place-init
loop-place-init c = c.in_ok-kept.ensures ∙ sym (retained-nil c.args.stays.now)

pub loop-place-preserved-then-not-stays_at : goal.loop-place-preserved-then-not-stays_at
loop-place-preserved-then-not-stays_at c =
    c.loop-place.invariant
    ∙ sym (retained-goes c.args.stays.now c.args.self.now c.loop-place.place (sym c.stays_at.ensures ∙ c.if-not-stays_at.true))

pub loop-place-preserved : goal.loop-place-preserved
loop-place-preserved c =
    c.in_ok-push.ensures.added ∙ ap (λ kept. kept ++ c.clause.result.now ∷ []) c.loop-place.invariant
    ∙ sym (retained-stays c.args.stays.now c.args.self.now c.loop-place.place c.clause.result.now c.clause.ensures (sym c.stays_at.ensures ∙ c.if-not-stays_at.false))
