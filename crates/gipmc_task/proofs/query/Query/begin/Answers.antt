-- The search in what is left is about the circuit and its literals.
use Rattle.std.proofs.Common.{◌≡◌, ◌∙◌, ap, subst}
use Rattle.gipsat_cnf.proofs.Places.{same_some}
use Rattle.gipmc_task.proofs.query.Query.begin.Goals as goal

pub invariant_of-self-in-Ok : goal.invariant_of-self-in-Ok
invariant_of-self-in-Ok g c =
    let now = c.args.self.now in
    record {
      same = now.same;
      same_bads = now.same_bads;
      about = λ x is. subst (λ p. p.whole.now ≡ now.whole.now) (same_some _ x is)
          (ap (λ r. r.now) c.in-Ok.ensures.whole ∙ now.same);
      about_bads = λ x is. subst (λ p. p.bads.now ≡ now.bads.now) (same_some _ x is)
          (ap (λ r. r.now) c.in-Ok.ensures.bads ∙ now.same_bads);
    }
