-- One more literal is looked at. Where what is known of it and of those before is that they are safe, each of them is.
use Rattle.std.proofs.Common.{◌≡◌, ◌∙◌, ⊎_elim, ◌⊎◌, ◌<◌, ◌≤◌, length, slice_get, Some, arith, subst, sym}
use Rattle.std.proofs.lemmas.Grind.{common_steps}
use Rattle.std.proofs.lemmas.Option.{slice_get_within}
use Rattle.gipsat_cnf.specs.Literals.{Lit}
use Rattle.gipmc_task.specs.Answers.{IsKnown}
use Rattle.gipmc_task.specs.declared.any.Placed.{Placed}
use Rattle.gipmc_task.proofs.ForAll.{safe-first, safe-more}
use Rattle.gipmc_task.proofs.any.find_any.Goals as goal

-- what holds of both holds of the one that is taken
of_either : (P : Placed → Type 0) (one other taken : Placed) → (taken ≡ one) ⊎ (taken ≡ other) → P one → P other → P taken
of_either P one other taken is first second =
    ⊎_elim (λ same. subst P (sym same) first) (λ same. subst P (sym same) second) is

pub loop-place-init : goal.loop-place-init
loop-place-init g c =
    let query = c.args.query.now in
    let found = c.find_at-found in
    record {
      whole = found.ensures.whole;
      bads = found.ensures.bads;
      within = subst (λ p. p < length query.bads.now) (sym found.ensures.place) c.requires;
      right = found.ensures.right;
      safe = safe-first query.whole.now.circuit query.bads.now found.result.known
          (subst
          (λ p. (b : Lit) → slice_get query.bads.now p ≡ Some b → IsKnown query.whole.now.circuit b found.result.known)
          found.ensures.place found.ensures.right);
    }

pub loop-place-preserved : goal.loop-place-preserved
loop-place-preserved g c =
    let query = c.args.query.now in
    let so_far = c.loop-place.invariant in
    let next = c.find_at-next in
    let taken = c.less_known-found in
    let less : c.loop-place.place < length query.bads.now = grind (arith, common_steps) in
    let right : (b : Lit) → slice_get query.bads.now next.result.place ≡ Some b
    → IsKnown query.whole.now.circuit b next.result.known = λ b here.
    subst (λ w. IsKnown w.now.circuit b next.result.known) so_far.whole
    (next.ensures.right b (subst (λ bs. slice_get bs.now next.result.place ≡ Some b) (sym so_far.bads) here)) in
    record {
      whole = next.ensures.whole ∙ so_far.whole;
      bads = next.ensures.bads ∙ so_far.bads;
      within = of_either (λ f. f.place < length query.bads.now) c.loop-place.found next.result taken.result
          taken.ensures.either so_far.within (subst (λ p. p < length query.bads.now) (sym next.ensures.place) less);
      right = of_either
          (λ f. (b : Lit) → slice_get query.bads.now f.place ≡ Some b → IsKnown query.whole.now.circuit b f.known)
          c.loop-place.found next.result taken.result taken.ensures.either so_far.right right;
      safe = λ is. safe-more query.whole.now.circuit query.bads.now c.loop-place.place next.result.known
          (so_far.safe (taken.ensures.found is))
          (subst
          (λ p. (b : Lit) → slice_get query.bads.now p ≡ Some b → IsKnown query.whole.now.circuit b next.result.known)
          next.ensures.place right)
          (taken.ensures.next is);
    }

pub returns-clause-safe : goal.returns-clause-safe
returns-clause-safe g c is k bad here =
    let query = c.args.query.now in
    let past : length query.bads.now ≤ c.loop-place.place = grind (arith, common_steps) in
    let within : k < length query.bads.now = slice_get_within query.bads.now k bad here in
    c.loop-place.invariant.safe is k bad (omega (arith, past, within)) here
