-- One more place, and then in the other direction.
use Rattle.std.proofs.Common.{◌≡◌, ◌∙◌, [], ◌∷◌, ◌++◌, ap, arith, subst, sym}
use Rattle.std.specs.Prelude.{IsPermutation}
use Rattle.std.specs.List.{range_with_len}
use Rattle.std.proofs.lemmas.Grind.{common_steps}
use Rattle.gipmc_task.proofs.Once.{range-more}
use Rattle.gipmc_task.proofs.known.places_down.Goals as goal

pub loop-place-preserved : goal.loop-place-preserved
loop-place-preserved c =
    let place = c.loop-place.place in
    record {
      so_far = c.in_ok-push.ensures.items
          ∙ (ap (λ ks. ks ++ place ∷ []) c.loop-place.invariant.so_far ∙ sym (range-more place));
    }

pub returns : goal.returns
returns c =
    let all : c.loop-place.place ≡ c.args.count = grind (arith, common_steps) in
    subst (λ ks. IsPermutation ks c.reverse.new.self.items) (c.loop-place.invariant.so_far ∙ ap (range_with_len 0) all)
    c.reverse.ensures.permutation
