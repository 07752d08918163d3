-- Runs of calls on an allocator.
use Rattle.std.specs.Prelude.{Bool, List, [], ◌∷◌, ◌++◌}
use Rattle.std.proofs.Common.{ap, subst}
use Rattle.giputils_index.specs.declared.allocator.run.GallocCall.{GallocCall}
use Rattle.giputils_index.specs.declared.allocator.run.GallocReply.{GallocReply}
use Rattle.giputils_index.specs.AllocatorRun.{IsAnswer, slots_after, Answers}

-- one more call
pub Answers-push : {T A : Type 0} (start : List (T × Bool)) (calls : List (GallocCall T)) (replies : List (GallocReply T A)) (end : List (T × Bool)) (call : GallocCall T) (reply : GallocReply T A)
    → Answers start calls replies end → IsAnswer end call reply → Answers start (calls ++ call ∷ []) (replies ++ reply ∷ []) (slots_after end call reply)
Answers-push start [] [] end call reply run answer = (subst (λ slots. IsAnswer slots call reply) run answer, ap (λ slots. slots_after slots call reply) run)
Answers-push start [] (r ∷ rs) end call reply run answer = absurd run
Answers-push start (c ∷ cs) [] end call reply run answer = absurd run
Answers-push start (c ∷ cs) (r ∷ rs) end call reply run answer = (run.0, Answers-push (slots_after start c r) cs rs end call reply run.1 answer)
