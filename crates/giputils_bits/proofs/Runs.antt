-- Runs of calls on a bit vector.
use Rattle.std.specs.Prelude.{Bool, List, [], ◌∷◌, ◌++◌}
use Rattle.std.proofs.Common.{ap, subst}
use Rattle.giputils_bits.specs.declared.run.BitCall.{BitCall}
use Rattle.giputils_bits.specs.declared.run.BitReply.{BitReply}
use Rattle.giputils_bits.specs.BitRun.{IsAnswer, bits_after, Answers}

-- one more call
pub Answers-push : {A : Type 0} (start : List Bool) (calls : List (BitCall A)) (replies : List BitReply) (end : List Bool) (call : BitCall A) (reply : BitReply)
    → Answers start calls replies end → IsAnswer end call reply → Answers start (calls ++ call ∷ []) (replies ++ reply ∷ []) (bits_after end call reply)
Answers-push start [] [] end call reply run answer = (subst (λ bits. IsAnswer bits call reply) run answer, ap (λ bits. bits_after bits call reply) run)
Answers-push start [] (r ∷ rs) end call reply run answer = absurd run
Answers-push start (c ∷ cs) [] end call reply run answer = absurd run
Answers-push start (c ∷ cs) (r ∷ rs) end call reply run answer = (run.0, Answers-push (bits_after start c r) cs rs end call reply run.1 answer)
