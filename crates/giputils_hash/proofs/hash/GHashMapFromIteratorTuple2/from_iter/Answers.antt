-- The map inside was made of the pairs that the iterator gave, inserted in turn.
use Rattle.std.proofs.Common.{◌∙◌}
use Rattle.giputils_hash.proofs.LastValues.{update_all-last_value}
use Rattle.giputils_hash.proofs.hash.GHashMapFromIteratorTuple2.from_iter.Goals as goal

pub returns : goal.returns
returns g c =
    let ran = c.in_ok-from_iter.ensures.ran in
    record { ran = (ran.0, ran.1, ran.2, ran.3, (λ k. ran.4.0 k ∙ update_all-last_value _ ran.1 k, ran.4.1)) }
