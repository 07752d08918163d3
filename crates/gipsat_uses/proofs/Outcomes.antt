-- What is known of an outcome that is handed on.
--
-- How it is proved: std has `IfOk-weaker`, `on_ok_weaker`, `IfSome_then`, and for `if b then Some x else None`
-- `if_some` and `if_none`.
use Rattle.std.proofs.Common.{Result, Ok, Err}
use Rattle.std.specs.Prelude.{Option, Some, None, IfNone, IfSome}
use Rattle.std.specs.Result.{IfOk}

-- what is found, or that nothing is, says less
pub found-weaker : {X E : Type 0} (r : Result (Option X) E) (P Q : X → Type 0) → ((x : X) → P x → Q x)
    → IfOk r (λ found. IfSome found P) → IfOk r (λ found. IfSome found Q)
found-weaker (Ok (Some x)) P Q less is = less x is
found-weaker (Ok None) P Q less is = tt
found-weaker (Err e) P Q less is = tt

pub missing-weaker : {X E P Q : Type 0} (r : Result (Option X) E) → (P → Q) → IfOk r (λ found. IfNone found P) → IfOk r (λ found. IfNone found Q)
missing-weaker (Ok (Some x)) less is = tt
missing-weaker (Ok None) less is = less is
missing-weaker (Err e) less is = tt
