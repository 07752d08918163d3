-- Truth values in order.
use Rattle.std.specs.Prelude.{◌≡◌, Bool, true, false}
use Rattle.std.proofs.Common.{refl}
use Rattle.std.specs.Bool.{beq}
use Rattle.std.specs.Ordering.{bool_cmp, eq_by_cmp}

-- two of them are equal exactly where neither is before the other
pub booleans_tie : (x y : Bool) → beq x y ≡ eq_by_cmp bool_cmp x y
booleans_tie true true = refl
booleans_tie true false = refl
booleans_tie false true = refl
booleans_tie false false = refl
