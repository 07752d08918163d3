-- A heap that was handed a list of keys.
use Rattle.std.specs.Prelude.{ℕ, Bool, List, ◌++◌}
use Rattle.giputils_bounded.specs.Prelude.{HoldAlike, IsInOrder, IsLawful}

module _ {T : Type 0} (number : T → ℕ) (R : T → T → Bool) where
  -- the keys of a list are held as well
  pub record Extends (keys old new : List T) : Type 0 where
    pub alike : HoldAlike number new (keys ++ old)
    pub in_order : IsInOrder R old → IsLawful R (keys ++ old) → IsInOrder R new
