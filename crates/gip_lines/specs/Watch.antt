-- What is known of a device that is read or written.
use Rattle.std.specs.Prelude.{ℕ, Bool, true, List, length, nat_lt, ◌==◌, ◌&&◌, Result, Ok, Err}

-- a device, and whether a call on it has failed
pub record Watch (D : Type 0) : Type 0 where
  pub device : D
  pub has_failed : Bool

-- what a write of some bytes answered says that it failed: an error, or that none of them was taken
abbrev pub write_failed : {E : Type 0} → Result ℕ E → List ℕ → Bool
write_failed (Ok n) bytes = (n == 0) && nat_lt 0 (length bytes)
write_failed (Err e) bytes = true
