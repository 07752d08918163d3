-- When a logger that speaks at most once an interval speaks again.
use Rattle.std.specs.Prelude.{ℕ, ◌-◌, nat_le, Bool}

-- the last moment and the interval, in nanoseconds
pub record Schedule : Type 0 where
  pub last : ℕ
  pub interval : ℕ

-- from the last moment to `now`, which counts as no time where `now` is earlier, it is at least the interval
abbrev pub is_due : Schedule → ℕ → Bool
is_due t now = nat_le t.interval (now - t.last)
