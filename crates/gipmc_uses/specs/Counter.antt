-- A counter that turns at 2.
use Rattle.std.specs.Prelude.{ℕ, ◌+◌, ◌%◌, ◌==◌, Bool, if◌then◌else◌}

-- what the counter holds next
abbrev pub counted : ℕ → Bool → ℕ
counted n enabled = (if enabled then (if n == 2 then 0 else n + 1) else n) % 4

-- the counter holds 3
abbrev pub is_three : ℕ → Bool → Bool
is_three n enabled = n == 3
