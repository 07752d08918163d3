-- Timers, by their numbers, each with a deadline.
use Rattle.std.specs.Prelude.{◌≡◌, ℕ, ◌≤◌, List, map, IsTrue, Some, slice_get, slice_index}
use Rattle.std.specs.declared.cmp.Reverse.{Reverse}
use Rattle.giputils.specs.Keys.{is_held}

-- the timers that run, and the deadline of each timer
pub record Clock : Type 0 where
  pub running : List ℕ
  pub deadlines : List ℕ

-- the deadlines in a table of priorities of which the least goes first
abbrev pub deadlines_of : List (Reverse ℕ) → List ℕ
deadlines_of priorities = map (λ r. r.0) priorities

-- a timer runs
abbrev pub Runs : List ℕ → ℕ → Type 0
Runs running timer = IsTrue (is_held (λ k. k) running timer)

-- the timer runs, and none that runs has an earlier deadline
pub record IsEarliest (clock : Clock) (timer : ℕ) : Type 0 where
  pub runs : Runs clock.running timer
  pub earliest : (other deadline : ℕ) → Runs clock.running other → slice_get clock.deadlines other ≡ Some deadline
      → slice_index clock.deadlines timer ≤ deadline
