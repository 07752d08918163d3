-- Runs that are refused memory, each a little later than the one before.
use Rattle.std.specs.Prelude.{◌≡◌, ℕ, ◌+◌, ◌<◌, Bool, true, false, if◌then◌else◌}
use Rattle.giputils_refusing.specs.Refusing.{allocator_of, refused_of}
use Rattle.giputils_refusing.specs.declared.Refused.{Refused}
use Rattle.giputils_refusing.specs.declared.Refused.TheVariants.{Nth, From}
use Rattle.giputils_refusing.specs.declared.Refusing.{Refusing}
use Rattle.giputils_refusing.specs.declared.in_turn.TheConstants.{MOST_RUNS}
use Rattle.giputils_refusing.specs.declared.in_turn.TurnFault.{TurnFault}
use Rattle.giputils_refusing.specs.declared.in_turn.TurnFault.TheVariants.{Hidden, Unrefused, Endless}

-- the request of this number is refused, and with `later` each one after it
abbrev pub at_request : Bool → ℕ → Refused
at_request later n = if later then From n else Nth n

-- A run was made over the inner allocator with these requests refused, and said that it was served, or that it was
-- not. `Says memory served` is that the run, lent the allocator, may say so.
pub record IsRun {B : Type 0} (Says : Refusing B → Bool → Type 0)
    (inner : B) (refused : Refused) (served : Bool) : Type 0 where
  pub memory : Refusing B
  pub over : allocator_of memory ≡ inner
  pub refuses : refused_of memory ≡ refused
  pub said : Says memory served

-- the first `count` runs were made in turn, and each said that it was not served
abbrev pub AreRefused : {B : Type 0} → (Refusing B → Bool → Type 0) → B → (ℕ → Refused) → ℕ → Type 0
AreRefused Says inner request count = (k : ℕ) → k < count → IsRun Says inner (request (k + 1)) false

-- the run after `count` refused ones was made, and said that it was served
abbrev pub IsServed : {B : Type 0} → (Refusing B → Bool → Type 0) → B → (ℕ → Refused) → ℕ → Type 0
IsServed Says inner request count = IsRun Says inner (request (count + 1)) true

-- the runs that a fault tells of were made
abbrev pub IsFault : {B : Type 0} → (Refusing B → Bool → Type 0) → B → (ℕ → Refused) → TurnFault → Type 0
IsFault Says inner request (Hidden n) = IsRun Says inner (request n) true
IsFault Says inner request (Unrefused n) = IsRun Says inner (request n) false
IsFault Says inner request Endless = AreRefused Says inner request MOST_RUNS
