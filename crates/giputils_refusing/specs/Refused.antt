-- Which requests are refused.
use Rattle.std.specs.Prelude.{◌≡◌, ℕ, ◌≤◌}
use Rattle.giputils_refusing.specs.declared.Refused.{Refused}
use Rattle.giputils_refusing.specs.declared.Refused.TheVariants.{Never, Nth, From}

-- the request of this number is refused
abbrev pub Includes : Refused → ℕ → Type 0
Includes Never request = ⊥
Includes (Nth n) request = request ≡ n
Includes (From first) request = first ≤ request
