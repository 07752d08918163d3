-- An arbiter between two that ask for one thing.
use Rattle.std.specs.Prelude.{Bool, not, ◌&&◌}
use Rattle.gipsat_cnf.specs.Prelude.{Assignment, Lit, is_true}

-- who has it, by the values of two literals
abbrev pub grants_of : Assignment → Lit × Lit → Bool × Bool
grants_of a has = (is_true a has.0, is_true a has.1)

-- the first one is granted it next: it asks, and has it not already where the other one asks too
abbrev pub first_granted : Bool × Bool → Bool × Bool → Bool
first_granted has asks = asks.0 && not (asks.1 && has.0)

-- who has it next: at most one of the two
abbrev pub granted : Bool × Bool → Bool × Bool → Bool × Bool
granted has asks = (first_granted has asks, asks.1 && not (first_granted has asks))

-- both have it
abbrev pub have_both : Bool × Bool → Bool × Bool → Bool
have_both has asks = has.0 && has.1
