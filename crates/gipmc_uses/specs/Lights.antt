-- The lights of two streets that cross.
use Rattle.std.specs.Prelude.{Bool, true, false, ◌&&◌, if◌then◌else◌}
use Rattle.gipsat_cnf.specs.Prelude.{Assignment, Lit, is_true}

-- which lamps of the two streets are on; a street with neither is at red
pub record Lights : Type 0 where
  pub north_green : Bool
  pub north_yellow : Bool
  pub east_green : Bool
  pub east_yellow : Bool

-- at first the one street is at green, and the other one at red
abbrev pub north_first : Lights
north_first = record { north_green = true; north_yellow = false; east_green = false; east_yellow = false }

-- the lamps behind a moment: where it is time, each is on if the one before it was
abbrev pub turned : Lights → Bool → Lights
turned l is_time =
    if is_time
    then record { north_green = l.east_yellow; north_yellow = l.north_green; east_green = l.north_yellow; east_yellow = l.east_green }
    else l

-- both streets are at green
abbrev pub are_both_green : Lights → Bool → Bool
are_both_green l is_time = l.north_green && l.east_green

-- the lamps that are on where the literals of them have these values
abbrev pub lights_of : Assignment → Lit → Lit → Lit → Lit → Lights
lights_of a green yellow other_green other_yellow = record {
  north_green = is_true a green;
  north_yellow = is_true a yellow;
  east_green = is_true a other_green;
  east_yellow = is_true a other_yellow;
}
