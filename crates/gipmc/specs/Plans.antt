-- What searches, and how far, by what the options ask for.
use Rattle.std.specs.Prelude.{ℕ, ◌-◌, ◌^◌, ◌&&◌, Bool, List, Option, Some, None, codes, if◌then◌else◌}
use Rattle.std.specs.Prelude.{is_some, unwrap_or}
use Rattle.std.specs.Str.{bytes_eq}
use Rattle.gip_cli.specs.Asked.{asked_said, has, number, word}
use Rattle.gipmc_command.specs.declared.options.Options.{Options}
use Rattle.gipmc_engines.specs.declared.engines.Engine.{Engine}
use Rattle.gipmc_engines.specs.declared.engines.Engine.TheVariants.{All, Bounded, Ic3, Induction, Invariants}
use Rattle.gipmc_engines.specs.declared.engines.Engine.TheVariants.{Explicit, Simulation}

-- a certificate as a circuit is wanted
abbrev pub wants_circuit : Options → Bool
wants_circuit o =
    is_some (word (codes "--certificate") (asked_said o.asked)) && has (codes "--aiger") (asked_said o.asked)

-- the engine of this name; all engines have none
abbrev pub engine_named : Option (List ℕ) → Engine
engine_named None = All
engine_named (Some word) =
    if bytes_eq word (codes "sim") then Simulation
    else if bytes_eq word (codes "bmc") then Bounded
    else if bytes_eq word (codes "ic3") then Ic3
    else if bytes_eq word (codes "induction") then Induction
    else if bytes_eq word (codes "states") then Explicit
    else All

-- the engine that is asked for
abbrev pub engine_asked : Options → Engine
engine_asked o = engine_named (word (codes "--engine") (asked_said o.asked))

-- the most transitions that are asked for, the most conflicts of a question, and the seed of simulation
abbrev pub depth_asked : Options → Option ℕ
depth_asked o = number (codes "--depth") (asked_said o.asked)

abbrev pub limit_asked : Options → ℕ
limit_asked o = unwrap_or (number (codes "--limit") (asked_said o.asked)) (2 ^ 64 - 1)

abbrev pub seed_asked : Options → ℕ
seed_asked o = unwrap_or (number (codes "--seed") (asked_said o.asked)) 0

-- the engines that search: where all are to, and a circuit is wanted, those that show by an invariant what is safe
abbrev pub engine_by : Bool → Engine → Engine
engine_by wants All = if wants then Invariants else All
engine_by wants Simulation = Simulation
engine_by wants Bounded = Bounded
engine_by wants Ic3 = Ic3
engine_by wants Induction = Induction
engine_by wants Explicit = Explicit
engine_by wants Invariants = Invariants

-- the most transitions of bounded model checking where that is not said: 100 where it searches alone, and no bound
abbrev pub depth_alone : Engine → ℕ
depth_alone Bounded = 100
depth_alone engine = 2 ^ 64 - 1

-- the most transitions: as many as are asked for, if that is said
abbrev pub depth_by : Engine → Option ℕ → ℕ
depth_by engine depth = unwrap_or depth (depth_alone engine)
