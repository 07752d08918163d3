-- What is told on standard error beside an answer.
use Rattle.std.specs.Prelude.{◌&&◌, Bool, codes, not}
use Rattle.gip_cli.specs.Asked.{has}
use Rattle.gipsat_command.specs.Options.{said_of}
use Rattle.gipsat_command.specs.declared.options.Options.{Options}

-- no progress
abbrev pub is_quiet : Options → Bool
is_quiet o = has (codes "--quiet") (said_of o) && not (has (codes "--verbose") (said_of o))

-- a summary at the end
abbrev pub has_stats : Options → Bool
has_stats o = has (codes "--stats") (said_of o) && not (has (codes "--quiet") (said_of o))
