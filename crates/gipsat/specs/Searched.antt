-- What the options say of a search and of the form of its proof.
use Rattle.std.specs.Prelude.{◌&&◌, ◌||◌, is_some, ℕ, List, Bool, codes, if◌then◌else◌, not}
use Rattle.gip_cli.specs.Asked.{has, number}
use Rattle.gipsat_command.specs.Options.{said_of}
use Rattle.gipsat_command.specs.declared.options.Options.{Options}
use Rattle.gipsat_answers.specs.declared.proof.writer.Form.{Form}
use Rattle.gipsat_answers.specs.declared.proof.writer.Form.TheVariants.{Drat, Lrat}
use Rattle.gipsat_answers.specs.declared.proof.writer.Format.{Format}
use Rattle.gipsat_answers.specs.declared.proof.writer.Format.TheVariants.{Binary, Text}

-- a switch is given
abbrev pub is_given : List ℕ → Options → Bool
is_given name o = has name (said_of o)

-- the option is given with a number
abbrev pub is_numbered : List ℕ → Options → Bool
is_numbered name o = is_some (number name (said_of o))

-- a limit is given at which the search is stopped
abbrev pub has_limit : Options → Bool
has_limit o = is_numbered (codes "--time") o || is_numbered (codes "--memory") o

-- variables are eliminated
abbrev pub eliminates : Options → Bool
eliminates o = not (is_given (codes "--no-eliminate") o) && not (is_given (codes "--no-simplify") o)

-- learned clauses are shortened
abbrev pub vivifies : Options → Bool
vivifies o = not (is_given (codes "--no-vivify") o) && not (is_given (codes "--no-simplify") o)

-- the form of a proof
abbrev pub form_asked : Options → Form
form_asked o = if is_given (codes "--lrat") o then Lrat else Drat

-- how its steps are written
abbrev pub format_asked : Options → Format
format_asked o = if is_given (codes "--binary") o then Binary else Text
