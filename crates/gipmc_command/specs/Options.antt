-- What the options ask for.
use Rattle.std.specs.Prelude.{ℕ, List, [], ◌∷◌, if◌then◌else◌, codes, Option, Some, None}
use Rattle.std.specs.Option.{option_map, option_map_or}
use Rattle.std.specs.Str.{bytes_eq}
use Rattle.gip_cli.specs.Asked.{asked_said, input_at, last_in, number_in}
use Rattle.gip_cli.specs.Items.{File, Given, Misused, Said, Told}
use Rattle.gip_cli.specs.Options.{Entry}
use Rattle.gip_cli.specs.Options as option
use Rattle.gipmc_aiger.specs.declared.problem.Property.TheVariants.{Bad, Justice}
use Rattle.gipmc_aiger.specs.declared.problem.Subject.{Subject}
use Rattle.gipmc_aiger.specs.declared.problem.Subject.TheVariants.{All, Any, One}
use Rattle.gipmc_command.specs.declared.options.Options.{Options}

-- the options: the names of each, what stands behind it, and its scope
abbrev pub table : List Entry
table =
    option.number (codes "--bad") [] (codes "property") ∷
    option.number (codes "--justice") [] (codes "property") ∷
    option.switch (codes "--any") [] (codes "property") ∷
    option.choice (codes "--engine")
    (codes "sim" ∷ codes "bmc" ∷ codes "ic3" ∷ codes "induction" ∷ codes "states" ∷ []) (codes "search") ∷
    option.number (codes "--depth") [] (codes "search") ∷
    option.number (codes "--limit") [] (codes "limit") ∷
    option.number (codes "--time") (codes "-t") (codes "search") ∷
    option.number (codes "--memory") [] (codes "search") ∷
    option.number (codes "--seed") [] (codes "search") ∷
    option.switch (codes "--shortest") [] (codes "search") ∷
    option.text (codes "--replay") (codes "each") ∷
    option.text (codes "--certify") (codes "each") ∷
    option.switch (codes "--list") [] (codes "each") ∷
    option.output (codes "--join") (codes "each") ∷
    option.output (codes "--certificate") (codes "search") ∷
    option.switch (codes "--aiger") [] (codes "search") ∷
    option.switch (codes "--names") [] (codes "search") ∷
    option.output (codes "--vcd") (codes "search") ∷
    option.text (codes "--witness") (codes "search") ∷
    option.switch (codes "--unordered") [] (codes "search") ∷
    option.switch (codes "--quiet") (codes "-q") (codes "each") ∷
    option.switch (codes "--verbose") (codes "-v") (codes "each") ∷
    option.switch (codes "--stats") [] (codes "search") ∷
    option.switch (codes "--exit-zero") [] (codes "search") ∷
    []

-- what the words say, the file of the circuit, if not standard input, and the properties that are asked about
pub record Request : Type 0 where
  pub said : List Said
  pub file : Option (List ℕ)
  pub subject : Subject

-- what an option of this name asks about, with the number behind it: the property there, or by `--any` all bad literals
abbrev pub subject_named : List ℕ → Option ℕ → Subject
subject_named name (Some place) = if bytes_eq name (codes "--bad") then One (Bad place) else One (Justice place)
subject_named name None = Any

abbrev pub subject_said : Said → Subject
subject_said (Given o value word) = subject_named o.long (number_in (Given o value word))
subject_said (File file) = All
subject_said (Told info) = All
subject_said (Misused misuse) = All

-- what is asked about by an option, if one is given; else all
abbrev pub subject_of : Option Said → Subject
subject_of given = option_map_or subject_said given All

-- what some words ask for: of the options about properties, `--bad`, `--justice` and `--any`, the last one counts
abbrev pub request : List Said → Request
request said = record {
  said = said;
  file = input_at 0 said;
  subject = subject_of (last_in (codes "property") said);
}

-- what options ask for
abbrev pub request_of : Options → Request
request_of o = record {
  said = asked_said o.asked;
  file = option_map (λ name. name.now) o.file;
  subject = o.subject;
}
