-- What the options ask for.
use Rattle.std.specs.Prelude.{ℕ, ◌^◌, ◌-◌, ◌==◌, ◌&&◌, ◌||◌, Bool, false, List, [], ◌∷◌, if◌then◌else◌, codes, map, string_bytes, Option, Some, None, not, unwrap_or}
use Rattle.std.specs.Option.{option_map, option_map_or}
use Rattle.std.specs.Str.{bytes_eq}
use Rattle.gip_cli.specs.Asked.{has, input_at, number, said_by}
use Rattle.gip_cli.specs.Items.{Said}
use Rattle.gip_cli.specs.Options.{Entry}
use Rattle.gip_cli.specs.Options as option
use Rattle.gipsat_dimacs.specs.declared.rule.HeaderRule.{HeaderRule}
use Rattle.gipsat_dimacs.specs.declared.rule.HeaderRule.TheVariants as rule
use Rattle.gipsat_command.specs.Misuses.{Misuse, CubesOfMore, MissingHints, MissingModels, MissingProof, PartOfMore, ProofOfMore}
use Rattle.gipsat_command.specs.declared.options.Options.{Options}

-- the options: the names of each, what stands behind it, and its scope
abbrev pub table : List Entry
table =
    option.switch (codes "--relaxed") [] (codes "search") ∷
    option.text (codes "--assume") (codes "search") ∷
    option.number (codes "--models") [] (codes "search") ∷
    option.text (codes "--project") (codes "search") ∷
    option.number (codes "--cubes") [] (codes "search") ∷
    option.number (codes "--cube") [] (codes "search") ∷
    option.output (codes "--join") (codes "check") ∷
    option.switch (codes "--no-eliminate") [] (codes "search") ∷
    option.switch (codes "--no-vivify") [] (codes "search") ∷
    option.switch (codes "--no-simplify") [] (codes "search") ∷
    option.number (codes "--conflicts") [] (codes "search") ∷
    option.number (codes "--time") (codes "-t") (codes "search") ∷
    option.number (codes "--memory") [] (codes "search") ∷
    option.switch (codes "--no-witness") (codes "-n") (codes "search") ∷
    option.switch (codes "--quiet") (codes "-q") (codes "search") ∷
    option.switch (codes "--verbose") (codes "-v") (codes "search") ∷
    option.switch (codes "--stats") [] (codes "search") ∷
    option.output (codes "--proof") (codes "search") ∷
    option.switch (codes "--binary") [] (codes "form") ∷
    option.switch (codes "--lrat") [] (codes "search") ∷
    option.switch (codes "--force") (codes "-f") (codes "form") ∷
    option.switch (codes "--check") [] (codes "check") ∷
    option.output (codes "--lrat-from-drat") (codes "check") ∷
    []

-- what the words say, and of that which file is read, if not standard input, the limit of a search in conflicts,
-- whether values are written, how many models, if several, what the counts of the header mean, and whether the file of
-- a proof may take the place of any
pub record Request : Type 0 where
  pub said : List Said
  pub file : Option (List ℕ)
  pub conflicts : ℕ
  pub witness : Bool
  pub models : Option ℕ
  pub rule : HeaderRule
  pub force : Bool

-- how many models a number asks for: 0 stands for all
abbrev pub models_of : ℕ → ℕ
models_of n = if n == 0 then 2 ^ 64 - 1 else n

abbrev pub rule_of : Bool → HeaderRule
rule_of relaxed = if relaxed then rule.Relaxed else rule.Strict

-- what some words ask for
abbrev pub request : List Said → Request
request said = record {
  said = said;
  file = input_at 0 said;
  conflicts = unwrap_or (number (codes "--conflicts") said) (2 ^ 64 - 1);
  witness = not (has (codes "--no-witness") said);
  models = option_map models_of (number (codes "--models") said);
  rule = rule_of (has (codes "--relaxed") said);
  force = has (codes "--force") said;
}

-- why options have no meaning together
abbrev pub clash : List Said → Option Misuse
clash said =
    if has (codes "--lrat") said && not (has (codes "--proof") said) then Some MissingProof
    else if has (codes "--project") said && not (has (codes "--models") said) then Some MissingModels
    else if has (codes "--proof") said && (has (codes "--assume") said || has (codes "--models") said) then Some ProofOfMore
    else if has (codes "--cube") said && (has (codes "--assume") said || has (codes "--models") said) then Some PartOfMore
    else if has (codes "--cube") said && has (codes "--proof") said && not (has (codes "--lrat") said) then Some MissingHints
    else if has (codes "--cubes") said && (has (codes "--assume") said || has (codes "--models") said) then Some CubesOfMore
    else if has (codes "--cubes") said && (has (codes "--proof") said || has (codes "--cube") said) then Some CubesOfMore
    else None

-- the file to read has this name; standard input has none
abbrev pub reads : Request → List ℕ → Bool
reads r name = option_map_or (bytes_eq name) r.file false

-- what the words of options say
abbrev pub said_of : Options → List Said
said_of o = said_by table (map string_bytes o.words.now)

-- what options ask for
abbrev pub request_of : Options → Request
request_of o = record {
  said = said_of o;
  file = option_map (λ name. name.now) o.file;
  conflicts = o.conflicts;
  witness = o.witness;
  models = o.models;
  rule = o.rule;
  force = o.force;
}
