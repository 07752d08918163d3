-- What the words of a command line ask for, by a table of options.
use Rattle.std.specs.Prelude.{ℕ, ◌-◌, ◌==◌, Bool, false, List, [], ◌∷◌, codes, map, if◌then◌else◌, Option, Some, None, Result, Ok, Err, is_some, string_bytes}
use Rattle.std.specs.Option.{option_and_then}
use Rattle.std.specs.Str.{bytes_eq}
use Rattle.gip_cli.specs.Items.{Any, Bare, Counted, File, Given, Misuse, Misused, Said, Told, Value, Written, items_said}
use Rattle.gip_cli.specs.Options.{Entry, entry_of}
use Rattle.gip_cli.specs.declared.asked.Asked.{Asked}
use Rattle.gip_cli.specs.declared.asked.Wanted.{Wanted}
use Rattle.gip_cli.specs.declared.asked.Wanted.TheVariants.{Name, Scope}
use Rattle.gip_cli.specs.declared.items.Info.{Info}

-- what words say by a table
abbrev pub said_by : List Entry → List (List ℕ) → List Said
said_by table words = items_said table Any words

abbrev pub asked_said : Asked → List Said
asked_said asked = said_by (map entry_of asked.table.now) (map string_bytes asked.words.now)

-- what is told in place of an answer, or why the words have no meaning
abbrev pub ended : List Said → Result (Option Info) Misuse
ended [] = Ok None
ended (Given o value word ∷ rest) = ended rest
ended (File name ∷ rest) = ended rest
ended (Told info ∷ rest) = Ok (Some info)
ended (Misused misuse ∷ rest) = Err misuse

-- the option has this long name, or this scope
abbrev pub has_name : List ℕ → Entry → Bool
has_name name o = bytes_eq o.long name

abbrev pub has_scope : List ℕ → Entry → Bool
has_scope scope o = bytes_eq o.scope scope

abbrev pub is_wanted : Wanted → Entry → Bool
is_wanted (Name name) o = has_name name.now o
is_wanted (Scope scope) o = has_scope scope.now o

-- what is said is an option like these
abbrev pub is_given : (Entry → Bool) → Said → Bool
is_given wanted (Given o value word) = wanted o
is_given wanted (File name) = false
is_given wanted (Told info) = false
is_given wanted (Misused misuse) = false

-- the last option like these, or else the one that was found before
abbrev pub last_or : Option Said → (Entry → Bool) → List Said → Option Said
last_or found wanted [] = found
last_or found wanted (said ∷ rest) = last_or (if is_given wanted said then Some said else found) wanted rest

abbrev pub last : (Entry → Bool) → List Said → Option Said
last wanted said = last_or None wanted said

abbrev pub last_in : List ℕ → List Said → Option Said
last_in scope said = last (has_scope scope) said

-- the word that names an option
abbrev pub named_by : Said → Option (List ℕ)
named_by (Given o value word) = Some word
named_by (File name) = None
named_by (Told info) = None
named_by (Misused misuse) = None

abbrev pub word_said : Option Said → Option (List ℕ)
word_said given = option_and_then named_by given

-- the option of this long name is given
abbrev pub has : List ℕ → List Said → Bool
has name said = is_some (last (has_name name) said)

-- the number and the word behind it, the last ones
abbrev pub number_as : Value → Option ℕ
number_as Bare = None
number_as (Counted n) = Some n
number_as (Written word) = None

abbrev pub number_in : Said → Option ℕ
number_in (Given o value word) = number_as value
number_in (File name) = None
number_in (Told info) = None
number_in (Misused misuse) = None

abbrev pub number : List ℕ → List Said → Option ℕ
number name said = option_and_then number_in (last (has_name name) said)

abbrev pub word_as : Value → Option (List ℕ)
word_as Bare = None
word_as (Counted n) = None
word_as (Written word) = Some word

abbrev pub word_in : Said → Option (List ℕ)
word_in (Given o value word) = word_as value
word_in (File name) = None
word_in (Told info) = None
word_in (Misused misuse) = None

abbrev pub word : List ℕ → List Said → Option (List ℕ)
word name said = option_and_then word_in (last (has_name name) said)

-- the name of the file at this place
abbrev pub file_at : ℕ → List Said → Option (List ℕ)
file_at place [] = None
file_at place (Given o value word ∷ rest) = file_at place rest
file_at place (File name ∷ rest) = if place == 0 then Some name else file_at (place - 1) rest
file_at place (Told info ∷ rest) = file_at place rest
file_at place (Misused misuse ∷ rest) = file_at place rest

-- the file of this name: a minus is standard input, which has none
abbrev pub input_of : List ℕ → Option (List ℕ)
input_of name = if bytes_eq name (codes "-") then None else Some name

-- the file that is read at this place, if one is named there
abbrev pub input_at : ℕ → List Said → Option (List ℕ)
input_at place said = option_and_then input_of (file_at place said)
