-- What the words of a command line say, one after another.
use Rattle.std.specs.Prelude.{ℕ, ◌==◌, ◌&&◌, ◌||◌, Bool, List, [], ◌∷◌, drop, length, map, nat_lt, slice_index, if◌then◌else◌, codes, Option, Some, None, not, string_bytes}
use Rattle.std.specs.List.{after_first, before_first, position_or_len, starts_with}
use Rattle.std.specs.Option.{option_map_or}
use Rattle.std.specs.Str.{byte, bytes_eq}
use lib.Dec.{eqb}
use Rattle.giputils_text.specs.Numbers.{number_of}
use Rattle.gip_cli.specs.Options.{Entry, Takes, Switch, Number, Choice, Text, Output, entry_of, is_among, named}
use Rattle.gip_cli.specs.declared.items.Fault.{Fault}
use Rattle.gip_cli.specs.declared.items.Fault.TheVariants as fault
use Rattle.gip_cli.specs.declared.items.Given as given
use Rattle.gip_cli.specs.declared.items.Info.{Info}
use Rattle.gip_cli.specs.declared.items.Info.TheVariants.{Help, Version}
use Rattle.gip_cli.specs.declared.items.Item.{Item}
use Rattle.gip_cli.specs.declared.items.Item.TheVariants as item
use Rattle.gip_cli.specs.declared.items.Items.{Items}
use Rattle.gip_cli.specs.declared.items.Value as value
use Rattle.gip_cli.specs.declared.items.Value.TheVariants as variant

-- why words have no meaning: no option has this name, no word stands behind the option of this long name, another word
-- than a number below 2^64 or than those that it takes, or standard output for a file that is written
pub data Misuse : Type 0 where
  UnknownOption : List ℕ → Misuse
  NoValue : List ℕ → Misuse
  NoNumber : List ℕ → List ℕ → Misuse
  NoChoice : List ℕ → List ℕ → Misuse
  NoOutput : Misuse

-- what stands behind an option: nothing, a number, or a word
pub data Value : Type 0 where
  Bare : Value
  Counted : ℕ → Value
  Written : List ℕ → Value

-- what is said: an option with its value and the word that names it, a file, that the help or the version is to be told,
-- or that words have no meaning
pub data Said : Type 0 where
  Given : Entry → Value → List ℕ → Said
  File : List ℕ → Said
  Told : Info → Said
  Misused : Misuse → Said

-- how the next word is read: as an option or a file, as the value of the option that this word names, or as a file
-- whatever it begins with
pub data Mode : Type 0 where
  Any : Mode
  ValueOf : Entry → List ℕ → Mode
  Files : Mode

-- a word that begins with a minus is no file, but for the minus alone
abbrev pub is_option : List ℕ → Bool
is_option word = (slice_index word 0 == byte "-") && not (bytes_eq word (codes "-"))

-- what is told in place of an answer
abbrev pub info_of : List ℕ → Option Info
info_of word =
    if bytes_eq word (codes "--help") || bytes_eq word (codes "-h") then Some Help
    else if bytes_eq word (codes "--version") then Some Version
    else None

-- an option whose value is a number
abbrev pub counted_said : Entry → List ℕ → List ℕ → Said
counted_said o value word =
    option_map_or (λ number. Given o (Counted number) word) (number_of value) (Misused (NoNumber o.long value))

-- an option with its value, in this word
abbrev pub value_said_as : Takes → Entry → List ℕ → List ℕ → Said
value_said_as Switch o value word = Misused (UnknownOption word)
value_said_as Number o value word = counted_said o value word
value_said_as (Choice words) o value word =
    if is_among words value then Given o (Written value) word else Misused (NoChoice o.long value)
value_said_as Text o value word = Given o (Written value) word
value_said_as Output o value word =
    if bytes_eq value (codes "-") then Misused NoOutput else Given o (Written value) word

abbrev pub value_said : Entry → List ℕ → List ℕ → Said
value_said o value word = value_said_as o.takes o value word

-- the option of this long name with its value, in this word
abbrev pub assigned_said : Option Entry → List ℕ → List ℕ → List ℕ → Said
assigned_said (Some o) name value word =
    if bytes_eq name o.long then value_said o value word else Misused (UnknownOption word)
assigned_said None name value word = Misused (UnknownOption word)

-- a long name, an equals sign and a value
abbrev pub long_said : List Entry → List ℕ → Said
long_said table word =
    if nat_lt (position_or_len (λ b. b == byte "=") word) (length word)
    then assigned_said (named table (before_first (λ b. b == byte "=") word))
    (before_first (λ b. b == byte "=") word) (after_first (λ b. b == byte "=") word) word
    else Misused (UnknownOption word)

-- what stands behind a short name, in a word that begins with it
abbrev pub behind : List ℕ → List ℕ → Option (List ℕ)
behind short word =
    if length short == 0 then None
    else if starts_with eqb word short then Some (drop (length short) word) else None

-- a value behind the short name of the first option that has one with which the word begins
abbrev pub short_said : List Entry → List ℕ → Said → Said
short_said [] word otherwise = otherwise
short_said (o ∷ table) word otherwise =
    option_map_or (λ value. value_said o value word) (behind o.short word) (short_said table word otherwise)

-- an option with its value in one word
abbrev pub joined_said : List Entry → List ℕ → Said
joined_said table word = short_said table word (long_said table word)

-- nothing is said behind what is told, and behind words that have no meaning
abbrev pub before : Said → List Said → List Said
before (Told info) rest = Told info ∷ []
before (Misused misuse) rest = Misused misuse ∷ []
before said rest = said ∷ rest

-- what an option says, and then the words behind it, as they are read in each mode
abbrev pub option_said_as : Takes → Entry → List ℕ → (Mode → List Said) → List Said
option_said_as Switch o word rest = Given o Bare word ∷ rest Any
option_said_as Number o word rest = rest (ValueOf o word)
option_said_as (Choice words) o word rest = rest (ValueOf o word)
option_said_as Text o word rest = rest (ValueOf o word)
option_said_as Output o word rest = rest (ValueOf o word)

abbrev pub option_said : Entry → List ℕ → (Mode → List Said) → List Said
option_said o word rest = option_said_as o.takes o word rest

-- what a word that begins with a minus says
abbrev pub named_said : Option Entry → List Entry → List ℕ → (Mode → List Said) → List Said
named_said (Some o) table word rest = option_said o word rest
named_said None table word rest = before (joined_said table word) (rest Any)

abbrev pub told_said : Option Info → List Entry → List ℕ → (Mode → List Said) → List Said
told_said (Some info) table word rest = Told info ∷ []
told_said None table word rest = named_said (named table word) table word rest

abbrev pub word_said : List Entry → List ℕ → (Mode → List Said) → List Said
word_said table word rest =
    if not (is_option word) then File word ∷ rest Any
    else if bytes_eq word (codes "--") then rest Files
    else told_said (info_of word) table word rest

-- what words say by a table of options
abbrev pub items_said : List Entry → Mode → List (List ℕ) → List Said
items_said table Any [] = []
items_said table Files [] = []
items_said table (ValueOf o word) [] = Misused (NoValue o.long) ∷ []
items_said table Any (word ∷ words) = word_said table word (λ mode. items_said table mode words)
items_said table Files (name ∷ words) = File name ∷ items_said table Files words
items_said table (ValueOf o word) (value ∷ words) = before (value_said o value word) (items_said table Any words)

abbrev pub misuse_of : Fault → Misuse
misuse_of (fault.UnknownOption word) = UnknownOption word.now
misuse_of (fault.NoValue long kind) = NoValue long.now
misuse_of (fault.NoNumber long word) = NoNumber long.now word.now
misuse_of (fault.NoChoice long words word) = NoChoice long.now word.now
misuse_of fault.NoOutput = NoOutput

abbrev pub value_of : value.Value → Value
value_of variant.Bare = Bare
value_of (variant.Number n) = Counted n
value_of (variant.Word word) = Written word.now

abbrev pub given_said : given.Given → Said
given_said g = Given (entry_of g.option.now) (value_of g.value) g.word.now

abbrev pub said_of : Item → Said
said_of (item.Given given) = given_said given
said_of (item.File name) = File name.now
said_of (item.Info info) = Told info
said_of (item.Fault fault) = Misused (misuse_of fault)

-- what an item says, before what the others say
abbrev pub first_said : Option Item → List Said → List Said
first_said (Some item) rest = said_of item ∷ rest
first_said None rest = []

-- a word that is taken, before the others
abbrev pub first_word : Option (List ℕ) → List (List ℕ) → List (List ℕ)
first_word (Some word) rest = word ∷ rest
first_word None rest = []

-- what the words that are left say
abbrev pub left_said : Items → List Said
left_said items =
    items_said (map entry_of items.table.now) (if items.files then Files else Any) (map string_bytes items.words.now)

-- what the words that are left say, as they are read in this mode
abbrev pub left_behind : Items → Mode → List Said
left_behind items mode = items_said (map entry_of items.table.now) mode (map string_bytes items.words.now)
