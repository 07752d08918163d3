-- Worked examples of command lines.
use Rattle.std.proofs.Common.{◌≡◌, ℕ, List, [], ◌∷◌, refl, codes, Some, None, Ok, Err, true, false}
use Rattle.gip_cli.specs.Asked.{ended, file_at, has, last_in, number, said_by, word, word_said}
use Rattle.gip_cli.specs.Items.{Bare, Counted, File, Given, Misused, NoChoice, NoNumber, NoOutput, NoValue, Said, Told, UnknownOption, Written}
use Rattle.gip_cli.specs.Options.{Choice, Entry, Number, Output, Switch, Text}
use Rattle.gip_cli.specs.declared.items.Info.TheVariants.{Help}

abbrev quiet : Entry
quiet = record { long = codes "--quiet"; short = codes "-q"; takes = Switch; scope = codes "each" }

abbrev time : Entry
time = record { long = codes "--time"; short = codes "-t"; takes = Number; scope = codes "search" }

abbrev engine : Entry
engine = record { long = codes "--engine"; short = []; takes = Choice (codes "bmc" ∷ codes "ic3" ∷ []); scope = codes "search" }

abbrev assume : Entry
assume = record { long = codes "--assume"; short = []; takes = Text; scope = codes "search" }

abbrev proof : Entry
proof = record { long = codes "--proof"; short = []; takes = Output; scope = codes "search" }

abbrev table : List Entry
table = quiet ∷ time ∷ engine ∷ assume ∷ proof ∷ []

abbrev said : List (List ℕ) → List Said
said words = said_by table words

nothing : said [] ≡ []
nothing = refl

-- the value of an option is the next word, whatever it begins with
values : said (codes "-q" ∷ codes "-t" ∷ codes "9" ∷ codes "--proof" ∷ codes "-q" ∷ codes "a" ∷ [])
    ≡ Given quiet Bare (codes "-q") ∷ Given time (Counted 9) (codes "-t")
    ∷ Given proof (Written (codes "-q")) (codes "--proof") ∷ File (codes "a") ∷ []
values = refl

-- or all behind the first equals sign
joined : said (codes "--time=9" ∷ codes "--proof=p=q" ∷ [])
    ≡ Given time (Counted 9) (codes "--time=9") ∷ Given proof (Written (codes "p=q")) (codes "--proof=p=q") ∷ []
joined = refl

-- or at once behind a short name
joined_short : said (codes "-t9" ∷ codes "a" ∷ []) ≡ Given time (Counted 9) (codes "-t9") ∷ File (codes "a") ∷ []
joined_short = refl

refused-joined_short : said (codes "-t=9" ∷ codes "a" ∷ []) ≡ Misused (NoNumber (codes "--time") (codes "=9")) ∷ []
refused-joined_short = refl

refused-joined_nothing : said (codes "--time=" ∷ []) ≡ Misused (NoNumber (codes "--time") []) ∷ []
refused-joined_nothing = refl

refused-switches : said (codes "-qt" ∷ []) ≡ Misused (UnknownOption (codes "-qt")) ∷ []
refused-switches = refl

refused-joined_switch : said (codes "--quiet=9" ∷ []) ≡ Misused (UnknownOption (codes "--quiet=9")) ∷ []
refused-joined_switch = refl

refused-no_value : said (codes "a" ∷ codes "-t" ∷ []) ≡ File (codes "a") ∷ Misused (NoValue (codes "--time")) ∷ []
refused-no_value = refl

refused-number : said (codes "-t" ∷ codes "x" ∷ []) ≡ Misused (NoNumber (codes "--time") (codes "x")) ∷ []
refused-number = refl

refused-large_number : said (codes "-t" ∷ codes "18446744073709551616" ∷ [])
    ≡ Misused (NoNumber (codes "--time") (codes "18446744073709551616")) ∷ []
refused-large_number = refl

refused-choice : said (codes "--engine=ic4" ∷ []) ≡ Misused (NoChoice (codes "--engine") (codes "ic4")) ∷ []
refused-choice = refl

-- a file that is written has another name than a minus
refused-output : said (codes "--proof" ∷ codes "-" ∷ []) ≡ Misused NoOutput ∷ []
refused-output = refl

output : said (codes "--proof=./-" ∷ []) ≡ Given proof (Written (codes "./-")) (codes "--proof=./-") ∷ []
output = refl

-- a minus is a file, and all words behind two of them are
files : said (codes "-" ∷ codes "--" ∷ codes "-q" ∷ codes "--" ∷ []) ≡ File (codes "-") ∷ File (codes "-q") ∷ File (codes "--") ∷ []
files = refl

help : said (codes "-q" ∷ codes "-h" ∷ codes "--other" ∷ []) ≡ Given quiet Bare (codes "-q") ∷ Told Help ∷ []
help = refl

-- what words ask for: of several values the last one
abbrev asked : List Said
asked = said (codes "a" ∷ codes "-t9" ∷ codes "--engine" ∷ codes "ic3" ∷ codes "-q" ∷ codes "b" ∷ codes "--time" ∷ codes "0" ∷ [])

ends : ended asked ≡ Ok None
ends = refl

ends-help : ended (said (codes "a" ∷ codes "-h" ∷ [])) ≡ Ok (Some Help)
ends-help = refl

ends-fault : ended (said (codes "a" ∷ codes "-x" ∷ codes "-h" ∷ [])) ≡ Err (UnknownOption (codes "-x"))
ends-fault = refl

number-last : number (codes "--time") asked ≡ Some 0
number-last = refl

number-none : number (codes "--time") (said (codes "a" ∷ [])) ≡ None
number-none = refl

word-chosen : word (codes "--engine") asked ≡ Some (codes "ic3")
word-chosen = refl

word-none : word (codes "--proof") asked ≡ None
word-none = refl

has-switch : has (codes "--quiet") asked ≡ true
has-switch = refl

has-none : has (codes "--assume") asked ≡ false
has-none = refl

-- the last option of a search, by the word that names it
scope-last : word_said (last_in (codes "search") asked) ≡ Some (codes "--time")
scope-last = refl

file-first : file_at 0 asked ≡ Some (codes "a")
file-first = refl

file-second : file_at 1 asked ≡ Some (codes "b")
file-second = refl

file-none : file_at 2 asked ≡ None
file-none = refl
