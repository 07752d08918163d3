-- The options of a program.
use Rattle.std.specs.Prelude.{ℕ, ◌||◌, Bool, false, true, List, [], ◌∷◌, map, if◌then◌else◌, Option, Some, None}
use Rattle.std.specs.Str.{bytes_eq}
use Rattle.gip_cli.specs.declared.options.Kind.{Kind}
use Rattle.gip_cli.specs.declared.options.Kind.TheVariants as kind
use Rattle.gip_cli.specs.declared.options.Opt.{Opt}

-- what stands behind an option: nothing, a number, one of these words, any word, or a file that is written
pub data Takes : Type 0 where
  Switch : Takes
  Number : Takes
  Choice : List (List ℕ) → Takes
  Text : Takes
  Output : Takes

-- the long name of an option, its short one, which is empty where it has none, what stands behind it, and its scope
pub record Entry : Type 0 where
  pub long : List ℕ
  pub short : List ℕ
  pub takes : Takes
  pub scope : List ℕ

-- options of these names and this scope
abbrev pub switch : List ℕ → List ℕ → List ℕ → Entry
switch long short scope = record { long = long; short = short; takes = Switch; scope = scope }

abbrev pub number : List ℕ → List ℕ → List ℕ → Entry
number long short scope = record { long = long; short = short; takes = Number; scope = scope }

abbrev pub choice : List ℕ → List (List ℕ) → List ℕ → Entry
choice long words scope = record { long = long; short = []; takes = Choice words; scope = scope }

abbrev pub text : List ℕ → List ℕ → Entry
text long scope = record { long = long; short = []; takes = Text; scope = scope }

abbrev pub output : List ℕ → List ℕ → Entry
output long scope = record { long = long; short = []; takes = Output; scope = scope }

-- the first option of a table that has this name
abbrev pub named : List Entry → List ℕ → Option Entry
named [] word = None
named (o ∷ table) word = if bytes_eq word o.long || bytes_eq word o.short then Some o else named table word

-- the word is one of these
abbrev pub is_among : List (List ℕ) → List ℕ → Bool
is_among [] word = false
is_among (w ∷ words) word = if bytes_eq word w then true else is_among words word

abbrev pub takes_of : Kind → Takes
takes_of kind.Switch = Switch
takes_of (kind.Number name) = Number
takes_of (kind.Choice name words) = Choice (map (λ w. w.now) words.now)
takes_of (kind.Text name wanted) = Text
takes_of (kind.Input name) = Text
takes_of (kind.Output name) = Output

abbrev pub entry_of : Opt → Entry
entry_of o = record { long = o.long.now; short = o.short.now; takes = takes_of o.kind; scope = o.scope.now }
