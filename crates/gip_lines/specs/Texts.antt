-- What the lines of a text say in some form.
use Rattle.std.specs.Prelude.{ℕ, ◌+◌, List, Option, is_some, is_none, position, map, IsTrue}
use Rattle.std.specs.List.{filter_map, list_all}
use Rattle.std.specs.Option.{option_map}
use Rattle.giputils_text.specs.Lines.{text_lines}

module _ {L : Type 0} (form : List ℕ → Option L) where
  -- what each line of a text says, where it has the form
  abbrev pub readings : List ℕ → List (Option L)
  readings text = map form (text_lines text)

  -- every line of a text has the form
  abbrev pub HasForm : List ℕ → Type 0
  HasForm text = IsTrue (list_all is_some (readings text))

  -- what the lines of a text say, but for those of another form
  abbrev pub said_in : List ℕ → List L
  said_in text = filter_map (λ reading. reading) (readings text)

  -- the number of the first line of another form; lines count from 1
  abbrev pub first_other : List ℕ → Option ℕ
  first_other text = option_map (λ i. i + 1) (position is_none (readings text))
