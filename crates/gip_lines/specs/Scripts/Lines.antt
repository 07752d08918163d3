-- The lines of a script and the form of each.
use Rattle.std.specs.Prelude.{ℕ, ◌&&◌, Bool, true, List, [], ◌∷◌, length, nat_lt, nat_le, slice_set, if◌then◌else◌, codes, Option, Some, None}
use Rattle.std.specs.Option.{option_map}
use Rattle.std.specs.Str.{bytes_eq}
use Rattle.gip_lines.specs.Texts.{HasForm, said_in, first_other}
use Rattle.gip_lines.specs.declared.scripts.lines.Line.{Line}
use Rattle.gip_lines.specs.declared.scripts.lines.Line.TheVariants.{Push, Pop, Len, Clear, Rank, Ranks, Up, Down}
use Rattle.giputils_text.specs.Lines.{space, pieces}
use Rattle.giputils_text.specs.Numbers.{number_up_to}

-- the greatest key that a line can name
abbrev pub greatest_key : ℕ
greatest_key = 15

-- the greatest rank
abbrev pub greatest_rank : ℕ
greatest_rank = 4294967295

-- the most pairs of a key and its rank that a line can name
abbrev pub most_pairs : ℕ
most_pairs = 16

-- the line, where no word follows its name
abbrev pub without_words : Line → List (List ℕ) → Option Line
without_words line [] = Some line
without_words line words = None

-- the key that is the only word
abbrev pub only_key : List (List ℕ) → Option ℕ
only_key (key ∷ []) = number_up_to greatest_key key
only_key words = None

-- some pairs with one more in front, where all are numbers that a line can name
abbrev pub with_pair : Option ℕ → Option ℕ → Option (List (ℕ × ℕ)) → Option (List (ℕ × ℕ))
with_pair (Some key) (Some rank) (Some pairs) = Some ((key, rank) ∷ pairs)
with_pair _ _ _ = None

-- the words as pairs of a key from 0 to the greatest key and its rank from 0 to the greatest rank
abbrev pub pairs_of : List (List ℕ) → Option (List (ℕ × ℕ))
pairs_of [] = Some []
pairs_of (key ∷ rank ∷ words) =
    with_pair (number_up_to greatest_key key) (number_up_to greatest_rank rank) (pairs_of words)
pairs_of (word ∷ []) = None

-- the line that gives one key its rank
abbrev pub rank_line : Option (List (ℕ × ℕ)) → Option Line
rank_line (Some ((key, rank) ∷ [])) = Some (Rank key rank)
rank_line _ = None

-- no key is given a rank
abbrev pub none_given : List (Option ℕ)
none_given =
    None ∷ None ∷ None ∷ None ∷ None ∷ None ∷ None ∷ None
    ∷ None ∷ None ∷ None ∷ None ∷ None ∷ None ∷ None ∷ None ∷ []

-- each key of some pairs is given its rank, at the key's own place; of one key the last pair stands
abbrev pub given_with : List (Option ℕ) → List (ℕ × ℕ) → List (Option ℕ)
given_with given [] = given
given_with given ((key, rank) ∷ pairs) = given_with (slice_set given key (Some rank)) pairs

-- the line that gives each key of one to sixteen pairs its rank
abbrev pub ranks_line : Option (List (ℕ × ℕ)) → Option Line
ranks_line (Some pairs) =
    if nat_lt 0 (length pairs) && nat_le (length pairs) most_pairs
    then Some (Ranks (given_with none_given pairs)) else None
ranks_line None = None

-- what the words of a line say: `push K`, `up K`, `down K`, `rank K R`, `ranks K R ..` with one to sixteen pairs,
-- `pop`, `len` or `clear`, with K from 0 to the greatest key and R from 0 to the greatest rank
abbrev pub line_of_words : List (List ℕ) → Option Line
line_of_words [] = None
line_of_words (name ∷ words) =
    if bytes_eq name (codes "push") then option_map Push (only_key words)
    else if bytes_eq name (codes "pop") then without_words Pop words
    else if bytes_eq name (codes "len") then without_words Len words
    else if bytes_eq name (codes "clear") then without_words Clear words
    else if bytes_eq name (codes "rank") then rank_line (pairs_of words)
    else if bytes_eq name (codes "ranks") then ranks_line (pairs_of words)
    else if bytes_eq name (codes "up") then option_map Up (only_key words)
    else if bytes_eq name (codes "down") then option_map Down (only_key words)
    else None

-- what a line says, where it has the form: its words stand one space apart, with none at the ends
abbrev pub line_of : List ℕ → Option Line
line_of line = line_of_words (pieces space line)

-- the key that a line names, if any, is one that a line can name
abbrev pub has_small_key : Line → Bool
has_small_key (Push key) = nat_le key greatest_key
has_small_key Pop = true
has_small_key Len = true
has_small_key Clear = true
has_small_key (Rank key rank) = nat_le key greatest_key
has_small_key (Ranks given) = true
has_small_key (Up key) = nat_le key greatest_key
has_small_key (Down key) = nat_le key greatest_key

-- every line of a text has the form
abbrev pub IsScript : List ℕ → Type 0
IsScript text = HasForm line_of text

-- what the lines of a script say
abbrev pub lines_of : List ℕ → List Line
lines_of text = said_in line_of text

-- the number of the first line of another form; lines count from 1
abbrev pub first_other_line : List ℕ → Option ℕ
first_other_line text = first_other line_of text
