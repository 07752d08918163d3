-- What a script answers, over the ranks of the keys and the set of those that are held. It knows nothing of a heap.
use Rattle.std.specs.Prelude.{ℕ, ◌==◌, nat_lt, nat_le, ◌&&◌, ◌||◌, Bool, false, not, List, [], ◌∷◌, ◌++◌, length, filter, slice_index, slice_set, codes, decimal, if◌then◌else◌, Option, Some, None}
use Rattle.std.specs.List.{list_any}
use Rattle.std.specs.Option.{option_map_or}
use Rattle.gip_lines.specs.declared.scripts.lines.Line.{Line}
use Rattle.gip_lines.specs.declared.scripts.lines.Line.TheVariants.{Push, Pop, Len, Clear, Rank, Ranks}
use Rattle.giputils_text.specs.Lines.{line_feed}

-- the key is held
abbrev pub is_held : ℕ → List ℕ → Bool
is_held key held = list_any (λ x. key == x) held

-- the table of ranks at the start: all are 0, and each key has its rank at its own place
abbrev pub start_ranks : List ℕ
start_ranks = 0 ∷ 0 ∷ 0 ∷ 0 ∷ 0 ∷ 0 ∷ 0 ∷ 0 ∷ 0 ∷ 0 ∷ 0 ∷ 0 ∷ 0 ∷ 0 ∷ 0 ∷ 0 ∷ []

-- the ranks, where each key that is given one has that in the place of its old one
abbrev pub ranks_with : List (Option ℕ) → List ℕ → List ℕ
ranks_with (given ∷ more) (old ∷ ranks) = option_map_or (λ rank. rank) given old ∷ ranks_with more ranks
ranks_with given ranks = ranks

-- the ranks after a line
abbrev pub ranks_after : Line → List ℕ → List ℕ
ranks_after (Rank key rank) ranks = slice_set ranks key rank
ranks_after (Ranks given) ranks = ranks_with given ranks
ranks_after line ranks = ranks

-- whether key x goes before key y: its rank is greater, or it has the same rank and is no smaller number
abbrev pub goes_before : List ℕ → ℕ → ℕ → Bool
goes_before ranks x y =
    nat_lt (slice_index ranks y) (slice_index ranks x)
    || ((slice_index ranks x == slice_index ranks y) && nat_le y x)

-- that of two keys which goes before the other
abbrev pub first_of : List ℕ → ℕ → ℕ → ℕ
first_of ranks x y = if goes_before ranks x y then x else y

-- the held key that goes before all others: of those of the greatest rank the greatest
abbrev pub greatest : List ℕ → List ℕ → Option ℕ
greatest ranks [] = None
greatest ranks (key ∷ held) = Some (option_map_or (first_of ranks key) (greatest ranks held) key)

-- the held keys without one
abbrev pub without : ℕ → List ℕ → List ℕ
without key held = filter (λ x. not (key == x)) held

-- the keys that are held after a line; where `refused` is true, memory was refused to it
abbrev pub held_after : Line → Bool → List ℕ → List ℕ → List ℕ
held_after (Push key) refused ranks held = if is_held key held || refused then held else key ∷ held
held_after Pop refused ranks held = option_map_or (λ key. without key held) (greatest ranks held) held
held_after Clear refused ranks held = []
held_after line refused ranks held = held

-- the reply to a line
abbrev pub reply_to : Line → Bool → List ℕ → List ℕ → List ℕ
reply_to (Push key) refused ranks held = if not (is_held key held) && refused then codes "memory" else codes "ok"
reply_to Pop refused ranks held = option_map_or decimal (greatest ranks held) (codes "none")
reply_to Len refused ranks held = decimal (length held)
reply_to line refused ranks held = codes "ok"

-- the replies to some lines where these are the ranks and these keys are held, each with a line feed; memory was
-- refused to the lines where `refusals` is true, and to none past its end
abbrev pub text_from : List ℕ → List ℕ → List Line → List Bool → List ℕ
text_from ranks held [] refusals = []
text_from ranks held (line ∷ lines) [] =
    let left : List ℕ = ranks_after line ranks in
    reply_to line false left held ++ line_feed ∷ text_from left (held_after line false left held) lines []
text_from ranks held (line ∷ lines) (refused ∷ refusals) =
    let left : List ℕ = ranks_after line ranks in
    reply_to line refused left held ++ line_feed ∷ text_from left (held_after line refused left held) lines refusals

-- the text of a script: a reply for each line, from no held key on, all ranks being 0
abbrev pub script_text : List Line → List Bool → List ℕ
script_text lines refusals = text_from start_ranks [] lines refusals
