-- How a script is run on a heap: a call for each line, and a line of text for each reply.
use Rattle.std.specs.Prelude.{ℕ, ◌+◌, Bool, true, false, List, [], ◌∷◌, ◌++◌, codes, decimal, if◌then◌else◌, Some, None}
use Rattle.gip_lines.specs.Scripts.Lines.{greatest_key}
use Rattle.gip_lines.specs.Scripts.Replies.{ranks_after}
use Rattle.giputils_bounded.specs.declared.comparers.RankTable.{RankTable}
use Rattle.gip_lines.specs.declared.scripts.lines.Line.{Line}
use Rattle.gip_lines.specs.declared.scripts.lines.Line.TheVariants as line
use Rattle.giputils_heap.specs.declared.run.HeapCall.{HeapCall}
use Rattle.giputils_heap.specs.declared.run.HeapCall.TheVariants as call
use Rattle.giputils_heap.specs.declared.run.HeapReply.{HeapReply}
use Rattle.giputils_heap.specs.declared.run.HeapStep.{HeapStep}
use Rattle.giputils_heap.specs.declared.run.HeapReply.TheVariants.{Done, Refused, Skipped, Popped, Length, Empty}
use Rattle.giputils_text.specs.Lines.{line_feed}

-- the call that a line makes
abbrev pub call_of : Line → HeapCall ℕ
call_of (line.Push key) = call.Push key
call_of line.Pop = call.Pop
call_of line.Len = call.Len
call_of line.Clear = call.Clear
call_of (line.Rank key rank) = call.Update key
call_of (line.Ranks given) = call.Rebuild
call_of (line.Up key) = call.Up key
call_of (line.Down key) = call.Down key

-- whether a line's call can have this reply
abbrev pub is_line_reply : HeapReply ℕ → Bool
is_line_reply Done = true
is_line_reply Refused = true
is_line_reply Skipped = false
is_line_reply (Popped key) = true
is_line_reply (Length n) = true
is_line_reply (Empty b) = false

-- the text of a reply; those that no line can have are left out
abbrev pub reply_text : HeapReply ℕ → List ℕ
reply_text Done = codes "ok"
reply_text Refused = codes "memory"
reply_text Skipped = []
reply_text (Popped None) = codes "none"
reply_text (Popped (Some key)) = decimal key
reply_text (Length n) = decimal n
reply_text (Empty b) = []

-- the text of a reply, with a line feed
abbrev pub reply_line : HeapReply ℕ → List ℕ
reply_line reply = reply_text reply ++ line_feed ∷ []

-- whether a line gives ranks
abbrev pub gives_ranks : Line → Bool
gives_ranks (line.Rank key rank) = true
gives_ranks (line.Ranks given) = true
gives_ranks said = false

-- a table of the ranks of all keys, by which they are compared
abbrev pub Table : Type 0
Table = RankTable (greatest_key + 1)

-- the step of a line, lent a comparer by these ranks that was not yet asked
abbrev pub step_of : List ℕ → Line → HeapStep ℕ Table
step_of ranks said = record { call = call_of said; cmp = record { comparer = record { 0 = ranks }; count = 0 } }

-- the steps of some lines: each compares by the ranks as its line leaves them
abbrev pub steps_from : List ℕ → List Line → List (HeapStep ℕ Table)
steps_from ranks [] = []
steps_from ranks (said ∷ lines) = step_of (ranks_after said ranks) said ∷ steps_from (ranks_after said ranks) lines

-- the tables that the lines which give ranks leave, one after another
abbrev pub tables_from : List ℕ → List Line → List Table
tables_from ranks [] = []
tables_from ranks (said ∷ lines) =
    let left : List ℕ = ranks_after said ranks in
    if gives_ranks said then record { 0 = left } ∷ tables_from left lines else tables_from left lines
