-- A record of a heap that answers, each step by the ranks as its line leaves them, has the replies of the script.
use Rattle.std.proofs.Common.{◌≡◌, ℕ, suc, Bool, true, List, [], ◌∷◌, ◌++◌, length, refl, ap, sym, subst, ◌∙◌, arith, Option, Some, None, append_assoc}
use Rattle.std.specs.Prelude.{slice_set}
use Rattle.std.proofs.lemmas.Bool.{and_parts, and_from, cond_both}
use Rattle.std.specs.List.{flat_map, list_all}
use Rattle.gip_lines.specs.Scripts.Lines.{has_small_key}
use Rattle.gip_lines.specs.Scripts.Steps.{Table, call_of, steps_from, reply_text, reply_line, is_line_reply}
use Rattle.gip_lines.specs.Scripts.Replies.{ranks_after, held_after, reply_to, text_from}
use Rattle.gip_lines.specs.declared.scripts.lines.Line.{Line}
use Rattle.gip_lines.specs.declared.scripts.lines.Line.TheVariants as line
use Rattle.gip_lines.proofs.MatchingReplies.{number, matches}
use Rattle.giputils_heap.specs.Record as run
use Rattle.giputils_bounded.specs.Prelude.{agree_on, by_rank, without}
use Rattle.giputils_heap.specs.declared.run.HeapCall.{HeapCall}
use Rattle.giputils_heap.specs.declared.run.HeapCall.TheVariants as call
use Rattle.giputils_heap.specs.declared.run.HeapReply.{HeapReply}
use Rattle.giputils_heap.specs.declared.run.HeapStep.{HeapStep}
use Rattle.giputils_bounded.proofs.Preorders.{IsLawful-everywhere}
use Rattle.giputils_heap.proofs.ComparerOrders.{IsTotalPreorder-by_rank, AgreesExcept-by_rank}
use Rattle.giputils_heap.proofs.Steady.{agrees_with_last-same}
use Rattle.giputils_text.specs.Lines.{line_feed}

-- the replies are the script's for some refusals, and each is one that a line can have
abbrev pub Match : List ℕ → List ℕ → List Line → List (HeapReply ℕ) → Type 0
Match ranks held lines replies =
    (refusals : List Bool) × (flat_map reply_line replies ≡ text_from ranks held lines refusals) × (list_all is_line_reply replies ≡ true)

-- tables compare by rank and number
abbrev at_least : Table → ℕ → ℕ → Bool
at_least c = by_rank number c.0

-- a comparer that was lent last has these ranks
abbrev HasRanks : List ℕ → Option Table → Type 0
HasRanks ranks None = Unit {0}
HasRanks ranks (Some c) = c.0 ≡ ranks

HasRanks-if_empty : (ranks held : List ℕ) (steady : Bool) (last : Option Table) → HasRanks ranks last
    → HasRanks ranks (run.start_if_empty record { held = held; steady = steady; last = last }).last
HasRanks-if_empty ranks [] steady last has = tt
HasRanks-if_empty ranks (k ∷ held) steady last has = has

steady-if_empty : (held : List ℕ) (steady : Bool) (last : Option Table) → steady ≡ true
    → (run.start_if_empty record { held = held; steady = steady; last = last }).steady ≡ true
steady-if_empty [] steady last so_far = refl
steady-if_empty (k ∷ held) steady last so_far = so_far

-- a call that is lent the ranks of the last one agrees with it
agrees_unchanged : (last : Option Table) (ranks : List ℕ) (made : HeapCall ℕ) (held : List ℕ) → HasRanks ranks last
    → run.agrees_with_last number at_least last made record { 0 = ranks } held ≡ true
agrees_unchanged last ranks made held has =
    agrees_with_last-same number at_least last made record { 0 = ranks } held (λ b is. ap (by_rank number) (subst (HasRanks ranks) is has))

-- and so does an Update of the key whose rank has changed
agrees_changed : (last : Option Table) (ranks : List ℕ) (key rank : ℕ) (held : List ℕ) → HasRanks ranks last
    → run.agrees_with_last number at_least last (call.Update key) record { 0 = slice_set ranks key rank } held ≡ true
agrees_changed None ranks key rank held has = refl
agrees_changed (Some c) ranks key rank held has =
    ap (λ rs. agree_on (by_rank number rs) (by_rank number (slice_set ranks key rank)) (without number held key)) has ∙ AgreesExcept-by_rank number key ranks rank held

-- each line's call agrees with those before it, as far as they count
agrees_at : (p : run.Progress ℕ Table) (ranks : List ℕ) (said : Line) → HasRanks ranks p.last
    → run.agrees_with_last number at_least (run.start_anew p (call_of said)).last (call_of said) record { 0 = ranks_after said ranks } p.held ≡ true
agrees_at p ranks (line.Ranks given) has = refl
agrees_at p ranks (line.Rank key rank) has =
    agrees_changed (run.start_if_empty p).last ranks key rank p.held (HasRanks-if_empty ranks p.held p.steady p.last has)
agrees_at p ranks said has =
    agrees_unchanged (run.start_if_empty p).last ranks (call_of said) p.held (HasRanks-if_empty ranks p.held p.steady p.last has)

steady-anew : (p : run.Progress ℕ Table) (made : HeapCall ℕ) → p.steady ≡ true → (run.start_anew p made).steady ≡ true
steady-anew p call.Rebuild steady = refl
steady-anew p made steady = steady-if_empty p.held p.steady p.last steady

-- so the steps of a script are steady
steady_at : (p : run.Progress ℕ Table) (ranks : List ℕ) (said : Line) → p.steady ≡ true → HasRanks ranks p.last
    → run.is_steady_at number at_least p (call_of said) record { 0 = ranks_after said ranks } ≡ true
steady_at p ranks said steady has =
    let after : List ℕ = ranks_after said ranks in
    let so_far = steady-anew p (call_of said) steady in
    let lawful = IsLawful-everywhere (by_rank number after) (IsTotalPreorder-by_rank number after) (run.compared_keys p.held (call_of said)) in
    let agrees = agrees_at p ranks said has in
    cond_both (run.may_compare (call_of said)) _ _ (λ b. b ≡ true) (λ _. and_from _ _ so_far (and_from _ _ lawful agrees)) (λ _. so_far)

-- and the comparer that was lent last has the ranks that the line leaves
ranks_at : (p : run.Progress ℕ Table) (ranks : List ℕ) (said : Line) (reply : HeapReply ℕ) → HasRanks ranks p.last
    → HasRanks (ranks_after said ranks) (run.after_call number at_least p (call_of said) record { 0 = ranks_after said ranks } reply).last
ranks_at p ranks line.Len reply has = HasRanks-if_empty ranks p.held p.steady p.last has
ranks_at p ranks line.Clear reply has = HasRanks-if_empty ranks p.held p.steady p.last has
ranks_at p ranks said reply has = refl

answered_from : (lines : List Line) (ranks : List ℕ) (after : List (HeapStep ℕ Table)) (replies : List (HeapReply ℕ)) (p : run.Progress ℕ Table)
    → length after ≡ length lines → length replies ≡ length lines → p.steady ≡ true → HasRanks ranks p.last → list_all has_small_key lines ≡ true
    → run.answers_from number at_least p (run.record_of (steps_from ranks lines) after replies) ≡ true → Match ranks p.held lines replies
answered_from [] ranks after [] p same one_each steady has small answers = ([], refl, refl)
answered_from (said ∷ lines) ranks (t ∷ after) (reply ∷ replies) p same one_each steady has small answers =
    let left : List ℕ = ranks_after said ranks in
    let c : Table = record { 0 = left } in
    let q : run.Progress ℕ Table = run.after_call number at_least p (call_of said) c reply in
    let now = steady_at p ranks said steady has in
    let (may, rest) = and_parts (run.may_answer number at_least p (call_of said) c reply) (run.answers_from number at_least q (run.record_of (steps_from left lines) after replies)) answers in
    let (small', smaller) = and_parts (has_small_key said) (list_all has_small_key lines) small in
    let m = matches said left p.held reply small' (subst (λ b. run.may_reply number (by_rank number left) b p.held (call_of said) reply ≡ true) now may) in
    let (refusals, text, known) = answered_from lines left after replies q (omega arith) (omega arith) now (ranks_at p ranks said reply has) smaller rest in
    let later = flat_map reply_line replies in
    let held : q.held ≡ held_after said m.refused left p.held = m.after in (
      m.refused ∷ refusals,
      append_assoc (reply_text reply) (line_feed ∷ []) later ∙ ap (λ t. t ++ line_feed ∷ later) m.text
          ∙ ap (λ t. reply_to said m.refused left p.held ++ line_feed ∷ t) (text ∙ ap (λ h. text_from left h lines refusals) held),
      and_from _ _ m.is_known known,
    )
answered_from lines ranks after replies p same one_each steady has small answers = absurd (omega arith)

length-steps_from : (ranks : List ℕ) (lines : List Line) → length (steps_from ranks lines) ≡ length lines
length-steps_from ranks [] = refl
length-steps_from ranks (said ∷ lines) = ap suc (length-steps_from (ranks_after said ranks) lines)

-- a run of a script's lines on a heap answers the script's text
pub run_of_lines : (ranks : List ℕ) (lines : List Line) (before after : List (HeapStep ℕ Table)) (replies : List (HeapReply ℕ))
    → before ≡ steps_from ranks lines → length after ≡ length before → length replies ≡ length before
    → list_all has_small_key lines ≡ true → run.Answers number at_least (run.record_of before after replies)
    → Match ranks [] lines replies
run_of_lines ranks lines before after replies steps same one_each small answers =
    let long : length before ≡ length lines = ap length steps ∙ length-steps_from ranks lines in
    answered_from lines ranks after replies run.start (same ∙ long) (one_each ∙ long) refl tt small
    (ap (λ ss. run.answers_from number at_least run.start (run.record_of ss after replies)) (sym steps) ∙ answers)
