-- How often the calls of a run compare.
use Rattle.std.proofs.Common.{◌≡◌, ℕ, zero, suc, ◌+◌, ◌*◌, ◌≤◌, Bool, true, false, ◌&&◌, not, cond, ltb, leb, List, [], ◌∷◌, length, take, Some, arith}
use Rattle.std.specs.Prelude.{slice_get}
use Rattle.std.proofs.lemmas.Bool.{and_parts, leb-true}
use Rattle.giputils_bounded.specs.Prelude.{AreBelow, AreDistinct, floor_log2, is_held, key_limit}
use Rattle.giputils_heap.specs.Record.{Entry, comparison_bound, most_comparisons, held_after, held_from, keeps_counts_from}
use Rattle.giputils_heap.specs.declared.run.HeapCall.{HeapCall}
use Rattle.giputils_heap.specs.declared.run.HeapCall.TheVariants.{Push, Pop, Up, Down, Update, Rebuild, Clear, Len, IsEmpty}
use Rattle.giputils_bounded.proofs.KeySets.{length-le_limit}
use Rattle.giputils_bounded.proofs.Levels.{floor_log2-below}

-- a bound that is owed in one case, and nothing in the other
within_either : (b : Bool) (m most : ℕ) → m ≤ most → cond b m 0 ≤ most
within_either true m most within = within
within_either false m most within = omega arith

module _ {T : Type 0} (number : T → ℕ) where
  -- no call compares oftener than its kind can: fewer than 2^32 keys are held
  pub comparison_bound-most : (held : List T) (call : HeapCall T) → AreDistinct number held → AreBelow number key_limit held
      → comparison_bound number held call ≤ most_comparisons call
  comparison_bound-most held call distinct below =
      let few : length held ≤ 4294967295 = length-le_limit number key_limit held distinct below in
      let log : floor_log2 (length held) ≤ 31 = floor_log2-below 31 (length held) (omega arith) in
      let log_next : floor_log2 (length held + 1) ≤ 32 = floor_log2-below 32 (length held + 1) (omega arith) in
      within call few log log_next
    where
      within : (c : HeapCall T) → length held ≤ key_limit → floor_log2 (length held) ≤ 31 → floor_log2 (length held + 1) ≤ 32
          → comparison_bound number held c ≤ most_comparisons c
      within (Push v) few log log_next = within_either (ltb (number v) key_limit && not (is_held number held v)) (floor_log2 (length held + 1)) 62 (omega arith)
      within Pop few log log_next = omega arith
      within (Up v) few log log_next = within_either (is_held number held v) (floor_log2 (length held)) 62 (omega arith)
      within (Down v) few log log_next = within_either (is_held number held v) (2 * floor_log2 (length held)) 62 (omega arith)
      within (Update v) few log log_next = within_either (is_held number held v) (2 * floor_log2 (length held)) 62 (omega arith)
      within Rebuild few log log_next = omega arith
      within Clear few log log_next = omega arith
      within Len few log log_next = omega arith
      within IsEmpty few log log_next = omega arith

  module _ {C : Type 0} where
    -- a step of a record that keeps its counts compares no oftener than its bound
    pub keeps_count_at_step : (held : List T) (entries : List (Entry T C)) → keeps_counts_from number held entries ≡ true → (i : ℕ) (e : Entry T C)
        → slice_get entries i ≡ Some e → e.comparisons ≤ comparison_bound number (held_from number held (take i entries)) e.call
    keeps_count_at_step held [] keeps i e found = cc
    keeps_count_at_step held (x ∷ entries) keeps zero e found =
        let same : x ≡ e = cc in
        let parts =
        and_parts (leb x.comparisons (comparison_bound number held x.call))
        (keeps_counts_from number (held_after number held x.call x.reply) entries) keeps
        in
        rw (← same) (leb-true x.comparisons (comparison_bound number held x.call) parts.0)
    keeps_count_at_step held (x ∷ entries) keeps (suc i) e found =
        keeps_count_at_step (held_after number held x.call x.reply) entries
        (and_parts (leb x.comparisons (comparison_bound number held x.call)) (keeps_counts_from number (held_after number held x.call x.reply) entries) keeps).1
        i e found
