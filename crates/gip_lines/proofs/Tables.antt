-- The tables of ranks that a script's lines leave, and the steps that compare by them.
use Rattle.std.proofs.Common.{◌≡◌, ℕ, zero, suc, ◌+◌, ◌<◌, ◌≤◌, Bool, true, false, cond, List, [], ◌∷◌, ◌++◌, length, drop, get_or, refl, ap, sym, ◌∙◌, subst, arith, take, append-nil}
use Rattle.std.proofs.lemmas.List.{take_more}
use Rattle.std.proofs.Math.Seq.{drop-cons}
use Rattle.std.proofs.Math.Nat.{add-zero}
use Rattle.std.proofs.Math.Numerals.{add-one, suc-eq-add-one}
use Rattle.std.proofs.lemmas.List.{get_or-drop, length-drop}
use Rattle.gip_lines.specs.Scripts.Steps.{Table, call_of, gives_ranks, step_of, steps_from, tables_from}
use Rattle.std.proofs.lemmas.List.Elements.{All-nil, All-cons}
use Rattle.giputils_bounded.specs.Bounds.{count_limit}
use Rattle.giputils_heap.specs.Record.{CanCount}
use Rattle.gip_lines.specs.Scripts.Replies.{ranks_after}
use Rattle.gip_lines.specs.declared.scripts.lines.Line.{Line}
use Rattle.gip_lines.specs.declared.scripts.lines.Line.TheVariants as line
use Rattle.giputils_heap.specs.declared.run.HeapCall.{HeapCall}
use Rattle.giputils_heap.specs.declared.run.HeapStep.{HeapStep}

-- the ranks after some lines
abbrev pub ranks_from : List ℕ → List Line → List ℕ
ranks_from ranks [] = ranks
ranks_from ranks (said ∷ lines) = ranks_from (ranks_after said ranks) lines

pub steps_from-append : (ranks : List ℕ) (lines : List Line) (said : Line)
    → steps_from ranks (lines ++ said ∷ []) ≡ steps_from ranks lines ++ step_of (ranks_after said (ranks_from ranks lines)) said ∷ []
steps_from-append ranks [] said = refl
steps_from-append ranks (first ∷ lines) said =
    ap (λ steps. step_of (ranks_after first ranks) first ∷ steps) (steps_from-append (ranks_after first ranks) lines said)

pub ranks_from-append : (ranks : List ℕ) (lines : List Line) (said : Line) → ranks_from ranks (lines ++ said ∷ []) ≡ ranks_after said (ranks_from ranks lines)
ranks_from-append ranks [] said = refl
ranks_from-append ranks (first ∷ lines) said = ranks_from-append (ranks_after first ranks) lines said

-- one more line adds a table where it gives ranks
pub tables_from-append : (ranks : List ℕ) (lines : List Line) (said : Line)
    → tables_from ranks (lines ++ said ∷ []) ≡ tables_from ranks lines ++ cond (gives_ranks said) (record { 0 = ranks_after said (ranks_from ranks lines) } ∷ []) []
tables_from-append ranks [] said = refl
tables_from-append ranks (first ∷ lines) said =
    let left : List ℕ = ranks_after first ranks in
    let more = tables_from-append left lines said in
    let added : List Table = cond (gives_ranks said) (record { 0 = ranks_after said (ranks_from left lines) } ∷ []) [] in
    elim (gives_ranks first) as (λ b. cond b (record { 0 = left } ∷ tables_from left (lines ++ said ∷ [])) (tables_from left (lines ++ said ∷ []))
    ≡ cond b (record { 0 = left } ∷ tables_from left lines) (tables_from left lines) ++ added) [
      | true ↦ ap (λ tables. record { 0 = left } ∷ tables) more
      | false ↦ more
    ]

-- any other line leaves the ranks
pub ranks_after-other : (said : Line) (ranks : List ℕ) → gives_ranks said ≡ false → ranks_after said ranks ≡ ranks
ranks_after-other (line.Rank k r) ranks other = cc
ranks_after-other (line.Ranks given) ranks other = cc
ranks_after-other said ranks other = refl

-- the tables from place t on are that of these ranks, and those that the lines still to come leave
pub record IsAtTable (tables : List Table) (t : ℕ) (ranks : List ℕ) (lines : List Line) : Type 0 where
  pub rest : drop t tables ≡ record { 0 = ranks } ∷ tables_from ranks lines

pub IsAtTable-inside : (tables : List Table) (t : ℕ) (ranks : List ℕ) (lines : List Line) → IsAtTable tables t ranks lines → t < length tables
IsAtTable-inside tables t ranks lines at =
    let some : length (drop t tables) ≡ length (tables_from ranks lines) + 1 = ap length at.rest ∙ suc-eq-add-one (length (tables_from ranks lines)) in
    omega (arith, length-drop t tables)

pub IsAtTable-item : (tables : List Table) (t : ℕ) (ranks : List ℕ) (lines : List Line) (d : Table) → IsAtTable tables t ranks lines
    → get_or tables t d ≡ record { 0 = ranks }
IsAtTable-item tables t ranks lines d at = rw (get_or-drop t tables 0 d, add-zero) at (ap (λ xs. get_or xs 0 d) at.rest)

step_rest : (tables : List Table) (t : ℕ) (x : Table) (rest : List Table) → drop t tables ≡ x ∷ rest → drop (t + 1) tables ≡ rest
step_rest [] zero x rest e = cc
step_rest (y ∷ tables) zero x rest e = cc
step_rest [] (suc t) x rest e = cc
step_rest (y ∷ tables) (suc t) x rest e = rw (add-one (suc t)) (rw (add-one t) at (step_rest tables t x rest e))

pub added-le_one : (n : ℕ) (b : Bool) → n ≡ cond b 1 0 → n ≤ 1
added-le_one n true is = omega (arith, is)
added-le_one n false is = omega (arith, is)

-- one line on
pub IsAtTable-next : (tables : List Table) (t : ℕ) (ranks : List ℕ) (said : Line) (lines : List Line) → IsAtTable tables t ranks (said ∷ lines)
    → IsAtTable tables (t + cond (gives_ranks said) 1 0) (ranks_after said ranks) lines
IsAtTable-next tables t ranks said lines at =
    let left : List ℕ = ranks_after said ranks in
    let AtNext : Bool → Type 0 = λ b. gives_ranks said ≡ b
    → drop t tables ≡ record { 0 = ranks } ∷ cond b (record { 0 = left } ∷ tables_from left lines) (tables_from left lines)
    → IsAtTable tables (t + cond b 1 0) left lines in
    let by_case : (b : Bool) → AtNext b =
    elim [
      | true ↦ λ _ rest. record { rest = step_rest tables t record { 0 = ranks } (record { 0 = left } ∷ tables_from left lines) rest }
      | false ↦ λ other rest.
          rw add-zero record { rest = rest ∙ ap (λ (rs : List ℕ). record { 0 = rs } ∷ tables_from left lines) (sym (ranks_after-other said ranks other)) }
    ] in
    by_case (gives_ranks said) refl at.rest

module _ (lines : List Line) (i : ℕ) (d : Line) (inside : i < length lines) where
  -- the ranks after one more line
  pub ranks_from-more : (ranks : List ℕ) → ranks_from ranks (take (i + 1) lines) ≡ ranks_after (get_or lines i d) (ranks_from ranks (take i lines))
  ranks_from-more ranks = rw (take_more lines i d inside) (ranks_from-append ranks (take i lines) (get_or lines i d))

  -- the place of its table
  pub IsAtTable-more : (tables : List Table) (t n : ℕ) (ranks : List ℕ) → n ≡ cond (gives_ranks (get_or lines i d)) 1 0
      → IsAtTable tables t (ranks_from ranks (take i lines)) (drop i lines)
      → IsAtTable tables (t + n) (ranks_from ranks (take (i + 1) lines)) (drop (i + 1) lines)
  IsAtTable-more tables t n ranks is at =
      let AtLines : List Line → Type 0 = λ rest. IsAtTable tables t (ranks_from ranks (take i lines)) rest in
      let here = subst AtLines (drop-cons lines i d inside) at in
      rw (is, ranks_from-more ranks, plus_one_drop) (IsAtTable-next tables t (ranks_from ranks (take i lines)) (get_or lines i d) (drop (suc i) lines) here)
    where
      plus_one_drop : drop (i + 1) lines ≡ drop (suc i) lines
      plus_one_drop = ap (λ n. drop n lines) (sym (suc-eq-add-one i))

  same_step : (s : HeapStep ℕ Table) (call : HeapCall ℕ) (c : Table) (n : ℕ) → s.call ≡ call → s.cmp.comparer ≡ c → s.cmp.count ≡ n
      → s ≡ record { call = call; cmp = record { comparer = c; count = n } }
  same_step s call c n is_call is_comparer is_count = rw (← is_call, ← is_comparer, ← is_count) refl

  -- its step
  pub steps_from-more : (ranks : List ℕ) (steps : List (HeapStep ℕ Table)) (s : HeapStep ℕ Table) → steps ≡ steps_from ranks (take i lines)
      → s.call ≡ call_of (get_or lines i d) → s.cmp.comparer ≡ record { 0 = ranks_from ranks (take (i + 1) lines) } → s.cmp.count ≡ 0
      → steps ++ s ∷ [] ≡ steps_from ranks (take (i + 1) lines)
  steps_from-more ranks steps s so_far is_call is_comparer is_count =
      let left : s.cmp.comparer ≡ record { 0 = ranks_after (get_or lines i d) (ranks_from ranks (take i lines)) } =
      is_comparer ∙ ap (λ (rs : List ℕ). record { 0 = rs }) (ranks_from-more ranks)
      in
      rw (take_more lines i d inside, so_far, same_step s _ _ _ is_call left is_count) (sym (steps_from-append ranks (take i lines) (get_or lines i d)))

  -- and the table that it adds, if any
  tables_from-more : (start : List ℕ) (first : Table) (tables : List Table) → tables ≡ first ∷ tables_from start (take i lines)
      → tables ++ cond (gives_ranks (get_or lines i d)) (record { 0 = ranks_from start (take (i + 1) lines) } ∷ []) []
      ≡ first ∷ tables_from start (take (i + 1) lines)
  tables_from-more start first tables so_far =
      rw (take_more lines i d inside, so_far, ranks_from-append start (take i lines) (get_or lines i d))
      (ap (λ more. first ∷ more) (sym (tables_from-append start (take i lines) (get_or lines i d))))

  -- a line that gives ranks adds a table of them
  pub tables_from-gives : (start : List ℕ) (first : Table) (tables : List Table) → tables ≡ first ∷ tables_from start (take i lines)
      → gives_ranks (get_or lines i d) ≡ true
      → tables ++ record { 0 = ranks_from start (take (i + 1) lines) } ∷ [] ≡ first ∷ tables_from start (take (i + 1) lines)
  tables_from-gives start first tables so_far gives = rw gives at (tables_from-more start first tables so_far)

  -- another one adds none
  pub tables_from-other : (start : List ℕ) (first : Table) (tables : List Table) → tables ≡ first ∷ tables_from start (take i lines)
      → gives_ranks (get_or lines i d) ≡ false → tables ≡ first ∷ tables_from start (take (i + 1) lines)
  tables_from-other start first tables so_far other =
      sym (append-nil tables) ∙ rw other at (tables_from-more start first tables so_far)

-- no step's counter was asked yet
pub CanCount-steps_from : (ranks : List ℕ) (lines : List Line) → CanCount (steps_from ranks lines)
CanCount-steps_from ranks [] = All-nil (λ s. s.cmp.count ≤ count_limit)
CanCount-steps_from ranks (said ∷ lines) =
    All-cons (λ s. s.cmp.count ≤ count_limit) (step_of (ranks_after said ranks) said) (steps_from (ranks_after said ranks) lines) (omega arith)
    (CanCount-steps_from (ranks_after said ranks) lines)
