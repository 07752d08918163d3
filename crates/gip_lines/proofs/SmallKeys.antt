-- The lines of a script name small keys.
--
-- How it is proved: chains of `if` on names. If code and definition test in the same order, the goals close. One lemma
-- on `cond` proves a property of every branch. A `match` with a catch-all closes by `cc`.
use Rattle.std.proofs.Common.{◌≡◌, ℕ, ◌≤◌, Bool, true, false, cond, List, [], ◌∷◌, map, refl, ap, ◌∙◌, Option, Some, None, le-leb, arith}
use Rattle.std.specs.List.{list_all}
use Rattle.std.specs.Option.{option_map}
use Rattle.std.specs.Prelude.{nat_le}
use Rattle.gip_lines.specs.Scripts.Lines.{greatest_key, greatest_rank, without_words, only_key, with_pair, pairs_of, rank_line, none_given, given_with, ranks_line, line_of_words, line_of, has_small_key}
use Rattle.gip_lines.specs.declared.scripts.lines.Line.{Line}
use Rattle.gip_lines.specs.declared.scripts.lines.Line.TheVariants.{Push, Pop, Len, Clear, Rank, Ranks, Up, Down}
use Rattle.giputils_text.specs.Lines.{space, pieces}
use Rattle.giputils_text.specs.Numbers.{number_up_to}
use Rattle.giputils_text.proofs.NumberLemmas.{number_up_to-at_most}

small_key : (word : List ℕ) (k : ℕ) → number_up_to greatest_key word ≡ Some k → nat_le k greatest_key ≡ true
small_key word k e = le-leb k greatest_key (number_up_to-at_most greatest_key word k e)

-- what a line says has a small key, if it has one
abbrev IsSmall : Option Line → Type 0
IsSmall reading = (said : Line) → reading ≡ Some said → has_small_key said ≡ true

IsSmall-either : (b : Bool) (x y : Option Line) → IsSmall x → IsSmall y → IsSmall (cond b x y)
IsSmall-either true x y small other = small
IsSmall-either false x y small other = other

IsSmall-none : IsSmall None
IsSmall-none said e = cc

IsSmall-without_words : (line : Line) (words : List (List ℕ)) → has_small_key line ≡ true → IsSmall (without_words line words)
IsSmall-without_words line [] small said e = let same : said ≡ line = cc in ap has_small_key same ∙ small
IsSmall-without_words line (word ∷ words) small said e = cc

IsSmall-named : (Named : ℕ → Line) (words : List (List ℕ)) → ((k : ℕ) → has_small_key (Named k) ≡ nat_le k greatest_key)
    → IsSmall (option_map Named (only_key words))
IsSmall-named Named [] is said e = cc
IsSmall-named Named (key ∷ []) is said e =
    let by_case : (o : Option ℕ) → number_up_to greatest_key key ≡ o → option_map Named o ≡ Some said → has_small_key said ≡ true =
    elim [
      | None ↦ λ _ f. cc
      | Some k ↦ λ h f. let same : said ≡ Named k = cc in ap has_small_key same ∙ is k ∙ small_key key k h
    ] in
    by_case (number_up_to greatest_key key) refl e
IsSmall-named Named (key ∷ word ∷ words) is said e = cc

rank_of_pair : (word : List ℕ) (key rank : Option ℕ) (pairs : Option (List (ℕ × ℕ))) → number_up_to greatest_key word ≡ key
    → IsSmall (rank_line (with_pair key rank pairs))
rank_of_pair word (Some k) (Some r) (Some []) e said f = let same : said ≡ Rank k r = cc in ap has_small_key same ∙ small_key word k e
rank_of_pair word (Some k) (Some r) (Some (p ∷ pairs)) e said f = cc
rank_of_pair word (Some k) (Some r) None e said f = cc
rank_of_pair word (Some k) None pairs e said f = cc
rank_of_pair word None rank pairs e said f = cc

IsSmall-rank : (words : List (List ℕ)) → IsSmall (rank_line (pairs_of words))
IsSmall-rank [] said e = cc
IsSmall-rank (word ∷ []) said e = cc
IsSmall-rank (key ∷ rank ∷ words) said e =
    rank_of_pair key (number_up_to greatest_key key) (number_up_to greatest_rank rank) (pairs_of words) refl said e

IsSmall-ranks : (pairs : Option (List (ℕ × ℕ))) → IsSmall (ranks_line pairs)
IsSmall-ranks None said e = cc
IsSmall-ranks (Some pairs) said e =
    let line : Line = Ranks (given_with none_given pairs) in
    IsSmall-either _ (Some line) None (λ s f. let same : s ≡ line = cc in ap has_small_key same) IsSmall-none said e

IsSmall-words : (words : List (List ℕ)) → IsSmall (line_of_words words)
IsSmall-words [] = IsSmall-none
IsSmall-words (name ∷ words) =
    IsSmall-either _ _ _ (IsSmall-named Push words (λ k. refl))
    (IsSmall-either _ _ _ (IsSmall-without_words Pop words refl)
    (IsSmall-either _ _ _ (IsSmall-without_words Len words refl)
    (IsSmall-either _ _ _ (IsSmall-without_words Clear words refl)
    (IsSmall-either _ _ _ (IsSmall-rank words)
    (IsSmall-either _ _ _ (IsSmall-ranks (pairs_of words))
    (IsSmall-either _ _ _ (IsSmall-named Up words (λ k. refl))
    (IsSmall-either _ _ _ (IsSmall-named Down words (λ k. refl)) IsSmall-none)))))))

-- the lines of a script name small keys
pub small_keys : (lines : List (List ℕ)) (said : List Line) → map line_of lines ≡ map Some said → list_all has_small_key said ≡ true
small_keys [] [] e = refl
small_keys [] (s ∷ said) e = cc
small_keys (line ∷ lines) [] e = cc
small_keys (line ∷ lines) (s ∷ said) e =
    let first : line_of line ≡ Some s = cc in
    let rest : map line_of lines ≡ map Some said = cc in
    rw (IsSmall-words (pieces space line) s first) (small_keys lines said rest)
