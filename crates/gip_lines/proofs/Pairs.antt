-- The pairs of a key and its rank in a line, as far as they have been read.
--
-- How it is proved: words of a line by pairs. The invariant is the meaning of the line, as a function of the pairs that
-- were read and of the meaning of the rest.
use Rattle.std.proofs.Common.{◌≡◌, ℕ, zero, suc, ◌+◌, ◌<◌, List, [], ◌∷◌, length, take, get_or, refl, ap, arith, Option, Some, None, add-one}
use Rattle.std.specs.Prelude.{◌&&◌, nat_lt, nat_le, if◌then◌else◌, slice_set}
use Rattle.std.specs.Option.{option_map_or}
use Rattle.gip_lines.specs.Scripts.Lines.{greatest_key, greatest_rank, most_pairs, without_words, only_key, with_pair, pairs_of, rank_line, given_with}
use Rattle.gip_lines.specs.Scripts.Replies.{ranks_with}
use Rattle.gip_lines.specs.declared.scripts.lines.Line.{Line}
use Rattle.gip_lines.specs.declared.scripts.lines.Line.TheVariants.{Ranks}
use Rattle.giputils_text.proofs.Pieces.{pieces-cons}
use Rattle.giputils_text.specs.Lines.{space, pieces}
use Rattle.giputils_text.specs.Numbers.{number_up_to}

-- one pair and more words are no line of one rank
rank_line-with_two : (pair : ℕ × ℕ) (key rank : Option ℕ) (pairs : Option (List (ℕ × ℕ)))
    → rank_line (with_pair (Some pair.0) (Some pair.1) (with_pair key rank pairs)) ≡ None
rank_line-with_two pair (Some k) (Some r) (Some pairs) = refl
rank_line-with_two pair (Some k) (Some r) None = refl
rank_line-with_two pair (Some k) None pairs = refl
rank_line-with_two pair None rank pairs = refl

rank_line-words : (pair : ℕ × ℕ) (first : List ℕ) (more : List (List ℕ))
    → rank_line (with_pair (Some pair.0) (Some pair.1) (pairs_of (first ∷ more))) ≡ None
rank_line-words pair first [] = refl
rank_line-words pair first (second ∷ more) =
    rank_line-with_two pair (number_up_to greatest_key first) (number_up_to greatest_rank second) (pairs_of more)

pub rank_line-more : (key rank : ℕ) (rest : List ℕ)
    → rank_line (with_pair (Some key) (Some rank) (pairs_of (pieces space rest))) ≡ None
rank_line-more key rank rest =
    let (first, more, e) = pieces-cons space rest in
    rw e (rank_line-words (key, rank) first more)

-- the line of some pairs, after n of them have given these ranks
abbrev pub line_after : ℕ → List (Option ℕ) → Option (List (ℕ × ℕ)) → Option Line
line_after n given (Some pairs) =
    if nat_lt 0 (n + length pairs) && nat_le (n + length pairs) most_pairs then Some (Ranks (given_with given pairs)) else None
line_after n given None = None

-- the ranks with one more of those that are given
pub ranks_with-more_some : (given : List (Option ℕ)) (ranks : List ℕ) (i rank : ℕ) → i < length given → get_or given i None ≡ Some rank
    → slice_set (ranks_with (take i given) ranks) i rank ≡ ranks_with (take (i + 1) given) ranks
ranks_with-more_some [] ranks i rank within e = absurd (omega arith)
ranks_with-more_some (g ∷ given) [] zero rank within e = refl
ranks_with-more_some (g ∷ given) [] (suc i) rank within e = rw add-one refl
ranks_with-more_some (g ∷ given) (old ∷ ranks) zero rank within e = rw e refl
ranks_with-more_some (g ∷ given) (old ∷ ranks) (suc i) rank within e =
    rw add-one (ap (λ more. option_map_or (λ r. r) g old ∷ more) (rw add-one at (ranks_with-more_some given ranks i rank (omega arith) e)))

pub ranks_with-more_none : (given : List (Option ℕ)) (ranks : List ℕ) (i : ℕ) → i < length given → get_or given i None ≡ None
    → ranks_with (take i given) ranks ≡ ranks_with (take (i + 1) given) ranks
ranks_with-more_none [] ranks i within e = absurd (omega arith)
ranks_with-more_none (g ∷ given) [] zero within e = refl
ranks_with-more_none (g ∷ given) [] (suc i) within e = rw add-one refl
ranks_with-more_none (g ∷ given) (old ∷ ranks) zero within e = rw e refl
ranks_with-more_none (g ∷ given) (old ∷ ranks) (suc i) within e =
    rw add-one (ap (λ more. option_map_or (λ r. r) g old ∷ more) (rw add-one at (ranks_with-more_none given ranks i (omega arith) e)))

-- a line that stands alone, and one with a single key, have no more words
pub without_words-more : (line : Line) (rest : List ℕ) → without_words line (pieces space rest) ≡ None
without_words-more line rest = let (first, more, e) = pieces-cons space rest in rw e refl

pub only_key-more : (key rest : List ℕ) → only_key (key ∷ pieces space rest) ≡ None
only_key-more key rest = let (first, more, e) = pieces-cons space rest in rw e refl
