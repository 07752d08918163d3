-- A reply that a heap may give, comparing by rank and number, is the script's.
--
-- How it is proved: both definitions build the list of held keys in the same way, so the lists are equal, and nothing
-- is said of sets.
use Rattle.std.proofs.Common.{◌≡◌, ℕ, ◌≤◌, Bool, true, false, not, nat_lt, List, [], ◌∷◌, length, refl, ap, arith, Some, None, leb-true, eqb-true, decimal}
use Rattle.std.proofs.lemmas.Bool.{and_parts, and_right, or_right}
use Rattle.std.proofs.Math.Bool.{or-false}
use Rattle.std.specs.List.{list_all}
use Rattle.gip_lines.specs.Scripts.Lines.{greatest_key, has_small_key}
use Rattle.gip_lines.specs.Scripts.Steps.{call_of, reply_text, is_line_reply}
use Rattle.gip_lines.specs.Scripts.Replies.{is_held, goes_before, greatest, held_after, reply_to}
use Rattle.gip_lines.specs.declared.scripts.lines.Line.{Line}
use Rattle.gip_lines.specs.declared.scripts.lines.Line.TheVariants as line
use Rattle.gip_lines.proofs.Greatest.{greatest-held}
use Rattle.giputils_bounded.specs.Prelude.{is_greatest, key_limit}
use Rattle.giputils_heap.specs.Record as run
use Rattle.giputils_heap.specs.declared.run.HeapReply.{HeapReply}
use Rattle.giputils_heap.specs.declared.run.HeapReply.TheVariants.{Done, Refused, Skipped, Popped, Length}

-- a key is its own number
abbrev pub number : ℕ → ℕ
number key = key

-- what a reply and the keys held after it are, in the words of the script: where it was a refusal or was not
pub record Matches (said : Line) (ranks held : List ℕ) (reply : HeapReply ℕ) : Type 0 where
  pub refused : Bool
  pub text : reply_text reply ≡ reply_to said refused ranks held
  pub after : run.held_after number held (call_of said) reply ≡ held_after said refused ranks held
  pub is_known : is_line_reply reply ≡ true

greatest-none : (ranks held : List ℕ) → run.is_nil held ≡ true → greatest ranks held ≡ None
greatest-none ranks [] e = refl
greatest-none ranks (x ∷ held) e = cc

-- where the comparisons have been steady, a reply matches the script's; in the last case no reply may be such
pub matches : (said : Line) (ranks held : List ℕ) (reply : HeapReply ℕ) → has_small_key said ≡ true
    → run.may_reply number (goes_before ranks) true held (call_of said) reply ≡ true → Matches said ranks held reply
matches (line.Push k) ranks held Done small e =
    record {
      refused = false;
      text = rw (and_right (not (is_held k held)) false refl) refl;
      after = rw (or-false (is_held k held)) refl;
      is_known = refl;
    }
matches (line.Push k) ranks held Refused small e =
    let (_, absent) = and_parts (nat_lt k key_limit) (not (is_held k held)) e in
    record {
      refused = true;
      text = rw absent refl;
      after = rw (or_right (is_held k held) true refl) refl;
      is_known = refl;
    }
matches (line.Push k) ranks held Skipped small e =
    let limit : k ≡ key_limit = eqb-true k key_limit e in
    let within : k ≤ greatest_key = leb-true k greatest_key small in
    absurd (omega arith)
matches line.Pop ranks held (Popped None) small e =
    let none = greatest-none ranks held e in
    record {
      refused = false;
      text = rw none refl;
      after = rw none refl;
      is_known = refl;
    }
matches line.Pop ranks held (Popped (Some k)) small e =
    let (here, best) = and_parts (is_held k held) (is_greatest number (goes_before ranks) held k) e in
    let (_, all) = and_parts (is_held k held) (list_all (goes_before ranks k) held) best in
    let found = greatest-held ranks k held here all in
    record {
      refused = false;
      text = rw found refl;
      after = rw found refl;
      is_known = refl;
    }
matches line.Len ranks held (Length n) small e =
    record {
      refused = false;
      text = ap decimal (eqb-true n (length held) e);
      after = refl;
      is_known = refl;
    }
matches line.Clear ranks held Done small e = record { refused = false; text = refl; after = refl; is_known = refl }
matches (line.Rank k r) ranks held Done small e = record { refused = false; text = refl; after = refl; is_known = refl }
matches (line.Ranks given) ranks held Done small e = record { refused = false; text = refl; after = refl; is_known = refl }
matches (line.Up k) ranks held Done small e = record { refused = false; text = refl; after = refl; is_known = refl }
matches (line.Down k) ranks held Done small e = record { refused = false; text = refl; after = refl; is_known = refl }
matches said ranks held reply small e = cc
