-- What a reader has left, and what its text says.
use Rattle.std.proofs.Common.{◌≡◌, ℕ, List, [], ◌∷◌, ◌++◌, refl, sym, ap, ◌∙◌, arith, append_assoc, append-nil, take, take_all, length, Option, Some, None, IfSome}
use lib.Seq.{take-append-le}
use Rattle.std.specs.Prelude.{⊤}
use Rattle.std.specs.Io.KnownBytes.{Consumes, IsAtEnd}
use Rattle.gipsat_cnf.specs.Formulas.{Formula}
use Rattle.gipsat_dimacs.specs.Texts.{Problem, problem_by, line_on, IsRefusedBy}
use Rattle.gipsat_dimacs.specs.Parsers.{problem_from, IsStopped, SaysOn}
use Rattle.gipsat_dimacs.specs.declared.rule.HeaderRule.{HeaderRule}
use Rattle.gipsat_dimacs.specs.declared.lines.LineParser.{LineParser}
use Rattle.gipsat_dimacs.proofs.LineLemmas.{line_on-append, refused-none}

-- where a reader that had a text has this rest, the parser has read what stood before it, and counted its lines
abbrev pub HasRead : {S : Type 0} → (S → Formula) → HeaderRule → Option (List ℕ) → Option (List ℕ) → LineParser S → Type 0
HasRead formula rule None now p = ⊤
HasRead formula rule (Some text) None p = ⊥
HasRead formula rule (Some text) (Some rest) p =
    (front : List ℕ) × (text ≡ front ++ rest) × (p.line ≡ line_on 1 front)
    × ((more : List ℕ) → problem_by rule (front ++ more) ≡ problem_from formula p.parser more)

-- a buffer that was written as a whole
pub written_whole : (new old : List ℕ) (n : ℕ) → length new ≡ n → take n (new ++ old) ≡ new
written_whole new old n e = take-append-le n new old (omega arith) ∙ take_all n new (omega arith)

-- a refused text has not the form
pub refused-says_none : (rule : HeaderRule) (text : Option (List ℕ)) (line : ℕ)
    → IfSome text (λ text. IsRefusedBy rule text line)
    → IfSome text (λ text. problem_by rule text ≡ None)
refused-says_none rule None line refused = tt
refused-says_none rule (Some text) line refused = refused-none rule text line refused

module _ {S : Type 0} (formula : S → Formula) (rule : HeaderRule) where
  -- at first
  pub read_first : (text : Option (List ℕ)) (p : LineParser S) → p.line ≡ 1
      → ((text : List ℕ) → problem_from formula p.parser text ≡ problem_by rule text) → HasRead formula rule text text p
  read_first None p first all = tt
  read_first (Some text) p first all = ([], refl, first, λ more. sym (all more))

  -- some bytes on
  pub read_more : (old now new : Option (List ℕ)) (p q : LineParser S) (bytes : List ℕ) → HasRead formula rule old now p
      → Consumes now new bytes
      → SaysOn formula p.parser bytes q.parser → q.line ≡ line_on p.line bytes → HasRead formula rule old new q
  read_more None now new p q bytes has taken on line = tt
  read_more (Some text) None new p q bytes has taken on line = absurd has
  read_more (Some text) (Some now) None p q bytes has taken on line = absurd taken
  read_more (Some text) (Some now) (Some new) p q bytes (front, is, number, says) taken on line = (
    front ++ bytes,
    is ∙ ap (λ rest. front ++ rest) taken ∙ sym (append_assoc front bytes new),
    line ∙ ap (λ n. line_on n bytes) number ∙ sym (line_on-append 1 front bytes),
    λ more. ap (problem_by rule) (append_assoc front bytes more) ∙ says (bytes ++ more) ∙ on more,
  )

  -- bytes that are refused
  pub read_refused : (old now new : Option (List ℕ)) (p : LineParser S) (bytes : List ℕ) (line : ℕ)
      → HasRead formula rule old now p
      → Consumes now new bytes → IsStopped formula p bytes line → IfSome old (λ text. IsRefusedBy rule text line)
  read_refused None now new p bytes line has taken s = tt
  read_refused (Some text) None new p bytes line has taken s = absurd has
  read_refused (Some text) (Some now) None p bytes line has taken s = absurd taken
  read_refused (Some text) (Some now) (Some new) p bytes line (front, is, number, says) taken s = (
    front ++ s.front,
    s.byte ∷ (s.rest ++ new),
    is ∙ ap (λ rest. front ++ rest) (taken ∙ ap (λ b. b ++ new) s.all ∙ append_assoc s.front (s.byte ∷ s.rest) new)
        ∙ sym (append_assoc front s.front (s.byte ∷ (s.rest ++ new))),
    s.number ∙ ap (λ n. line_on n s.front) number ∙ sym (line_on-append 1 front s.front),
    λ more. ap (problem_by rule) (append_assoc front s.front (s.byte ∷ more)) ∙ says (s.front ++ s.byte ∷ more)
        ∙ ap (problem_from formula p.parser) (sym (append_assoc s.front (s.byte ∷ []) more)) ∙ s.nothing more,
  )

  -- the end
  pub read_all : (old now new : Option (List ℕ)) (p : LineParser S) (problem : Option Problem) → HasRead formula rule old now p
      → Consumes now new []
      → IsAtEnd new → problem_from formula p.parser [] ≡ problem → IfSome old (λ text. problem_by rule text ≡ problem)
  read_all None now new p problem has taken end e = tt
  read_all (Some text) None new p problem has taken end e = absurd has
  read_all (Some text) (Some now) None p problem has taken end e = absurd taken
  read_all (Some text) (Some now) (Some new) p problem (front, is, number, says) taken end e =
      ap (problem_by rule) (is ∙ ap (λ rest. front ++ rest) (taken ∙ end)) ∙ says [] ∙ e

  pub read_all-refused : (old now new : Option (List ℕ)) (p : LineParser S) (line : ℕ) → HasRead formula rule old now p
      → Consumes now new []
      → IsAtEnd new → (line ≡ p.line) × (problem_from formula p.parser [] ≡ None)
      → IfSome old (λ text. IsRefusedBy rule text line)
  read_all-refused None now new p line has taken end e = tt
  read_all-refused (Some text) None new p line has taken end e = absurd has
  read_all-refused (Some text) (Some now) None p line has taken end e = absurd taken
  read_all-refused (Some text) (Some now) (Some new) p line (front, is, number, says) taken end (same, none) = (
    front,
    [],
    is ∙ ap (λ rest. front ++ rest) (taken ∙ end),
    same ∙ number,
    ap (problem_by rule) (sym (append-nil front)) ∙ says [] ∙ none,
  )
