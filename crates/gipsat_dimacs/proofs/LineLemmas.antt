-- The lines of a text that is read in parts.
use Rattle.std.proofs.Common.{◌≡◌, ◌<◌, ◌+◌, ℕ, suc, arith, List, [], ◌∷◌, ◌++◌, length, take, drop, get_or, refl, sym, ap, ◌∙◌, append_assoc, append-nil, drop-cons, None}
use Rattle.std.proofs.lemmas.List.{take_more, take-append-drop}
use Rattle.gipsat_cnf.specs.Formulas.{Formula}
use Rattle.gipsat_dimacs.specs.Texts.{problem_by, line_after, line_on, IsRefusedBy}
use Rattle.gipsat_dimacs.specs.Parsers.{problem_from, IsStopped, SaysOn, SaysNothing}
use Rattle.gipsat_dimacs.specs.declared.rule.HeaderRule.{HeaderRule}
use Rattle.gipsat_dimacs.specs.declared.lines.LineParser.{LineParser}
use Rattle.gipsat_dimacs.specs.declared.parser.Parser.{Parser}

-- the line after some bytes and some more
pub line_on-append : (line : ℕ) (xs ys : List ℕ) → line_on line (xs ++ ys) ≡ line_on (line_on line xs) ys
line_on-append line [] ys = refl
line_on-append line (x ∷ xs) ys = line_on-append (line_after line x) xs ys

-- a text that is refused in a line has not the form
pub refused-none : (rule : HeaderRule) (text : List ℕ) (line : ℕ) → IsRefusedBy rule text line
    → problem_by rule text ≡ None
refused-none rule text line (front, [], is, number, none) = ap (problem_by rule) (is ∙ append-nil front) ∙ none
refused-none rule text line (front, byte ∷ rest, is, number, none) = ap (problem_by rule) is ∙ none rest

-- the bytes before a place, the one there, and the rest
at_place : (bytes : List ℕ) (i : ℕ) → i < length bytes → bytes ≡ take i bytes ++ get_or bytes i 0 ∷ drop (i + 1) bytes
at_place bytes i within =
    let next : suc i ≡ i + 1 = omega arith in
    sym (take-append-drop i bytes) ∙ ap (λ rest. take i bytes ++ rest)
    (drop-cons bytes i 0 within ∙ ap (λ n. get_or bytes i 0 ∷ drop n bytes) next)

module _ {S : Type 0} (formula : S → Formula) (p q : Parser S) where
  -- nothing is said any more
  pub says_on-nothing : (xs ys : List ℕ) → SaysOn formula p xs q → SaysNothing formula q ys → SaysNothing formula p (xs ++ ys)
  says_on-nothing xs ys on none rest = ap (problem_from formula p) (append_assoc xs ys rest) ∙ on (ys ++ rest) ∙ none rest

  pub says_on-append : (r : Parser S) (xs ys : List ℕ) → SaysOn formula p xs q → SaysOn formula q ys r → SaysOn formula p (xs ++ ys) r
  says_on-append r xs ys on more rest = ap (problem_from formula p) (append_assoc xs ys rest) ∙ on (ys ++ rest) ∙ more rest

module _ {S : Type 0} (formula : S → Formula) (old : LineParser S) (q : Parser S) (line : ℕ) (bytes : List ℕ) (i byte : ℕ)
    (within : i < length bytes)
    (is : byte ≡ get_or bytes i 0) (on : SaysOn formula old.parser (take i bytes) q)
    (number : line ≡ line_on old.line (take i bytes)) where
  -- the byte at a place is refused
  pub stopped_at : SaysNothing formula q (byte ∷ []) → IsStopped formula old bytes line
  stopped_at none = record {
    front = take i bytes;
    byte = byte;
    rest = drop (i + 1) bytes;
    all = at_place bytes i within ∙ ap (λ b. take i bytes ++ b ∷ drop (i + 1) bytes) (sym is);
    number = number;
    nothing = says_on-nothing formula old.parser q (take i bytes) (byte ∷ []) on none;
  }

  one_more : take (i + 1) bytes ≡ take i bytes ++ byte ∷ []
  one_more = take_more bytes i 0 within ∙ ap (λ b. take i bytes ++ b ∷ []) (sym is)

  -- or read
  pub says_on-more : (r : Parser S) → SaysOn formula q (byte ∷ []) r → SaysOn formula old.parser (take (i + 1) bytes) r
  says_on-more r more = rw one_more (says_on-append formula old.parser q r (take i bytes) (byte ∷ []) on more)

  pub line_on-more : line_after line byte ≡ line_on old.line (take (i + 1) bytes)
  line_on-more = ap (λ n. line_after n byte) number ∙ sym (line_on-append old.line (take i bytes) (byte ∷ []))
      ∙ ap (line_on old.line) (sym one_more)
