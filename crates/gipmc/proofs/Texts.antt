-- Texts that are read.
use Rattle.std.proofs.Common.{◌≡◌, ◌∙◌, ℕ, List, [], ◌∷◌, ◌++◌, None, Some, append_assoc, subst}
use Rattle.std.specs.Prelude.{IfSome, Option}
use Rattle.giputils_text.specs.Lines.{line_feed}
use Rattle.gipmc.specs.Texts.{IsTextOf, text_read, with_feeds, without_return}

-- one line more
pub one_more : (text line : List ℕ) (lines : List (List ℕ))
    → ((text ++ without_return line) ++ line_feed ∷ []) ++ with_feeds lines ≡ text ++ with_feeds (line ∷ lines)
one_more text line lines =
    append_assoc (text ++ without_return line) (line_feed ∷ []) (with_feeds lines)
    ∙ append_assoc text (without_return line) (line_feed ∷ with_feeds lines)

-- what holds of the text of a file holds where its bytes are known
pub if_text : (P : List ℕ → Type 0) (known : Option (List ℕ)) (text : List ℕ)
    → IsTextOf known text → P text → IfSome known (λ bytes. P (text_read bytes))
if_text P None text same is = tt
if_text P (Some bytes) text same is = subst P same is

-- the same of the texts of two files
pub if_texts : (P : List ℕ → List ℕ → Type 0) (one two : Option (List ℕ)) (text more : List ℕ)
    → IsTextOf one text → IsTextOf two more → P text more
    → IfSome one (λ bytes. IfSome two (λ others. P (text_read bytes) (text_read others)))
if_texts P one two text more same alike is =
    if_text (λ t. IfSome two (λ others. P t (text_read others))) one text same (if_text (P text) two more alike is)
