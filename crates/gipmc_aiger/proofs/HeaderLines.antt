-- Numbers with a space before each are numbers with a byte behind each.
use Rattle.std.proofs.Common.{◌≡◌, ℕ, ◌+◌, min, List, [], ◌∷◌, ◌++◌, length, decimal, refl, sym, ap, ◌∙◌, append_assoc, append-nil}
use Rattle.std.specs.Prelude.{codes}
use Rattle.gipmc_circuits.specs.declared.circuit.Circuit.{Circuit}
use Rattle.gipmc_aiger.specs.Prelude.{header_line, header_numbers, live_header_line, live_packed_header_line, number_text, numbers_text, packed_header_line}

-- a text with numbers behind it: a space behind each, and the end of the line behind the last
abbrev with_numbers : List ℕ → ℕ → List ℕ → List ℕ
with_numbers text n [] = text ++ number_text n 10
with_numbers text n (m ∷ numbers) = with_numbers (text ++ number_text n 32) m numbers

regroup : (word : List ℕ) (n : ℕ) (rest : List ℕ)
    → ((word ++ 32 ∷ []) ++ decimal n) ++ rest ≡ word ++ 32 ∷ (decimal n ++ rest)
regroup word n rest = append_assoc (word ++ 32 ∷ []) (decimal n) rest ∙ append_assoc word (32 ∷ []) (decimal n ++ rest)

turned : (word : List ℕ) (n : ℕ) (numbers : List ℕ)
    → (word ++ numbers_text (n ∷ numbers)) ++ 10 ∷ [] ≡ with_numbers (word ++ 32 ∷ []) n numbers
turned word n [] =
    ap (λ text. text ++ 10 ∷ []) (sym (regroup word n []) ∙ append-nil ((word ++ 32 ∷ []) ++ decimal n))
    ∙ append_assoc (word ++ 32 ∷ []) (decimal n) (10 ∷ [])
turned word n (m ∷ numbers) =
    ap (λ text. text ++ 10 ∷ []) (sym (regroup word n (numbers_text (m ∷ numbers))))
    ∙ turned ((word ++ 32 ∷ []) ++ decimal n) m numbers
    ∙ ap (λ text. with_numbers text m numbers) (append_assoc (word ++ 32 ∷ []) (decimal n) (32 ∷ []))

numbers-append : (first more : List ℕ) → numbers_text (first ++ more) ≡ numbers_text first ++ numbers_text more
numbers-append [] more = refl
numbers-append (n ∷ first) more =
    ap (λ text. 32 ∷ text)
    (ap (λ text. decimal n ++ text) (numbers-append first more)
    ∙ sym (append_assoc (decimal n) (numbers_text first) (numbers_text more)))

-- how many inputs, latches, outputs, gates, bad literals and constraints there are
abbrev counts : Circuit → List ℕ
counts c =
    length c.inputs.items ∷ length c.latches.items ∷ 0 ∷ length c.gates.items ∷ length c.bads.items
    ∷ length c.constraints.items ∷ []

line-of : (word : List ℕ) (n : ℕ) (c : Circuit) (further : List ℕ)
    → word ++ numbers_text (header_numbers n c) ++ numbers_text further ++ 10 ∷ []
    ≡ with_numbers (word ++ 32 ∷ []) n (counts c ++ further)
line-of word n c further =
    ap (λ text. text ++ 10 ∷ [])
    (append_assoc word (numbers_text (header_numbers n c)) (numbers_text further)
    ∙ ap (λ text. word ++ text) (sym (numbers-append (header_numbers n c) further)))
    ∙ turned word n (counts c ++ further)

pub header_line-of : (n m : ℕ) (c : Circuit) → n ≡ m
    → codes "aag" ++ numbers_text (header_numbers n c) ++ numbers_text [] ++ 10 ∷ [] ≡ header_line m c
header_line-of n m c same =
    ap (λ k. codes "aag" ++ numbers_text (header_numbers k c) ++ numbers_text [] ++ 10 ∷ []) same
    ∙ line-of (codes "aag") m c []

pub live_header_line-of : (n m : ℕ) (c : Circuit) (justice fairness : ℕ) → n ≡ m
    → codes "aag" ++ numbers_text (header_numbers n c) ++ numbers_text (justice ∷ fairness ∷ []) ++ 10 ∷ []
    ≡ live_header_line m c justice fairness
live_header_line-of n m c justice fairness same =
    ap (λ k. codes "aag" ++ numbers_text (header_numbers k c) ++ numbers_text (justice ∷ fairness ∷ []) ++ 10 ∷ []) same
    ∙ line-of (codes "aag") m c (justice ∷ fairness ∷ [])

-- how many inputs, latches and gates there are, as far as a machine's numbers go
abbrev sum : Circuit → ℕ
sum c =
    min (min (length c.inputs.items + length c.latches.items) 18446744073709551615 + length c.gates.items)
    18446744073709551615

pub packed_header_line-of : (n : ℕ) (c : Circuit) → n ≡ sum c
    → codes "aig" ++ numbers_text (header_numbers n c) ++ numbers_text [] ++ 10 ∷ [] ≡ packed_header_line c
packed_header_line-of n c same =
    ap (λ k. codes "aig" ++ numbers_text (header_numbers k c) ++ numbers_text [] ++ 10 ∷ []) same
    ∙ line-of (codes "aig") (sum c) c []

pub live_packed_header_line-of : (n : ℕ) (c : Circuit) (justice fairness : ℕ) → n ≡ sum c
    → codes "aig" ++ numbers_text (header_numbers n c) ++ numbers_text (justice ∷ fairness ∷ []) ++ 10 ∷ []
    ≡ live_packed_header_line c justice fairness
live_packed_header_line-of n c justice fairness same =
    ap (λ k. codes "aig" ++ numbers_text (header_numbers k c) ++ numbers_text (justice ∷ fairness ∷ []) ++ 10 ∷ []) same
    ∙ line-of (codes "aig") (sum c) c (justice ∷ fairness ∷ [])
