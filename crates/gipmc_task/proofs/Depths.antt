-- Lines that tell depths are read over where witnesses are read.
use Rattle.std.proofs.Common.{◌≡◌, ◌∙◌, ℕ, ◌<◌, ◌^◌, false, List, [], ◌∷◌, ◌++◌, arith, refl, ap, append_assoc, cond, decimal}
use Rattle.std.specs.Prelude.{◌==◌}
use Rattle.std.specs.List.{onto_first}
use Rattle.std.specs.Str.Parse.{AllDigits}
use Rattle.std.proofs.lemmas.Fmt.{decimal_is_IsNumeral}
use Rattle.std.proofs.lemmas.Str.Parse.{digit_from_value}
use Rattle.giputils_text.specs.Lines.{pieces}
use Rattle.giputils_text.proofs.Pieces.{text_lines-at}
use Rattle.gipmc_aiger.specs.Prelude.{Every, said_lines}
use Rattle.gipmc_task.specs.Verdicts.{depth_text, depths_text}

-- a byte that ends no line
abbrev IsInLine : ℕ → Type 0
IsInLine b = (b == 10) ≡ false

piece-reread : (line rest : List ℕ) → Every IsInLine line → pieces 10 (line ++ 10 ∷ rest) ≡ line ∷ pieces 10 rest
piece-reread [] rest within = refl
piece-reread (b ∷ line) rest (here, within) =
    ap (λ v. cond v ([] ∷ pieces 10 (line ++ 10 ∷ rest)) (onto_first b (pieces 10 (line ++ 10 ∷ rest)))) here
    ∙ ap (onto_first b) (piece-reread line rest within)

digits-in_line : (ds : List ℕ) → AllDigits 10 ds → Every IsInLine ds
digits-in_line [] all = tt
digits-in_line (d ∷ ds) (digit, all) =
    let (from, to) = digit_from_value d digit in
    (grind (arith, from, to), digits-in_line ds all)

-- a line that begins with `u` is read over
remark-read_over : (digits rest : List ℕ) → Every IsInLine digits
    → said_lines ((117 ∷ digits) ++ 10 ∷ rest) ≡ said_lines rest
remark-read_over digits rest within =
    rw (text_lines-at ((117 ∷ digits) ++ 10 ∷ rest) (117 ∷ digits) rest (piece-reread (117 ∷ digits) rest (refl, within))) refl

depth-read_over : (n : ℕ) (rest : List ℕ) → n < 2 ^ 64 → said_lines (depth_text n ++ rest) ≡ said_lines rest
depth-read_over n rest fits =
    let same : depth_text n ++ rest ≡ (117 ∷ decimal n) ++ 10 ∷ rest = simp append_assoc in
    ap said_lines same ∙ remark-read_over (decimal n) rest (digits-in_line (decimal n) (decimal_is_IsNumeral n fits).0.1)

pub depths-read_over : (P : ℕ → Type 0) (depths rest : List ℕ) → Every (λ n. P n × (n < 2 ^ 64)) depths
    → said_lines (depths_text depths ++ rest) ≡ said_lines rest
depths-read_over P [] rest all = refl
depths-read_over P (n ∷ depths) rest ((holds, fits), others) =
    ap said_lines (append_assoc (depth_text n) (depths_text depths) rest)
    ∙ (depth-read_over n (depths_text depths ++ rest) fits ∙ depths-read_over P depths rest others)
