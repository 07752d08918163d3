-- What was written as a witness is read again.
use Rattle.std.proofs.Common.{◌≡◌, ℕ, ◌^◌, ◌<◌, Bool, true, false, List, [], ◌∷◌, ◌++◌, length, map, Some, arith, refl}
use Rattle.std.proofs.Common.{ap, ◌∙◌, append_assoc, cond, decimal}
use Rattle.std.specs.Prelude.{◌==◌, if◌then◌else◌}
use Rattle.std.specs.declared.alloc.Global.{Global}
use Rattle.std.specs.List.{list_all, list_any, onto_first}
use Rattle.std.specs.Str.Parse.{AllDigits}
use Rattle.std.proofs.lemmas.Str.Parse.{digit_from_value}
use Rattle.std.proofs.lemmas.List.{length-map}
use Rattle.std.proofs.lemmas.Fmt.{decimal_is_IsNumeral}
use Rattle.std.specs.declared.vec.Vec.{Vec}
use Rattle.gipmc_circuits.specs.declared.trace.Trace.{Trace}
use Rattle.giputils_text.specs.Lines.{pieces}
use Rattle.giputils_text.proofs.Pieces.{text_lines-at}
use Rattle.gipmc_aiger.specs.Prelude.{Every, bits_line, bits_of, claim_by, claim_of, claims_from, claims_of, frames_lines, frames_of, frames_view, is_bit, is_end, is_last, is_remark, lasso_text, lassos_of, properties_of, property_of, said_lines, stimulus_of, witness_of, witness_text, witness_view}
use Rattle.gipmc_aiger.proofs.ClaimLoops.{within_more}
use Rattle.gipmc_aiger.proofs.Rereads.{number-reread_alone}
use Rattle.gipmc_aiger.specs.declared.witness.Witness.{Witness}

-- a byte that ends no line
abbrev IsInLine : ℕ → Type 0
IsInLine b = (b == 10) ≡ false

-- bytes that end no line, and a line feed behind them, are a piece
piece-reread : (line rest : List ℕ) → Every IsInLine line → pieces 10 (line ++ 10 ∷ rest) ≡ line ∷ pieces 10 rest
piece-reread [] rest within = refl
piece-reread (b ∷ line) rest (here, within) =
    ap (λ v. cond v ([] ∷ pieces 10 (line ++ 10 ∷ rest)) (onto_first b (pieces 10 (line ++ 10 ∷ rest)))) here
    ∙ ap (onto_first b) (piece-reread line rest within)

-- they are a line that is read, unless it is a remark
line-reread : (line rest : List ℕ) → Every IsInLine line → is_remark line ≡ false
    → said_lines (line ++ 10 ∷ rest) ≡ line ∷ said_lines rest
line-reread line rest within said =
    rw (text_lines-at (line ++ 10 ∷ rest) line rest (piece-reread line rest within), said) refl

-- the byte of a value
abbrev bit_code : Bool → ℕ
bit_code bit = if bit then 49 else 48

bits_line-is : (bits : List Bool) (rest : List ℕ) → bits_line bits ++ rest ≡ map bit_code bits ++ 10 ∷ rest
bits_line-is [] rest = refl
bits_line-is (true ∷ bits) rest = ap (λ text. 49 ∷ text) (bits_line-is bits rest)
bits_line-is (false ∷ bits) rest = ap (λ text. 48 ∷ text) (bits_line-is bits rest)

bits-in_line : (bits : List Bool) → Every IsInLine (map bit_code bits)
bits-in_line [] = tt
bits-in_line (true ∷ bits) = (refl, bits-in_line bits)
bits-in_line (false ∷ bits) = (refl, bits-in_line bits)

bits-said : (bits : List Bool) → is_remark (map bit_code bits) ≡ false
bits-said [] = refl
bits-said (true ∷ bits) = refl
bits-said (false ∷ bits) = refl

-- a line of values is read behind what was said
bits-line : (bits : List Bool) (rest : List ℕ)
    → said_lines (bits_line bits ++ rest) ≡ map bit_code bits ∷ said_lines rest
bits-line bits rest =
    ap said_lines (bits_line-is bits rest) ∙ line-reread (map bit_code bits) rest (bits-in_line bits) (bits-said bits)

bits-all : (bits : List Bool) → list_all is_bit (map bit_code bits) ≡ true
bits-all [] = refl
bits-all (true ∷ bits) = bits-all bits
bits-all (false ∷ bits) = bits-all bits

bits-same : (bits : List Bool) → map (λ b. b == 49) (map bit_code bits) ≡ bits
bits-same [] = refl
bits-same (true ∷ bits) = ap (λ bs. true ∷ bs) (bits-same bits)
bits-same (false ∷ bits) = ap (λ bs. false ∷ bs) (bits-same bits)

bits-reread : (count : ℕ) (bits : List Bool) → length bits ≡ count → bits_of count (map bit_code bits) ≡ Some bits
bits-reread count bits same =
    let long = length-map bits bit_code in
    let counted : (length (map bit_code bits) == count) ≡ true = grind (arith, same, long) in
    rw (counted, bits-all bits, bits-same bits) refl

bits-no_end : (bits : List Bool) → is_end (map bit_code bits) ≡ false
bits-no_end [] = refl
bits-no_end (true ∷ bits) = refl
bits-no_end (false ∷ bits) = refl

-- the moments are read again, each of so many values
frames-reread : (count : ℕ) (frames : List (Vec Bool Global))
    → Every (λ frame. length frame.items ≡ count) frames
    → frames_of count (said_lines (frames_lines frames)) ≡ Some (frames_view frames)
frames-reread count [] same = refl
frames-reread count (frame ∷ frames) (same, others) =
    rw (
      bits-line frame.items (frames_lines frames),
      bits-no_end frame.items,
      bits-reread count frame.items same,
      frames-reread count frames others,
    )
    refl

digits-in_line : (ds : List ℕ) → AllDigits 10 ds → Every IsInLine ds
digits-in_line [] all = tt
digits-in_line (d ∷ ds) (digit, all) =
    let (from, to) = digit_from_value d digit in
    (grind (arith, from, to), digits-in_line ds all)

number-in_line : (n : ℕ) → n < 2 ^ 64 → Every IsInLine (decimal n)
number-in_line n fits = digits-in_line (decimal n) (decimal_is_IsNumeral n fits).0.1

property-reread : (n : ℕ) → n < 2 ^ 31 → property_of (98 ∷ decimal n) ≡ Some n
property-reread n small = rw (number-reread_alone 2147483647 n (omega (arith, small)) (omega (arith, small))) refl

of_four : (d bits frames : List ℕ) → d ++ 10 ∷ [] ++ bits ++ frames ≡ d ++ 10 ∷ (bits ++ frames)
of_four d bits frames = simp append_assoc

-- the lines of the text of a trace, by the letter of its property
text-lines : (letter property : ℕ) (trace : Trace) → (letter == 10) ≡ false
    → is_remark (letter ∷ []) ≡ false → property < 2 ^ 31
    → said_lines (49 ∷ 10 ∷ letter ∷ (decimal property ++ 10 ∷ [] ++ bits_line trace.latches.items
    ++ frames_lines trace.inputs.items))
    ≡ (49 ∷ []) ∷ (letter ∷ decimal property) ∷ map bit_code trace.latches.items
    ∷ said_lines (frames_lines trace.inputs.items)
text-lines letter property trace within said small =
    let bits = bits_line trace.latches.items in
    let frames = frames_lines trace.inputs.items in
    ap (λ text. said_lines (49 ∷ 10 ∷ letter ∷ text)) (of_four (decimal property) bits frames)
    ∙ line-reread (49 ∷ []) (letter ∷ decimal property ++ 10 ∷ (bits ++ frames)) (refl, tt) refl
    ∙ ap (λ lines. (49 ∷ []) ∷ lines)
    (line-reread (letter ∷ decimal property) (bits ++ frames) (within, number-in_line property (omega (arith, small)))
    said)
    ∙ ap (λ lines. (49 ∷ []) ∷ (letter ∷ decimal property) ∷ lines) (bits-line trace.latches.items frames)

-- the lines of the text of a witness
lines-are : (property : ℕ) (trace : Trace) → property < 2 ^ 31 → said_lines (witness_text property trace)
    ≡ (49 ∷ []) ∷ (98 ∷ decimal property) ∷ map bit_code trace.latches.items
    ∷ said_lines (frames_lines trace.inputs.items)
lines-are property trace small = text-lines 98 property trace refl refl small

-- and of a lasso
lasso_lines-are : (property : ℕ) (trace : Trace) → property < 2 ^ 31
    → said_lines (lasso_text property trace)
    ≡ (49 ∷ []) ∷ (106 ∷ decimal property) ∷ map bit_code trace.latches.items
    ∷ said_lines (frames_lines trace.inputs.items)
lasso_lines-are property trace small = text-lines 106 property trace refl refl small

-- the witness that the text of a witness writes is that witness, where each moment has so many inputs
pub witness_rereads : (latches inputs : ℕ) (w : Witness) → w.property < 2 ^ 31
    → length w.trace.latches.items ≡ latches → Every (λ row. length row.items ≡ inputs) w.trace.inputs.items
    → witness_of latches inputs (witness_text w.property w.trace) ≡ Some (witness_view w)
unfolding stimulus_of
witness_rereads latches inputs w small counted rows =
    rw (
      lines-are w.property w.trace small,
      property-reread w.property small,
      bits-reread latches w.trace.latches.items counted,
      frames-reread inputs w.trace.inputs.items rows,
    )
    refl

-- a byte that is not this letter
abbrev IsNoLetter : ℕ → ℕ → Type 0
IsNoLetter letter b = (b == letter) ≡ false

piece-alone : (letter : ℕ) (ds : List ℕ) → Every (IsNoLetter letter) ds → pieces letter ds ≡ ds ∷ []
piece-alone letter [] all = refl
piece-alone letter (b ∷ ds) (here, others) =
    ap (λ v. cond v ([] ∷ pieces letter ds) (onto_first b (pieces letter ds))) here
    ∙ ap (onto_first b) (piece-alone letter ds others)

digits-no_letter : (letter : ℕ) (ds : List ℕ) → 57 < letter → AllDigits 10 ds → Every (IsNoLetter letter) ds
digits-no_letter letter [] above all = tt
digits-no_letter letter (d ∷ ds) above (digit, all) =
    let (from, to) = digit_from_value d digit in
    (grind (arith, from, to, above), digits-no_letter letter ds above all)

-- the one property of a line is read again
properties-reread : (letter n : ℕ) → 57 < letter → (letter == letter) ≡ true → n < 2 ^ 31
    → properties_of letter (letter ∷ decimal n) ≡ Some (n ∷ [])
properties-reread letter n above same small =
    let digits = digits-no_letter letter (decimal n) above (decimal_is_IsNumeral n (omega (arith, small))).0.1 in
    rw (
      same,
      piece-alone letter (decimal n) digits,
      number-reread_alone 2147483647 n (omega (arith, small)) (omega (arith, small)),
    )
    refl

-- behind the moments of a witness no answer follows
frames-last : (letter other latches inputs : ℕ) (frames : List (Vec Bool Global))
    → claims_from letter other latches inputs true (said_lines (frames_lines frames)) ≡ Some []
frames-last letter other latches inputs [] = refl
frames-last letter other latches inputs (frame ∷ frames) =
    rw (bits-line frame.items (frames_lines frames))
    (within_more letter other latches inputs (map bit_code frame.items) (said_lines (frames_lines frames)) (bits-no_end
    frame.items)
    ∙ frames-last letter other latches inputs frames)

-- the lines of one trace have one claim: that of the trace, where each moment has so many inputs
claim-reread : (letter other latches inputs property : ℕ) (trace : Trace) → 57 < letter
    → (letter == letter) ≡ true → (letter == other) ≡ false → (letter == 46) ≡ false → property < 2 ^ 31 → length trace.latches.items ≡ latches
    → Every (λ row. length row.items ≡ inputs) trace.inputs.items
    → claims_from letter other latches inputs false ((49 ∷ []) ∷ (letter ∷ decimal property)
    ∷ map bit_code trace.latches.items ∷ said_lines (frames_lines trace.inputs.items))
    ≡ Some (claim_by (property ∷ []) trace ∷ [])
unfolding claim_of
claim-reread letter other latches inputs property trace above same apart goes_on small counted rows =
    rw (
      apart,
      properties-reread letter property above same small,
      bits-reread latches trace.latches.items counted,
      frames-reread inputs trace.inputs.items rows,
      goes_on,
      bits-no_end trace.latches.items,
      frames-last letter other latches inputs trace.inputs.items,
    )
    refl

-- digits and values have no `#`
digits-no_mark : (ds : List ℕ) → AllDigits 10 ds → is_last ds ≡ false
digits-no_mark [] all = refl
digits-no_mark (d ∷ ds) (digit, all) =
    let (from, to) = digit_from_value d digit in
    let here : (d == 35) ≡ false = grind (arith, from, to) in
    rw (here, digits-no_mark ds all) refl

bits-no_mark : (bits : List Bool) → is_last (map bit_code bits) ≡ false
bits-no_mark [] = refl
bits-no_mark (true ∷ bits) = bits-no_mark bits
bits-no_mark (false ∷ bits) = bits-no_mark bits

frames-no_mark : (frames : List (Vec Bool Global)) → list_any is_last (said_lines (frames_lines frames)) ≡ false
frames-no_mark [] = refl
frames-no_mark (frame ∷ frames) =
    rw (bits-line frame.items (frames_lines frames), bits-no_mark frame.items) (frames-no_mark frames)

-- the text of a witness has one claim: that of the witness, where each moment has so many inputs
pub claims_reread : (latches inputs property : ℕ) (trace : Trace) → property < 2 ^ 31
    → length trace.latches.items ≡ latches → Every (λ row. length row.items ≡ inputs) trace.inputs.items
    → claims_of latches inputs (witness_text property trace) ≡ Some (claim_by (property ∷ []) trace ∷ [])
claims_reread latches inputs property trace small counted rows =
    let digits = digits-no_mark (decimal property) (decimal_is_IsNumeral property (omega (arith, small))).0.1 in
    rw (
      lines-are property trace small,
      digits,
      bits-no_mark trace.latches.items,
      frames-no_mark trace.inputs.items,
    )
    (claim-reread 98 106 latches inputs property trace (omega arith) refl refl refl small counted rows)

-- so has the text of a lasso
pub lassos_reread : (latches inputs property : ℕ) (trace : Trace) → property < 2 ^ 31
    → length trace.latches.items ≡ latches → Every (λ row. length row.items ≡ inputs) trace.inputs.items
    → lassos_of latches inputs (lasso_text property trace) ≡ Some (claim_by (property ∷ []) trace ∷ [])
lassos_reread latches inputs property trace small counted rows =
    let digits = digits-no_mark (decimal property) (decimal_is_IsNumeral property (omega (arith, small))).0.1 in
    rw (
      lasso_lines-are property trace small,
      digits,
      bits-no_mark trace.latches.items,
      frames-no_mark trace.inputs.items,
    )
    (claim-reread 106 98 latches inputs property trace (omega arith) refl refl refl small counted rows)
