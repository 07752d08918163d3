-- What a writer wrote is read again.
use Rattle.std.proofs.Common.{◌≡◌, ℕ, zero, suc, ◌+◌, ◌-◌, ◌*◌, ◌/◌, ◌%◌, ◌^◌, ◌<◌, ◌≤◌, nat_le, min, Bool, true}
use Rattle.std.proofs.Common.{false, List, [], ◌∷◌, ◌++◌, length, map, Option, Some, None, arith, refl, sym, ap, subst}
use Rattle.std.proofs.Common.{◌∙◌, append_assoc, append-nil, decimal}
use Rattle.std.specs.Prelude.{◌==◌, ◌&&◌, if◌then◌else◌, codes}
use Rattle.std.specs.Char.{digit_value, is_ascii_digit}
use Rattle.std.specs.Str.Parse.{AllDigits, digits_value_after}
use Rattle.std.proofs.lemmas.Str.{digit_value_digit}
use Rattle.std.proofs.lemmas.Str.Parse.{digit_from_value}
use Rattle.std.proofs.lemmas.Fmt.{decimal_is_IsNumeral}
use Rattle.std.proofs.lemmas.List.{length-map}
use Rattle.giputils_text.specs.Lines.{space}
use Rattle.gipsat_cnf.specs.Literals.{Lit}
use Rattle.gipmc_circuits.specs.declared.circuit.And.{And}
use Rattle.gipmc_circuits.specs.declared.circuit.Latch.{Latch}
use Rattle.gipmc_circuits.specs.declared.circuit.Circuit.{Circuit}
use Rattle.gipmc_aiger.specs.Prelude.{◌>>=◌, AreLiveWritable, Every, FitsGate, FitsLatch, FitsLiteral, FitsVariable, IsWritable, aag_text, and_line, and_lines, bads_of, begins_number, body_at, circuit_in, circuit_of, count_at, defined_at, digits_at, form_at, gate_at, greatest_literal, greatest_variable, has_counts, header_at, header_line, input_at, input_lines, justice_at, justice_lines, justice_literals_at, justice_view, latch_at, latch_line, latch_lines, leading_at, literal_lines, literal_number, live_aag_text, live_header_line, live_rows, live_rows_of, liveness_at, liveness_lines, number_at, number_text, reset_number, rows_at, separated_at, size_lines, sizes_at, variable_of, written_operands_at}
use Rattle.gipmc_aiger.specs.declared.header.Form.{Form}
use Rattle.gipmc_aiger.specs.declared.header.Form.TheVariants.{Ascii}
use Rattle.gipmc_aiger.specs.declared.header.Header.{Header}
use Rattle.gipmc_aiger.specs.declared.header.Justice.{Justice}
use Rattle.gipmc_aiger.specs.declared.header.Properties.{Properties}
use Rattle.gipmc_aiger.specs.Circuits.{literal_at, literal_of, rows_of, optional_count_at, properties_at, reset_of}
use Rattle.gipmc_aiger.specs.declared.liveness.Liveness.{Liveness}

digit_is : (d : ℕ) → digit_value d < 10 → is_ascii_digit d ≡ true
digit_is d small = let (from, to) = digit_from_value d small in grind (arith, from, to)

digit_less : (d : ℕ) → digit_value d < 10 → digit_value d ≡ d - 48
digit_less d small = let same = digit_value_digit d (digit_from_value d small) in omega (arith, same)

-- more digits make no smaller number
value_grows : (n : ℕ) (ds : List ℕ) → n ≤ digits_value_after 10 n ds
value_grows n [] = omega arith
value_grows n (d ∷ ds) = let more = value_grows (n * 10 + digit_value d) ds in omega (arith, more)

below : (n limit : ℕ) → n ≤ limit → nat_le n limit ≡ true
below n limit within = grind (arith, within)

-- digits, and behind them no more of them
digits-reread : (limit n : ℕ) (ds rest : List ℕ) → AllDigits 10 ds → begins_number rest ≡ false
    → digits_value_after 10 n ds ≤ limit → digits_at limit n (ds ++ rest) ≡ Some (digits_value_after 10 n ds, rest)
digits-reread limit n [] [] all ends within = refl
digits-reread limit n [] (end ∷ rest) all ends within = rw ends refl
digits-reread limit n (d ∷ ds) rest (digit, all) ends within =
    let same : 10 * n + (d - 48) ≡ n * 10 + digit_value d = let e = digit_less d digit in omega (arith, e) in
    let small : nat_le (n * 10 + digit_value d) limit ≡ true =
    below (n * 10 + digit_value d) limit (let g = value_grows (n * 10 + digit_value d) ds in omega (arith, g, within))
    in
    rw (digit_is d digit, same, small) (digits-reread limit (n * 10 + digit_value d) ds rest all ends within)

number_from : (limit : ℕ) (ds rest : List ℕ) → 0 < length ds → AllDigits 10 ds → begins_number rest ≡ false
    → digits_value_after 10 0 ds ≤ limit → number_at limit (ds ++ rest) ≡ Some (digits_value_after 10 0 ds, rest)
number_from limit [] rest some all ends within = absurd (omega (arith, some))
number_from limit (d ∷ ds) rest some (digit, all) ends within =
    ap (λ b. if b then digits_at limit 0 (d ∷ (ds ++ rest)) else None) (digit_is d digit)
    ∙ digits-reread limit 0 (d ∷ ds) rest (digit, all) ends within

-- a number with no digit behind it
decimal-reread : (limit n : ℕ) (rest : List ℕ) → n < 2 ^ 64 → n ≤ limit → begins_number rest ≡ false
    → number_at limit (decimal n ++ rest) ≡ Some (n, rest)
decimal-reread limit n rest fits within ends =
    let numeral = decimal_is_IsNumeral n fits in
    let value : digits_value_after 10 0 (decimal n) ≡ n = numeral.1 in
    number_from limit (decimal n) rest numeral.0.0 numeral.0.1 ends (omega (arith, value, within))
    ∙ ap (λ v. Some (v, rest)) value

-- a number with a byte behind it that is no digit
pub number-reread : (limit n end : ℕ) (rest : List ℕ) → n < 2 ^ 64 → n ≤ limit → is_ascii_digit end ≡ false
    → number_at limit (number_text n end ++ rest) ≡ Some (n, end ∷ rest)
number-reread limit n end rest fits within ends =
    ap (number_at limit) (append_assoc (decimal n) (end ∷ []) rest)
    ∙ decimal-reread limit n (end ∷ rest) fits within ends

-- a number with nothing behind it
pub number-reread_alone : (limit n : ℕ) → n < 2 ^ 64 → n ≤ limit → number_at limit (decimal n) ≡ Some (n, [])
number-reread_alone limit n fits within =
    ap (number_at limit) (sym (append-nil (decimal n))) ∙ decimal-reread limit n [] fits within refl

half : (v : ℕ) → (2 * v) / 2 ≡ v
half v = omega arith

-- the variable of twice its number
pub variable-reread : (v : ℕ) → 0 < v → variable_of (2 * v) ≡ Some v
variable-reread v some =
    let even : ((2 * v) % 2 == 1) ≡ false = grind arith in
    let not_zero : (2 * v == 0) ≡ false = grind (arith, some) in
    rw (even, not_zero) (ap (λ x. Some x) (half v))

pub literal-reread : (l : Lit) → literal_of (literal_number l) ≡ l
literal-reread l = by_sign l.variable l.positive
  where
    by_sign : (v : ℕ) (b : Bool) → literal_of (literal_number (record { variable = v; positive = b })) ≡ record {
      variable = v;
      positive = b;
    }
    by_sign v true =
        let odd : ((2 * v) % 2 == 0) ≡ true = grind arith in
        rw (half v, odd) refl
    by_sign v false =
        let same : (2 * v + 1) / 2 ≡ v = omega arith in
        let odd : ((2 * v + 1) % 2 == 0) ≡ false = grind arith in
        rw (same, odd) refl

-- rows are read again if each row is
pub rows-reread : {X : Type 0} (row : ℕ → List ℕ → Option (X × List ℕ)) (line : X → List ℕ) (lines : List X
    → List ℕ) (Fits : X → Type 0)
    → lines [] ≡ [] → ((x : X) (xs : List X) → lines (x ∷ xs) ≡ line x ++ lines xs)
    → ((place : ℕ) (x : X) (rest : List ℕ) → Fits x → row place (line x ++ rest) ≡ Some (x, rest))
    → (xs : List X) (n place : ℕ) (rest : List ℕ) → n ≡ length xs → Every Fits xs
    → rows_at row place n (lines xs ++ rest) ≡ Some (xs, rest)
rows-reread row line lines Fits none more one [] zero place rest same fits = rw none refl
rows-reread row line lines Fits none more one [] (suc n) place rest same fits = absurd (omega (arith, same))
rows-reread row line lines Fits none more one (x ∷ xs) zero place rest same fits = absurd (omega (arith, same))
rows-reread row line lines Fits none more one (x ∷ xs) (suc n) place rest same (fit, fits) =
    let text : lines (x ∷ xs) ++ rest ≡ line x ++ (lines xs ++ rest) =
    ap (λ t. t ++ rest) (more x xs) ∙ append_assoc (line x) (lines xs) rest
    in
    let others = rows-reread row line lines Fits none more one xs n (place + 1) rest (omega (arith, same)) fits in
    rw (text, one place x (lines xs ++ rest) fit, others) refl

of_three : (a b c rest : List ℕ) → (a ++ b ++ c) ++ rest ≡ a ++ (b ++ (c ++ rest))
of_three a b c rest = append_assoc (a ++ b) c rest ∙ append_assoc a b (c ++ rest)

module _ (h : Header) (m : ℕ) (limit : greatest_literal h ≡ 2 * m + 1) (small : m < 2 ^ 31) where
  leading-reread : (v end : ℕ) (rest : List ℕ) → FitsVariable m v → is_ascii_digit end ≡ false
      → leading_at h (number_text (2 * v) end ++ rest) ≡ Some (v, end ∷ rest)
  leading-reread v end rest (some, within) ends =
      rw (
        number-reread (greatest_literal h) (2 * v) end rest (omega (arith, within, small)) (omega
            (arith, limit, within)) ends,
        variable-reread v some,
      ) refl

  literal_number-reread : (l : Lit) (end : ℕ) (rest : List ℕ) → l.variable ≤ m → is_ascii_digit end ≡ false
      → number_at (greatest_literal h) (number_text (literal_number l) end ++ rest) ≡ Some
      (literal_number l, end ∷ rest)
  literal_number-reread l end rest within ends =
      let top : literal_number l ≤ 2 * l.variable + 1 = by_sign l.variable l.positive in
      number-reread (greatest_literal h) (literal_number l) end rest (omega (arith, top, within, small)) (omega
      (arith, limit, within, top)) ends
    where
      by_sign : (v : ℕ) (b : Bool) → literal_number (record { variable = v; positive = b }) ≤ 2 * v + 1
      by_sign v true = omega arith
      by_sign v false = omega arith

  row_literal-reread : (place : ℕ) (l : Lit) (rest : List ℕ) → l.variable ≤ m
      → literal_at h place (number_text (literal_number l) 10 ++ rest) ≡ Some (l, rest)
  row_literal-reread place l rest within =
      rw (literal_number-reread l 10 rest within refl) (ap (λ x. Some (x, rest)) (literal-reread l))

  pub literals-reread : (ls : List Lit) (n : ℕ) (rest : List ℕ) → n ≡ length ls → Every (FitsLiteral m) ls
      → rows_at (literal_at h) 0 n (literal_lines ls ++ rest) ≡ Some (ls, rest)
  literals-reread ls n rest same fits =
      rows-reread (literal_at h) (λ l. number_text (literal_number l) 10) literal_lines (FitsLiteral m) refl
      (λ l ls. refl) row_literal-reread ls n 0 rest same fits

  -- a latch is read again if its variable is
  pub latch-behind : (place : ℕ) (l : Latch) (bytes behind rest : List ℕ) → FitsLatch m l
      → defined_at h (h.sizes.inputs + 1 + place) bytes ≡ Some (l.variable, behind)
      → separated_at h.form space behind ≡ Some (number_text (literal_number l.next) 32 ++ (number_text
      (reset_number l.variable l.reset) 10 ++ rest)) → latch_at h place bytes ≡ Some (l, rest)
  unfolding latch_at
  latch-behind place l bytes behind rest (defined, next) leads separated =
      let code = reset_number l.variable l.reset in
      let tail = number_text code 10 ++ rest in
      let top : code ≤ 2 * m + 1 = reset_top l.variable l.reset defined in
      rw (
        leads,
        separated,
        literal_number-reread l.next 32 tail next refl,
        number-reread (greatest_literal h) code 10 rest (omega (arith, top, small)) (omega (arith, limit, top)) refl,
        reset-reread l.variable l.reset defined.0,
      )
      (ap (λ x. Some (record { variable = l.variable; next = x; reset = l.reset }, rest)) (literal-reread l.next))
    where
      reset_top : (v : ℕ) (reset : Option Bool) → FitsVariable m v → reset_number v reset ≤ 2 * m + 1
      reset_top v None (some, within) = omega (arith, within)
      reset_top v (Some true) (some, within) = omega arith
      reset_top v (Some false) (some, within) = omega arith

      reset-reread : (v : ℕ) (reset : Option Bool) → 0 < v → reset_of v (Some (reset_number v reset)) ≡ Some reset
      reset-reread v None some =
          let not_zero : (2 * v == 0) ≡ false = grind (arith, some) in
          let not_one : (2 * v == 1) ≡ false = grind (arith, some) in
          let self : (2 * v == 2 * v) ≡ true = grind arith in
          rw (not_zero, not_one, self) refl
      reset-reread v (Some true) some = refl
      reset-reread v (Some false) some = refl

module _ (h : Header) (m : ℕ) (ascii : h.form ≡ Ascii) (limit : greatest_literal h ≡ 2 * m + 1)
    (small : m < 2 ^ 31) where
  pub input-reread : (place v : ℕ) (rest : List ℕ) → FitsVariable m v → input_at h place (number_text
      (2 * v) 10 ++ rest) ≡ Some (v, rest)
  input-reread place v rest fits = rw (ascii, leading-reread h m limit small v 10 rest fits refl) refl

  pub latch-reread : (place : ℕ) (l : Latch) (rest : List ℕ) → FitsLatch m l
      → latch_at h place (latch_line l ++ rest) ≡ Some (l, rest)
  latch-reread place l rest fits =
      let next = number_text (literal_number l.next) 32 in
      let reset = number_text (reset_number l.variable l.reset) 10 in
      let behind = next ++ (reset ++ rest) in
      let leads : defined_at h (h.sizes.inputs + 1 + place) (number_text (2 * l.variable) 32 ++ behind)
      ≡ Some (l.variable, 32 ∷ behind) =
      rw ascii (leading-reread h m limit small l.variable 32 behind fits.0 refl)
      in
      let separated : separated_at h.form space (32 ∷ behind) ≡ Some behind = rw ascii refl in
      ap (latch_at h place) (of_three (number_text (2 * l.variable) 32) next reset rest)
      ∙ latch-behind h m limit small place l (number_text (2 * l.variable) 32 ++ behind) (32 ∷ behind) rest fits leads
      separated

  pub gate-reread : (place : ℕ) (g : And) (rest : List ℕ) → FitsGate m g → gate_at h place (and_line g ++ rest) ≡ Some
      (g, rest)
  unfolding gate_at written_operands_at
  gate-reread place g rest (defined, left, right) =
      let tail = number_text (literal_number g.right) 10 ++ rest in
      let text : and_line g ++ rest ≡ number_text (2 * g.output) 32 ++ (number_text
      (literal_number g.left) 32 ++ tail) =
      of_three (number_text (2 * g.output) 32) (number_text (literal_number g.left) 32) (number_text
      (literal_number g.right) 10) rest
      in
      rw (
        text,
        ascii,
        leading-reread h m limit small g.output 32 (number_text (literal_number g.left) 32 ++ tail) defined refl,
        literal_number-reread h m limit small g.left 32 tail left refl,
        literal_number-reread h m limit small g.right 10 rest right refl,
        literal-reread g.left,
        literal-reread g.right,
      )
      refl

count-reread : (n end : ℕ) (rest : List ℕ) → n < 2 ^ 31 → is_ascii_digit end ≡ false
    → count_at (32 ∷ (number_text n end ++ rest)) ≡ Some (n, end ∷ rest)
count-reread n end rest small ends = number-reread 2147483647 n end rest (omega (arith, small)) (omega
    (arith, small)) ends

optional_count-reread : (n end : ℕ) (rest : List ℕ) → n < 2 ^ 31 → is_ascii_digit end ≡ false
    → optional_count_at (32 ∷ (number_text n end ++ rest)) ≡ Some (n, end ∷ rest)
optional_count-reread n end rest small ends =
    rw (number-reread 2147483647 n end rest (omega (arith, small)) (omega (arith, small)) ends) refl

pub of_eight : (o a b c d e f g rest : List ℕ) → (o ++ a ++ b ++ c ++ d ++ e ++ f ++ g) ++ rest ≡ o ++ (a ++ (b ++ (c ++
    (d ++ (e ++ (f ++ (g ++ rest)))))))
of_eight o a b c d e f g rest = simp append_assoc

-- a header without outputs
abbrev pub header_in : Form → ℕ → ℕ → ℕ → ℕ → Properties → Header
header_in form m i l a p =
    record {
      form = form;
      sizes = record { maximum = m; inputs = i; latches = l; outputs = 0; gates = a };
      bads = p.bads;
      constraints = p.constraints;
      justice = p.justice;
      fairness = p.fairness;
    }

-- so many bad literals, constraints, justice properties and fairness constraints
abbrev pub counts_of : List Lit → List Lit → List (List Lit) → List Lit → Properties
counts_of bads constraints justice fairness =
    record {
      bads = length bads;
      constraints = length constraints;
      justice = length justice;
      fairness = length fairness;
    }

sizes-reread : (m i l a : ℕ) (rest : List ℕ) → m < 2 ^ 31 → i + l + a ≤ m
    → sizes_at (32 ∷ (number_text m 32 ++ (number_text i 32 ++ (number_text l 32 ++ (number_text 0 32 ++
    (number_text a 32 ++ rest))))))
    ≡ Some (record { maximum = m; inputs = i; latches = l; outputs = 0; gates = a }, 32 ∷ rest)
unfolding sizes_at
sizes-reread m i l a rest small counts =
    rw (
      count-reread m 32 (number_text i 32 ++ (number_text l 32 ++ (number_text 0 32 ++
          (number_text a 32 ++ rest)))) small refl,
      count-reread i 32 (number_text l 32 ++ (number_text 0 32 ++ (number_text a 32 ++ rest))) (omega
          (arith, small, counts)) refl,
      count-reread l 32 (number_text 0 32 ++ (number_text a 32 ++ rest)) (omega (arith, small, counts)) refl,
      count-reread 0 32 (number_text a 32 ++ rest) (omega arith) refl,
      count-reread a 32 rest (omega (arith, small, counts)) refl,
    )
    refl

pub properties-reread : (b k : ℕ) (rest : List ℕ) → b < 2 ^ 31 → k < 2 ^ 31
    → properties_at (32 ∷ (number_text b 32 ++ (number_text k 10 ++ rest)))
    ≡ Some (record { bads = b; constraints = k; justice = 0; fairness = 0 }, 10 ∷ rest)
unfolding properties_at
properties-reread b k rest bads constraints =
    rw (
      optional_count-reread b 32 (number_text k 10 ++ rest) bads refl,
      optional_count-reread k 10 rest constraints
          refl,
    ) refl

pub live_properties-reread : (b k j f : ℕ) (rest : List ℕ) → b < 2 ^ 31 → k < 2 ^ 31 → j < 2 ^ 31 → f < 2 ^ 31
    → properties_at (32 ∷ (number_text b 32 ++ (number_text k 32 ++ (number_text j 32 ++ (number_text f 10 ++ rest)))))
    ≡ Some (record { bads = b; constraints = k; justice = j; fairness = f }, 10 ∷ rest)
unfolding properties_at
live_properties-reread b k j f rest bads constraints justice fairness =
    rw (
      optional_count-reread b 32 (number_text k 32 ++ (number_text j 32 ++ (number_text f 10 ++ rest))) bads refl,
      optional_count-reread k 32 (number_text j 32 ++ (number_text f 10 ++ rest)) constraints refl,
      optional_count-reread j 32 (number_text f 10 ++ rest) justice refl,
      optional_count-reread f 10 rest fairness refl,
    ) refl

-- a header is read again behind a mark that names its form, and before the numbers of properties
pub header-reread : (mark : List ℕ) (form : Form) (m i l a : ℕ) (p : Properties) (properties rest : List ℕ)
    → ((bytes : List ℕ) → form_at (mark ++ bytes) ≡ Some (form, 32 ∷ bytes)) → m < 2 ^ 31 → i + l + a ≤ m
    → has_counts form (record { maximum = m; inputs = i; latches = l; outputs = 0; gates = a }) ≡ true
    → properties_at (32 ∷ properties) ≡ Some (p, 10 ∷ rest)
    → header_at (mark ++ (number_text m 32 ++ (number_text i 32 ++ (number_text l 32 ++ (number_text 0 32 ++
    (number_text a 32 ++ properties))))))
    ≡ Some (header_in form m i l a p, rest)
unfolding header_at
header-reread mark form m i l a p properties rest marked small counts enough again =
    let sizes = number_text m 32 ++ (number_text i 32 ++ (number_text l 32 ++ (number_text 0 32 ++
    (number_text a 32 ++ properties)))) in
    rw (marked sizes, sizes-reread m i l a properties small counts, again, enough) refl

either_way : (test : Bool) (ls : List Lit) → (if test then ls else ls) ≡ ls
either_way true ls = refl
either_way false ls = refl

pub bads_are : (h : Header) (bads : List Lit) → h.bads ≡ length bads → bads_of h [] bads ≡ bads
bads_are h [] same = either_way ((h.bads == 0) && (h.justice == 0)) []
bads_are h (l ∷ bads) same =
    let some : (h.bads == 0) ≡ false = grind (arith, same) in
    rw some refl

pub limit_is : (m : ℕ) → m < 2 ^ 31 → min (2 * m + 1) 4294967295 ≡ 2 * m + 1
limit_is m small = omega (arith, small)

pub no_rows : {X : Type 0} (one_at : ℕ → List ℕ → Option (X × List ℕ)) (n : ℕ) (bytes : List ℕ) → n ≡ 0
    → rows_at one_at 0 n bytes ≡ Some ([], bytes)
no_rows one_at zero bytes same = refl
no_rows one_at (suc n) bytes same = absurd (omega (arith, same))

-- how many literals a justice property has
abbrev counted : List Lit → Justice
counted property = record { literals = length property }

sizes_of_justice-reread : (h : Header) (justice : List (List Lit)) (n place : ℕ) (rest : List ℕ) → n ≡ length justice
    → Every (λ p. length p < 2 ^ 31) justice
    → rows_at (justice_at h) place n (size_lines justice ++ rest) ≡ Some (map counted justice, rest)
sizes_of_justice-reread h [] zero place rest same fits = refl
sizes_of_justice-reread h [] (suc n) place rest same fits = absurd (omega (arith, same))
sizes_of_justice-reread h (p ∷ ps) zero place rest same fits = absurd (omega (arith, same))
sizes_of_justice-reread h (p ∷ ps) (suc n) place rest same (fit, fits) =
    let text : size_lines (p ∷ ps) ++ rest ≡ number_text (length p) 10 ++ (size_lines ps ++ rest) =
    append_assoc (number_text (length p) 10) (size_lines ps) rest
    in
    let others = sizes_of_justice-reread h ps n (place + 1) rest (omega (arith, same)) fits in
    rw (
      text,
      number-reread 2147483647 (length p) 10 (size_lines ps ++ rest) (omega (arith, fit)) (omega (arith, fit)) refl,
      others,
    )
    refl

module _ (h : Header) (m : ℕ) (limit : greatest_literal h ≡ 2 * m + 1) (small : m < 2 ^ 31) where
  justice-reread : (justice : List (List Lit)) (rest : List ℕ) → Every (λ p. Every (FitsLiteral m) p) justice
      → justice_literals_at h (map counted justice) (justice_lines justice ++ rest) ≡ Some (justice, rest)
  justice-reread [] rest fits = refl
  justice-reread (p ∷ ps) rest (fit, fits) =
      let text : justice_lines (p ∷ ps) ++ rest ≡ literal_lines p ++ (justice_lines ps ++ rest) =
      append_assoc (literal_lines p) (justice_lines ps) rest
      in
      rw (
        text,
        literals-reread h m limit small p (length p) (justice_lines ps ++ rest) refl fit,
        justice-reread ps rest fits,
      )
      refl

  -- justice properties and fairness constraints are read again
  pub liveness-reread : (justice : List (List Lit)) (fairness : List Lit) (rest : List ℕ) → h.justice ≡ length justice
      → h.fairness ≡ length fairness → AreLiveWritable m justice fairness
      → liveness_at h (liveness_lines justice fairness ++ rest) ≡ Some (justice, fairness, rest)
  unfolding liveness_at
  liveness-reread justice fairness rest justice_are fairness_are is =
      let literals = literal_lines fairness ++ rest in
      rw (
        of_three (size_lines justice) (justice_lines justice) (literal_lines fairness) rest,
        sizes_of_justice-reread h justice h.justice 0 (justice_lines justice ++ literals) justice_are is.sizes,
        justice-reread justice literals is.literals,
        literals-reread h m limit small fairness h.fairness rest fairness_are is.fairness_literals,
      )
      refl

-- the lines behind a header of the ascii form
abbrev rows_text : Circuit → List (List Lit) → List Lit → List ℕ
rows_text c justice fairness =
    input_lines c.inputs.items ++ (latch_lines c.latches.items ++ (literal_lines c.bads.items ++
    (literal_lines c.constraints.items ++ (liveness_lines justice fairness ++ (and_lines c.gates.items ++ [])))))

-- the rows of a circuit behind such a header write it
body-reread : (c : Circuit) (justice : List (List Lit)) (fairness : List Lit) (h : Header) (m : ℕ)
    → m ≡ greatest_variable c → IsWritable c → AreLiveWritable m justice fairness
    → h ≡ header_in Ascii m (length c.inputs.items) (length c.latches.items) (length c.gates.items)
    (counts_of c.bads.items c.constraints.items justice fairness)
    → body_at h (rows_text c justice fairness)
    ≡ Some (record { circuit = rows_of c; justice = justice; fairness = fairness })
unfolding body_at
body-reread c justice fairness h m greatest is live header =
    let small : m < 2 ^ 31 = subst (λ x. x < 2 ^ 31) (sym greatest) is.small in
    let ascii : h.form ≡ Ascii = ap (λ x. x.form) header in
    let limit : greatest_literal h ≡ 2 * m + 1 = ap greatest_literal header ∙ limit_is m small in
    let gates = and_lines c.gates.items ++ [] in
    let properties = liveness_lines justice fairness ++ gates in
    let constraints = literal_lines c.constraints.items ++ properties in
    let bads = literal_lines c.bads.items ++ constraints in
    let latches = latch_lines c.latches.items ++ bads in
    let no_outputs : h.sizes.outputs ≡ 0 = ap (λ x. x.sizes.outputs) header in
    rw (
      rows-reread (input_at h) (λ v. number_text (2 * v) 10) input_lines (FitsVariable m) refl (λ v vs. refl)
          (λ place v rest fits. input-reread h m ascii limit small place v rest fits) c.inputs.items h.sizes.inputs 0 latches
          (ap (λ x. x.sizes.inputs) header) (subst (λ x. Every (FitsVariable x) c.inputs.items) (sym greatest) is.inputs),
      rows-reread (latch_at h) latch_line latch_lines (FitsLatch m) refl (λ l ls. refl)
          (λ place l rest fits. latch-reread h m ascii limit small place l rest fits) c.latches.items h.sizes.latches 0 bads
          (ap (λ x. x.sizes.latches) header) (subst (λ x. Every (FitsLatch x) c.latches.items) (sym greatest) is.latches),
      no_rows (literal_at h) h.sizes.outputs bads no_outputs,
      literals-reread h m limit small c.bads.items h.bads constraints (ap (λ x. x.bads) header) (subst
          (λ x. Every (FitsLiteral x) c.bads.items) (sym greatest) is.bads),
      literals-reread h m limit small c.constraints.items h.constraints properties (ap (λ x. x.constraints) header) (subst
          (λ x. Every (FitsLiteral x) c.constraints.items) (sym greatest) is.constraints),
      liveness-reread h m limit small justice fairness gates (ap (λ x. x.justice) header) (ap (λ x. x.fairness) header)
          live,
      rows-reread (gate_at h) and_line and_lines (FitsGate m) refl (λ g gs. refl)
          (λ place g rest fits. gate-reread h m ascii limit small place g rest fits) c.gates.items h.sizes.gates 0 []
          (ap (λ x. x.sizes.gates) header) (subst (λ x. Every (FitsGate x) c.gates.items) (sym greatest) is.gates),
      bads_are h c.bads.items (ap (λ x. x.bads) header),
    )
    refl

pub of_six : (o a b c d e : List ℕ) → o ++ a ++ b ++ c ++ d ++ e ≡ o ++ (a ++ (b ++ (c ++ (d ++ (e ++ [])))))
of_six o a b c d e = simp (append_assoc, append-nil)

-- no justice properties and no fairness constraints
pub none_writable : (m : ℕ) → AreLiveWritable m [] []
none_writable m = record {
  justice_count = omega arith;
  fairness_count = omega arith;
  sizes = tt;
  literals = tt;
  fairness_literals = tt;
}

-- the circuit that the text of a circuit writes is that circuit
pub aag_rereads : (c : Circuit) → IsWritable c → circuit_of (aag_text c) ≡ Some (rows_of c)
unfolding circuit_of live_rows_of
aag_rereads c is =
    let m = greatest_variable c in
    let rows = rows_text c [] [] in
    let counts = number_text (length c.bads.items) 32 ++ (number_text (length c.constraints.items) 10 ++ rows) in
    let text : aag_text c ≡ codes "aag " ++ (number_text m 32 ++ (number_text (length c.inputs.items) 32 ++
    (number_text (length c.latches.items) 32 ++ (number_text 0 32 ++ (number_text (length c.gates.items) 32 ++
    counts))))) =
    of_six (header_line m c) (input_lines c.inputs.items) (latch_lines c.latches.items) (literal_lines c.bads.items)
    (literal_lines c.constraints.items) (and_lines c.gates.items)
    ∙ of_eight (codes "aag ") (number_text m 32) (number_text (length c.inputs.items) 32) (number_text
    (length c.latches.items) 32) (number_text 0 32) (number_text (length c.gates.items) 32) (number_text
    (length c.bads.items) 32) (number_text (length c.constraints.items) 10) rows
    in
    let p = counts_of c.bads.items c.constraints.items [] [] in
    ap circuit_of text
    ∙ ap (λ header. (header >>= λ h. body_at h.0 h.1) >>= circuit_in)
    (header-reread (codes "aag ") Ascii m (length c.inputs.items) (length c.latches.items) (length c.gates.items) p counts
    rows (λ bytes. refl) is.small is.counts (below
    (length c.inputs.items + length c.latches.items + length c.gates.items) m is.counts)
    (properties-reread (length c.bads.items) (length c.constraints.items) rows is.bad_count is.constraint_count))
    ∙ ap (λ n. n >>= circuit_in)
    (body-reread c [] [] (header_in Ascii m (length c.inputs.items) (length c.latches.items) (length c.gates.items) p) m
    refl is (none_writable m) refl)

of_seven : (o a b c d e f : List ℕ) → o ++ a ++ b ++ c ++ d ++ e ++ f ≡ o ++ (a ++ (b ++ (c ++ (d ++ (e ++ (f ++ []))))))
of_seven o a b c d e f = simp (append_assoc, append-nil)

pub of_ten : (o a b c d e f g h i rest : List ℕ) → (o ++ a ++ b ++ c ++ d ++ e ++ f ++ g ++ h ++ i) ++ rest ≡ o ++ (a ++
    (b ++ (c ++ (d ++ (e ++ (f ++ (g ++ (h ++ (i ++ rest)))))))))
of_ten o a b c d e f g h i rest = simp append_assoc

-- what the text of a circuit with justice properties and fairness constraints writes is these
pub live_aag_rereads : (c : Circuit) (l : Liveness) → IsWritable c
    → AreLiveWritable (greatest_variable c) (justice_view l) l.fairness.items
    → live_rows_of (live_aag_text c l) ≡ Some (live_rows c l)
unfolding live_rows_of
live_aag_rereads c l is live =
    let justice = justice_view l in
    let fairness = l.fairness.items in
    let m = greatest_variable c in
    let rows = rows_text c justice fairness in
    let b = length c.bads.items in
    let k = length c.constraints.items in
    let j = length l.justice.items in
    let f = length fairness in
    let same : length justice ≡ j = length-map l.justice.items (λ property. property.items) in
    let counts = number_text b 32 ++ (number_text k 32 ++ (number_text j 32 ++ (number_text f 10 ++ rows))) in
    let text : live_aag_text c l ≡ codes "aag " ++ (number_text m 32 ++ (number_text (length c.inputs.items) 32 ++
    (number_text (length c.latches.items) 32 ++ (number_text 0 32 ++ (number_text (length c.gates.items) 32 ++
    counts))))) =
    of_seven (live_header_line m c j f) (input_lines c.inputs.items) (latch_lines c.latches.items)
    (literal_lines c.bads.items) (literal_lines c.constraints.items) (liveness_lines justice fairness)
    (and_lines c.gates.items)
    ∙ of_ten (codes "aag ") (number_text m 32) (number_text (length c.inputs.items) 32) (number_text
    (length c.latches.items) 32) (number_text 0 32) (number_text (length c.gates.items) 32) (number_text b 32)
    (number_text k 32) (number_text j 32) (number_text f 10) rows
    in
    let p : Properties = record { bads = b; constraints = k; justice = j; fairness = f } in
    let header : header_in Ascii m (length c.inputs.items) (length c.latches.items) (length c.gates.items) p
    ≡ header_in Ascii m (length c.inputs.items) (length c.latches.items) (length c.gates.items)
    (counts_of c.bads.items c.constraints.items justice fairness) =
    ap (λ n. header_in Ascii m (length c.inputs.items) (length c.latches.items) (length c.gates.items)
    (record { bads = b; constraints = k; justice = n; fairness = f })) (sym same)
    in
    ap live_rows_of text
    ∙ ap (λ header. header >>= λ h. body_at h.0 h.1)
    (header-reread (codes "aag ") Ascii m (length c.inputs.items) (length c.latches.items) (length c.gates.items) p counts
    rows (λ bytes. refl) is.small is.counts (below
    (length c.inputs.items + length c.latches.items + length c.gates.items) m is.counts)
    (live_properties-reread b k j f rows is.bad_count is.constraint_count
    (subst (λ n. n < 2 ^ 31) same live.justice_count) live.fairness_count))
    ∙ body-reread c justice fairness
    (header_in Ascii m (length c.inputs.items) (length c.latches.items) (length c.gates.items) p) m refl is live header
