use Rattle.std.proofs.Common.{◌≡◌, ◌≢◌, ◌∙◌, false, length, sym, ap}
use Rattle.std.specs.Prelude.{codes}
use Rattle.std.specs.Str.{bytes_eq}
use Rattle.std.proofs.lemmas.Bool.{false≢true}
use Rattle.std.proofs.lemmas.Bool.Decides.{Decides-eqb}
use Rattle.giputils_bits.specs.Text.{binary_text}
use Rattle.giputils_bits.proofs.BinaryTexts.{digits_are_text, no_text, no_empty_text}
use Rattle.giputils_bits.proofs.bitvec.BitVec.from_binary_text.Goals.{then-is_empty-via-then-is_empty, then-is_empty-via-else-is_empty+then-not-are_digits}
use Rattle.giputils_bits.proofs.bitvec.BitVec.from_binary_text.Goals as goal

pub returns-then-is_empty-clause-ok : goal.returns-then-is_empty-clause-ok
returns-then-is_empty-clause-ok g c =
    let other : bytes_eq c.args.text.now (codes "[]") ≡ false = ap (bytes_eq c.args.text.now) (sym c.as_slice.ensures) ∙ sym c.eq.ensures ∙ c.if-eq.false in
    elim c.then-is_empty.branch [
      | then-is_empty-via-then-is_empty w ↦ no_empty_text c.args.text.now ((Decides-eqb _ _).0 (sym c.is_empty.ensures ∙ w.if-is_empty.true))
      | then-is_empty-via-else-is_empty+then-not-are_digits w ↦ no_text c.args.text.now other (sym w.are_digits.ensures ∙ w.if-not-are_digits.true)
    ]

pub returns-clause-ok : goal.returns-clause-ok
returns-clause-ok g c =
    let some : length c.args.text.now ≢ 0 = λ none. false≢true (sym c.if-is_empty.false ∙ c.is_empty.ensures ∙ (Decides-eqb _ _).1 none) in
    digits_are_text c.args.text.now some (sym c.are_digits.ensures ∙ c.if-not-are_digits.false) ∙ ap binary_text (sym c.in_ok-read_digits.ensures.ok)
