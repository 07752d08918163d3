-- The input is what the reader had left, and its lines are those that were answered.
use Rattle.std.proofs.Common.{ℕ, List, sym, ap, ◌∙◌, subst}
use Rattle.std.proofs.lemmas.Result.{on_ok_weaker}
use Rattle.std.specs.Io.KnownBytes.{Appends}
use Rattle.gip_lines.specs.Vectors.Lines.{bits_of_line, AreBits, bits_of_lines}
use Rattle.gip_lines.specs.Vectors.Replies.{bits_text}
use Rattle.gip_lines.proofs.Readings.{HasForm-read, said_in-read}
use Rattle.gip_lines.proofs.WholeInput.{whole_input}
use Rattle.gip_lines.proofs.vectors.bits.Goals as goal

pub returns-clause-are_bits : goal.returns-clause-are_bits
returns-clause-are_bits g c =
    let input = c.in_ok-input.input.items in
    let read = rw c.deref.ensures.value at c.in_ok-lines.ensures.ok in
    let form = HasForm-read bits_of_line input c.in_ok-lines.lines.items read in
    let before = g.R.Read.remaining c.args.reader.now.device in
    let after = g.R.Read.remaining c.read_all.new.reader.device in
    on_ok_weaker c.write_all.result
    (λ _. whole_input AreBits before after input c.in_ok-input.ensures.input c.in_ok-input.ensures.end form) c.write_all.ensures.ok

pub returns-clause-written : goal.returns-clause-written
returns-clause-written g c =
    let input = c.in_ok-input.input.items in
    let before = g.R.Read.remaining c.args.reader.now.device in
    let after = g.R.Read.remaining c.read_all.new.reader.device in
    let old = g.W.Write.contents c.args.writer.now.device in
    let new = g.W.Write.contents c.write_all.new.writer.device in
    let Written : List ℕ → Type 0 = λ input. Appends old new (bits_text (bits_of_lines input)) in
    let read = rw c.deref.ensures.value at c.in_ok-lines.ensures.ok in
    let said = said_in-read bits_of_line input c.in_ok-lines.lines.items read in
    let same = c.deref-3.ensures.value ∙ c.in_ok-text.ensures.ok ∙ ap bits_text (c.deref-2.ensures.value ∙ sym said) in
    on_ok_weaker c.write_all.result
    (λ appended. whole_input Written before after input c.in_ok-input.ensures.input c.in_ok-input.ensures.end
    (subst (Appends old new) same appended))
    c.write_all.ensures.ok
