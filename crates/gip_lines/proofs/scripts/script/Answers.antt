-- The input is what the reader had left, and its lines are those that were answered.
use Rattle.std.proofs.Common.{◌≡◌, ℕ, Bool, List, sym, ap, ◌∙◌, subst}
use Rattle.std.proofs.lemmas.Result.{on_ok_weaker}
use Rattle.std.specs.Io.KnownBytes.{Appends}
use Rattle.gip_lines.specs.Scripts.Lines.{line_of, IsScript, lines_of}
use Rattle.gip_lines.specs.Scripts.Replies.{script_text}
use Rattle.gip_lines.proofs.Readings.{HasForm-read, said_in-read}
use Rattle.gip_lines.proofs.SmallKeys.{small_keys}
use Rattle.gip_lines.proofs.WholeInput.{whole_input}
use Rattle.gip_lines.proofs.scripts.script.Goals as goal
use Rattle.giputils_text.specs.Lines.{text_lines}

pub replies_to-requires : goal.replies_to-requires
replies_to-requires g c =
    let read = rw c.deref.ensures.value at c.in_ok-lines.ensures.ok in
    record { keys = rw c.deref-2.ensures.value (small_keys (text_lines c.in_ok-input.input.items) c.in_ok-lines.lines.items read) }

pub returns-clause-is_script : goal.returns-clause-is_script
returns-clause-is_script g c =
    let input = c.in_ok-input.input.items in
    let read = rw c.deref.ensures.value at c.in_ok-lines.ensures.ok in
    let form = HasForm-read line_of input c.in_ok-lines.lines.items read in
    let before = g.R.Read.remaining c.args.reader.now.device in
    let after = g.R.Read.remaining c.read_all.new.reader.device in
    on_ok_weaker c.write_all.result
    (λ _. whole_input IsScript before after input c.in_ok-input.ensures.input c.in_ok-input.ensures.end form) c.write_all.ensures.ok

pub returns-clause-written : goal.returns-clause-written
returns-clause-written g c =
    let input = c.in_ok-input.input.items in
    let before = g.R.Read.remaining c.args.reader.now.device in
    let after = g.R.Read.remaining c.read_all.new.reader.device in
    let old = g.W.Write.contents c.args.writer.now.device in
    let new = g.W.Write.contents c.write_all.new.writer.device in
    let Written : List ℕ → Type 0 = λ input. (refusals : List Bool) × Appends old new (script_text (lines_of input) refusals) in
    let read = rw c.deref.ensures.value at c.in_ok-lines.ensures.ok in
    let said = said_in-read line_of input c.in_ok-lines.lines.items read in
    let (refusals, text) = c.in_ok-text.ensures.text in
    let same : c.deref-3.result.now ≡ script_text (lines_of input) refusals =
    c.deref-3.ensures.value ∙ text ∙ ap (λ lines. script_text lines refusals) (c.deref-2.ensures.value ∙ sym said) in
    on_ok_weaker c.write_all.result
    (λ appended. whole_input Written before after input c.in_ok-input.ensures.input c.in_ok-input.ensures.end
    (refusals, subst (Appends old new) same appended))
    c.write_all.ensures.ok
