-- A variable more, and the end.
use Rattle.std.proofs.Common.{◌≡◌, ◌++◌, ◌∙◌, ap, refl, sym, codes}
use Rattle.gipsat_answers.specs.Answers.{values_text}
use Rattle.gipsat_answers.specs.Names.{first_names, name_in}
use Rattle.gipsat_dimacs.specs.Writer.{literal_word}
use Rattle.gipsat_answers.proofs.ValueLines.{value_more, value_last}
use Rattle.gipsat_answers.proofs.answers.satisfiable_text.Goals as goal

pub loop-variable-preserved : goal.loop-variable-preserved
loop-variable-preserved c = λ a are.
    let names = c.args.names.now in
    let k = c.loop-variable.variable in
    let n = c.args.variables in
    let value = c.value_in.ensures ∙ sym (are k c.loop-variable-test.true) in
    let is : c.deref.result.now ≡ literal_word (a (name_in names k)) (name_in names k) =
    c.deref.ensures.value ∙ c.in_ok-write_value.ensures ∙ ap (λ v. literal_word v c.name_in-name.result) value
    ∙ ap (λ m. literal_word (a (name_in names k)) m) c.name_in-name.ensures in
    value_more _ _ (codes "s SATISFIABLE\n" ++ values_text a (first_names names n)) c.loop-variable.column _ a names k n c.deref.result.now
    c.in_ok-column.ensures (c.loop-variable.invariant a are) c.loop-variable-test.true is

pub returns : goal.returns
returns c = λ a are.
    let names = c.args.names.now in
    let k = c.loop-variable.variable in
    let n = c.args.variables in
    c.in_ok-push.ensures.items
    ∙ value_last _ _ (codes "s SATISFIABLE\n" ++ values_text a (first_names names n)) c.loop-variable.column _ a names k n _
    c.in_ok-write_word.ensures (c.loop-variable.invariant a are) c.loop-variable-test.false refl
