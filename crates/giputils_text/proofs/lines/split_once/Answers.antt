-- The first place of the byte, if any, is where the first piece ends.
use Rattle.std.proofs.Common.{rules, ◌≡◌, ◌+◌, ◌-◌, ◌==◌, length, take, drop, sym, ◌∙◌, arith, Some, length-drop, take_all}
use Rattle.std.proofs.lemmas.Iterator.{YieldsList-from_slice}
use Rattle.std.proofs.lemmas.Iterator.Search.{position_from_yields_List}
use Rattle.std.specs.List.{position}
use borrow.Author.Tests.{tests}
use Rattle.giputils_text.proofs.Pieces.{pieces-at, pieces-none}
use Rattle.giputils_text.proofs.lines.split_once.Goals as goal

pub returns-in-Some-clause-parts : goal.returns-in-Some-clause-parts
returns-in-Some-clause-parts c =
    let text = c.args.text.now in
    let at = c.in-Some.at in
    let found =
    position_from_yields_List (λ b. b == c.args.byte) _ _ c.position.result c.position.ensures.ran (YieldsList-from_slice text cc)
    (λ x b q k. search (rules, tests))
    in
    let place : position (λ b. b == c.args.byte) text ≡ Some at = sym found ∙ c.in-Some.is in
    let rest : take (length text - (at + 1)) (drop (at + 1) text) ≡ drop (at + 1) text =
    take_all _ _ (omega (arith, length-drop (at + 1) text))
    in
    rw rest (pieces-at c.args.byte text at place)

pub returns-in-None-clause-parts : goal.returns-in-None-clause-parts
returns-in-None-clause-parts c =
    let text = c.args.text.now in
    let found =
    position_from_yields_List (λ b. b == c.args.byte) _ _ c.position.result c.position.ensures.ran (YieldsList-from_slice text cc)
    (λ x b q k. search (rules, tests))
    in
    pieces-none c.args.byte text (sym found ∙ c.in-None.is)
