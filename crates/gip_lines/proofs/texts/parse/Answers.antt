-- The first line of another form comes after as many lines as were read.
use Rattle.std.proofs.Common.{◌≡◌, length, rules}
use Rattle.gip_lines.proofs.Readings.{first_other-at}
use Rattle.gip_lines.proofs.texts.parse.Goals as goal

pub returns-in-None-clause-err : goal.returns-in-None-clause-err
returns-in-None-clause-err g c =
    let lines = c.loop-line.lines.items in
    let rest = c.loop-line.rest.now in
    let line = c.in-Some.line.now in
    let after = c.in-Some.after.now in
    let count : c.len.result ≡ length lines = search rules in
    rw count
    (first_other-at g.L.Said.form c.args.text.now rest line after lines c.loop-line.invariant.read (search rules) (search rules))
