-- One clause more.
use Rattle.std.proofs.Common.{◌∙◌, ap}
use Rattle.std.specs.List.{list_all}
use Rattle.gipmc_circuits.specs.Encoding.{literal_below}
use Rattle.gipmc_circuits.proofs.Ends.{IsEnd-more, all_taken}
use Rattle.gipmc_circuits.proofs.certificate.rows_end.Goals as goal

pub loop-place-preserved : goal.loop-place-preserved
loop-place-preserved c =
    IsEnd-more (λ n r. list_all (literal_below n) r.items) c.args.invariant.now c.loop-place.place c.index-invariant-place.result
    c.loop-place.end c.literals_end.result c.max-end.result c.loop-place-test.true c.max-end.ensures c.loop-place.invariant
    (λ n. c.literals_end.ensures n ∙ ap (list_all (literal_below n)) (c.deref.ensures.value ∙ ap (λ r. r.items) c.index-invariant-place.is))

pub returns : goal.returns
returns c =
    all_taken (λ n r. list_all (literal_below n) r.items) c.args.invariant.now c.loop-place.place c.loop-place.end
    c.loop-place-test.false c.loop-place.invariant
