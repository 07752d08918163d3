-- Both halves are counted, and their outputs are summed.
use Rattle.std.proofs.Common.{◌/◌, ◌-◌, drop, length, take, sym, subst, arith, rules}
use Rattle.std.proofs.lemmas.Result.{IfOk-weaker, on_err_weaker}
use Rattle.gipsat_cnf.proofs.Places.{OnErr-always}
use Rattle.gipsat_encodings.specs.Extending.{Anything}
use Rattle.gipsat_encodings.specs.Outputs.{Counts}
use Rattle.gipsat_encodings.proofs.Agreeing.{AreBelow-more}
use Rattle.gipsat_encodings.proofs.Leaving.{DefinesPart-both, Extends-stays}
use Rattle.gipsat_encodings.proofs.Parts.{AreBelow-drop, AreBelow-take, Counts-joined, DefinesPart-halves, both-parts}
use Rattle.gipsat_encodings.proofs.Summing.{Counts-few, DefinesPart-counts}
use Rattle.gipsat_encodings.proofs.counts.+count_halves.Goals as goal

pub returns-then-literals-lt2-clause-counts : goal.returns-then-literals-lt2-clause-counts
returns-then-literals-lt2-clause-counts g t c =
    let f = g.S.ClauseSink.formula c.args.sink.now in
    IfOk-weaker c.copy_of.result _ _ (λ outputs same.
    subst (λ o. Counts c.args.ways.up c.args.ways.down c.args.size c.args.variables.now c.args.variables.now c.args.literals.now o f f) (sym same)
    (Counts-few c.args.ways.up c.args.ways.down c.args.size c.args.variables.now c.args.literals.now f c.requires.some c.if-literals-lt2.true c.requires.below))
    c.copy_of.ensures

pub count_halves-requires : goal.count_halves-requires
count_halves-requires g t c κs within =
    (search rules, (search rules, (c.requires.some, AreBelow-take c.args.variables.now (length c.args.literals.now / 2) c.args.literals.now c.requires.below)))

pub count_halves-requires-2 : goal.count_halves-requires-2
count_halves-requires-2 g t c κs within =
    let middle = length c.args.literals.now / 2 in (
      search rules,
      (
        search rules,
        (
          c.requires.some,
          AreBelow-take c.count_halves.new.variables (length c.args.literals.now - middle) (drop middle c.args.literals.now)
              (AreBelow-more c.args.variables.now c.count_halves.new.variables (drop middle c.args.literals.now) c.in_ok-left.ensures.counts.rises
              (AreBelow-drop c.args.variables.now middle c.args.literals.now c.requires.below)),
        ),
      ),
    )

pub returns-clause-counts : goal.returns-clause-counts
returns-clause-counts g t c =
    let middle = length c.args.literals.now / 2 in
    let later = drop middle c.args.literals.now in
    let rest = length c.args.literals.now - middle in
    Counts-joined c.add_sums.result (λ sums. sums.items) _ _ c.args.size _ _ _ _ (take middle c.args.literals.now) (take rest later) c.args.literals.now
    c.in_ok-left.left.items c.in_ok-right.right.items _ _ _ _ _ _ (both-parts middle c.args.literals.now) c.deref.ensures.value c.deref-2.ensures.value
    (AreBelow-take c.args.variables.now middle c.args.literals.now c.requires.below)
    (AreBelow-take c.args.variables.now rest later (AreBelow-drop c.args.variables.now middle c.args.literals.now c.requires.below)) c.in_ok-left.ensures.counts c.in_ok-right.ensures.counts
    c.add_sums.ensures.len c.add_sums.ensures.fresh c.add_sums.ensures.next c.add_sums.ensures.means

pub returns-then-literals-lt2-clause-left : goal.returns-then-literals-lt2-clause-left
returns-then-literals-lt2-clause-left g t c = OnErr-always _ (Extends-stays c.args.variables.now c.args.variables.now Anything _ (omega arith))

pub returns-in_err-right-clause-left : goal.returns-in_err-right-clause-left
returns-in_err-right-clause-left g t c =
    OnErr-always _ (DefinesPart-both _ _ _ _ _ _ (DefinesPart-counts _ _ _ _ _ _ _ _ _ c.in_ok-left.ensures.counts) c.in_err-right.ensures.left)

pub returns-clause-left : goal.returns-clause-left
returns-clause-left g t c =
    let middle = length c.args.literals.now / 2 in
    let later = drop middle c.args.literals.now in
    let rest = length c.args.literals.now - middle in
    on_err_weaker c.add_sums.result
    (DefinesPart-halves _ _ _ _ _ _ _ _ _ _ _ _ _ _ _ _ _ c.deref.ensures.value c.deref-2.ensures.value
    (AreBelow-take c.args.variables.now middle c.args.literals.now c.requires.below)
    (AreBelow-take c.args.variables.now rest later (AreBelow-drop c.args.variables.now middle c.args.literals.now c.requires.below))
    c.in_ok-left.ensures.counts c.in_ok-right.ensures.counts c.add_sums.ensures.rises)
    c.add_sums.ensures.left
