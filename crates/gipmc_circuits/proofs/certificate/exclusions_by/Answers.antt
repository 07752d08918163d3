-- One more literal is asked about.
use Rattle.std.proofs.Common.{◌≡◌, ◌+◌, ◌∷◌, [], slice_get, Some, IsTrue, ap, refl, sym, subst, ◌∙◌}
use Rattle.std.proofs.lemmas.List.{length-append}
use Rattle.std.proofs.lemmas.Option.{slice_get_read}
use Rattle.gipmc_circuits.specs.Certificate.{Excludes, is_certified}
use Rattle.gipsat_cnf.proofs.Places.{same_some}
use Rattle.gipmc_circuits.proofs.Certified.{AreExcluded-more}
use Rattle.gipmc_circuits.proofs.certificate.exclusions_by.Goals as goal

pub loop-place-preserved : goal.loop-place-preserved
loop-place-preserved g c =
    let circuit = c.args.circuit.now in
    let held = c.loop-place.invariant in
    let verdicts = c.loop-place.verdicts.items in
    record {
      count = rw (c.in_ok-push.ensures.items) (length-append verdicts (c.exclusion.result ∷ []) ∙ ap (λ n. n + 1) held.count);
      allows = rw (c.is_excluded_in.ensures.formula) held.allows;
      excluded = rw (c.in_ok-push.ensures.items)
          (AreExcluded-more circuit c.args.invariant.now c.args.bads.now verdicts c.exclusion.result held.excluded
          (λ bad at is.
          let sure = c.exclusion.ensures (subst (λ v. IsTrue (is_certified v)) (sym is) refl) in
          let right = (rw sure at c.in_ok-said.ensures.right) refl in
          let read = slice_get_read c.args.bads.now _ c.loop-place.place _ refl c.loop-place-test.true c.index-bads-place.is in
          let there = subst (λ n. slice_get c.args.bads.now n ≡ Some bad) held.count at in
          let here = same_some c.index-bads-place.result bad (sym read ∙ there) in
          subst (λ l. Excludes circuit c.args.invariant.now l) here right));
    }
