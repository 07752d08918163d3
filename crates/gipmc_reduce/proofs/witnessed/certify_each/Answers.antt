-- The first literal is certified, and one more is asked about.
use Rattle.std.proofs.Common.{◌≡◌, ◌+◌, ◌∷◌, [], length, slice_get, Some, IsTrue, ap, refl, sym, subst, ◌∙◌}
use Rattle.std.proofs.lemmas.List.{length-append}
use Rattle.std.proofs.lemmas.Option.{slice_get_read}
use Rattle.gipmc_circuits.specs.Prelude.{IsCertifiedBy, is_certified}
use Rattle.gipsat_cnf.proofs.Places.{same_some}
use Rattle.gipmc_circuits.specs.declared.certificate.Verdict.TheVariants.{Certified}
use Rattle.gipmc_reduce.specs.Witnessed.{AreSafeBy}
use Rattle.gipmc_reduce.proofs.Stilled.{AreSafeBy-more, AreSafeBy-none}
use Rattle.gipmc_reduce.proofs.witnessed.certify_each.Goals as goal

pub loop-place-init : goal.loop-place-init
loop-place-init g c =
    let circuit = c.args.netlist.now.circuit in
    let w = c.args.certificate.now in
    let bads = c.args.bads.now in
    let first = AreSafeBy-more circuit w bads [] Certified (AreSafeBy-none circuit w bads) (λ bad at is. c.requires.first bad at) in
    record {
      count = ap length c.in_ok-verdicts.ensures;
      safe = subst (AreSafeBy circuit w bads) (sym c.in_ok-verdicts.ensures) first;
    }

pub loop-place-preserved : goal.loop-place-preserved
loop-place-preserved g c =
    let circuit = c.args.netlist.now.circuit in
    let held = c.loop-place.invariant in
    let verdicts = c.loop-place.verdicts.items in
    let verdict = c.in_ok-verdict.verdict in
    record {
      count = rw (c.in_ok-push.ensures.items) (length-append verdicts (verdict ∷ []) ∙ ap (λ n. n + 1) held.count);
      safe = rw (c.in_ok-push.ensures.items)
          (AreSafeBy-more circuit c.args.certificate.now c.args.bads.now verdicts verdict held.safe
          (λ bad at is.
          let right = c.in_ok-verdict.ensures (subst (λ v. IsTrue (is_certified v)) (sym is) refl) in
          let read = slice_get_read c.args.bads.now _ c.loop-place.place _ refl c.loop-place-test.true c.index-bads-place.is in
          let there = subst (λ n. slice_get c.args.bads.now n ≡ Some bad) held.count at in
          let here = same_some c.index-bads-place.result bad (sym read ∙ there) in
          subst (λ l. IsCertifiedBy circuit l c.args.certificate.now) here right));
    }
