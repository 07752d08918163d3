-- The longer circuit is safe by the clauses that were read, and so the circuit is live.
use Rattle.std.proofs.Common.{◌≡◌, ◌∙◌, ◌<◌, Some, IsTrue, ap, arith, length, refl}
use Rattle.std.specs.Prelude.{slice_get}
use Rattle.std.proofs.lemmas.Bool.{false≢true}
use Rattle.std.proofs.lemmas.Option.{slice_get_read}
use Rattle.gipmc_circuits.specs.Certificate.{is_certified}
use Rattle.gipmc_circuits.specs.declared.certificate.Verdict.{Verdict}
use Rattle.gipmc_circuits.specs.declared.certificate.Verdict.TheVariants.{Certified, NotInitial, NotInductive, NotSafe, Unknown}
use Rattle.gipmc_task.proofs.justice.certificates.shown_by.Goals as goal

certified-is : (v : Verdict) → IsTrue (is_certified v) → v ≡ Certified
certified-is Certified is = refl
certified-is (NotInitial place) is = absurd (false≢true is)
certified-is (NotInductive place) is = absurd (false≢true is)
certified-is NotSafe is = absurd (false≢true is)
certified-is Unknown is = absurd (false≢true is)

pub returns : goal.returns
returns g c certified =
    let verdicts = c.in_ok-verdicts.verdicts.items in
    let made = rw c.in-Some.is at c.in_ok-made.ensures.made in
    let live = rw c.in-Some.is at c.in_ok-made.ensures.live in
    let said = rw (c.deref.ensures.value) at c.in_ok-verdicts.ensures.safe in
    let some : 0 < length verdicts = omega (arith, c.in_ok-verdicts.ensures.count) in
    let here : slice_get verdicts 0 ≡ Some c.index.result.now =
    slice_get_read verdicts (length verdicts) 0 c.index.result.now refl some c.index.ensures in
    let safely = said 0 c.in-Some.bad refl (here ∙ ap (λ v. Some v) (certified-is c.index.result.now certified)) in (
      (
        _,
        (
          c.in-Some.made.circuit,
          c.in-Some.bad,
          made,
          c.in_ok-clauses.clauses.items,
          c.in_ok-clauses.ensures,
          safely,
        ),
      ),
      live safely.safe,
    )
