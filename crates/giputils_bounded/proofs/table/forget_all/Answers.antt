use Rattle.std.proofs.Common.{◌≡◌, ◌≢◌, ℕ, get_or, Option, Some, None, refl, ap, sym, ◌∙◌, arith}
use Rattle.std.proofs.lemmas.Option.{none-some}
use Rattle.giputils_bounded.specs.Table.{place_in}
use Rattle.giputils_bounded.proofs.Places.{number-within}
use Rattle.giputils_bounded.proofs.table.forget_all.Goals as goal

pub forget-requires : goal.forget-requires
forget-requires g c = record {
  number =
      let within =
      number-within g.T.HeapKey.number c.args.keys.now c.args.places.now c.loop-key.key-index c.key-item.result c.loop-key-test.true
      c.key-item.is c.requires.table
      in
      omega (arith, within, c.loop-key.invariant.size);
}

pub loop-key-preserved : goal.loop-key-preserved
loop-key-preserved g c =
    let number = g.T.HeapKey.number in
    let keys = c.args.keys.now in
    let key = c.key-item.result in
    let i = c.loop-key.invariant in
    let says = c.forget.ensures.places in
    record {
      size = c.forget.ensures.size ∙ i.size;
      left = λ n j found.
          let other : n ≢ number key = λ e. none-some j (sym says.here ∙ ap (place_in c.forget.new.places) (sym e) ∙ found) in
          let was = i.left n j (sym (says.others n other) ∙ found) in
          let here : j ≢ c.loop-key.key-index = λ e.
          other (sym ((c.requires.table.held n j was.1).1 key) ∙ ap (λ m. number (get_or keys m key)) e ∙ ap number (sym c.key-item.is))
          in
          (omega (arith, was.0), was.1);
    }

pub returns-clause-none : goal.returns-clause-none
returns-clause-none g c n = none_left (place_in c.loop-key.places n) refl
  where
    none_left : (o : Option ℕ) → place_in c.loop-key.places n ≡ o → o ≡ None
    none_left None says = refl
    none_left (Some j) says =
        let was = c.loop-key.invariant.left n j says in
        let inside = (c.requires.table.held n j was.1).0 in
        absurd (omega (arith, was.0, inside))
