-- Nothing is asked, nothing can be, or the outputs are bounded.
use Rattle.std.proofs.Common.{◌≡◌, ◌<◌, ◌≤◌, length, arith}
use Rattle.std.proofs.lemmas.Bool.{lt-ltb}
use Rattle.std.proofs.lemmas.Result.{on_err_weaker, on_ok_weaker}
use Rattle.gipsat_cnf.proofs.Places.{OnErr-always}
use Rattle.gipsat_encodings.specs.Counts.{AreBetween}
use Rattle.gipsat_encodings.proofs.Bounds.{Constrains-between, ConstrainsPart-between}
use Rattle.gipsat_encodings.proofs.Counting.{count-length}
use Rattle.gipsat_encodings.proofs.Extending.{Constrains-always, Constrains-never}
use Rattle.gipsat_encodings.proofs.Leaving.{ConstrainsPart-from, Extends-stays}
use Rattle.gipsat_encodings.proofs.counts.add_between.Goals.{else-most-len, then-most-len, then-least-most-via-else-least-most+then-least-len, then-least-most-via-then-least-most}
use Rattle.gipsat_encodings.proofs.counts.add_between.Goals as goal

pub returns-then-least-most-clause-means : goal.returns-then-least-most-clause-means
returns-then-least-most-clause-means g c =
    on_ok_weaker c.add_fact.result (Constrains-never _ _ _ _ (λ a (is_least, is_most).
    let all = count-length a c.args.literals.now in
    elim c.then-least-most.branch [
      | then-least-most-via-then-least-most w ↦ let over = w.if-least-most.true in omega (arith, over, is_least, is_most)
      | then-least-most-via-else-least-most+then-least-len w ↦ let over = w.if-least-len.true in omega (arith, over, all, is_least)
    ])) c.add_fact.ensures.means

pub returns-then-size-eq0-clause-means : goal.returns-then-size-eq0-clause-means
returns-then-size-eq0-clause-means g c =
    let none : c.args.least ≡ 0 = elim c.if-most-len.branch [
      | then-most-len w ↦ let is = w.size-is in omega (arith, is)
      | else-most-len w ↦ let is = w.size-is in omega (arith, is)
    ] in
    let few : length c.args.literals.now ≤ c.args.most = elim c.if-most-len.branch [
      | then-most-len w ↦ let is = w.size-is in omega (arith, is)
      | else-most-len w ↦ w.if-most-len.false
    ] in
    Constrains-always _ _ _ (λ a. let all = count-length a c.args.literals.now in (omega (arith, none), omega (arith, few, all)))

pub returns-clause-means : goal.returns-clause-means
returns-clause-means g c =
    let room : c.args.least ≤ c.if-most-len.size = elim c.if-most-len.branch [
      | then-most-len w ↦ let is = w.size-is in omega (arith, is)
      | else-most-len w ↦ let is = w.size-is in omega (arith, is)
    ] in
    let above : c.args.most < length c.args.literals.now → c.args.most < c.if-most-len.size = λ few. elim c.if-most-len.branch [
      | then-most-len w ↦ let is = w.size-is in omega (arith, is)
      | else-most-len w ↦ let many = w.if-most-len.false in absurd (omega (arith, many, few))
    ] in
    on_ok_weaker c.add_bounds.result
    (Constrains-between _ _ c.if-most-len.size _ _ _ c.args.least c.args.most c.args.literals.now c.in_ok-outputs.outputs.items _ _ _ c.above.ensures.least c.above.ensures.below
    c.in_ok-outputs.ensures.counts (omega arith) room (λ few. (lt-ltb c.args.most (length c.args.literals.now) few, above few)) (λ some. lt-ltb 0 c.args.least some))
    (rw c.deref.ensures.value at c.add_bounds.ensures.means)

pub returns-then-least-most-clause-left : goal.returns-then-least-most-clause-left
returns-then-least-most-clause-left g c =
    on_err_weaker c.add_fact.result
    (λ same. rw same (Extends-stays c.args.variables.now c.args.variables.now (AreBetween c.args.least c.args.most c.args.literals.now) _ (omega arith)))
    c.add_fact.ensures.refused

pub returns-in_err-outputs-clause-left : goal.returns-in_err-outputs-clause-left
returns-in_err-outputs-clause-left g c =
    OnErr-always _
    (ConstrainsPart-from _ _ _ (AreBetween c.args.least c.args.most c.args.literals.now) _ _ c.above.ensures.least c.in_err-outputs.ensures.left)

pub returns-clause-left : goal.returns-clause-left
returns-clause-left g c =
    let room : c.args.least ≤ c.if-most-len.size = elim c.if-most-len.branch [
      | then-most-len w ↦ let is = w.size-is in omega (arith, is)
      | else-most-len w ↦ let is = w.size-is in omega (arith, is)
    ] in
    on_err_weaker c.add_bounds.result
    (ConstrainsPart-between _ _ c.if-most-len.size _ _ _ c.args.least c.args.most c.args.literals.now c.in_ok-outputs.outputs.items _ _ _ c.above.ensures.least c.above.ensures.below
    c.in_ok-outputs.ensures.counts (omega arith) room)
    (rw c.deref.ensures.value at c.add_bounds.ensures.left)
