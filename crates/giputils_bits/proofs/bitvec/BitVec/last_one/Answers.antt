use Rattle.std.proofs.Common.{◌≡◌, ◌+◌, ◌-◌, ◌^◌, ◌<◌, get_or, arith, rules, ap, length}
use Rattle.giputils_bits.proofs.Highest.{highest_one, none_at_all, none_from_word, none_past_top, top_holds}
use Rattle.giputils_bits.proofs.Places.{kept-length, place-past}
use Rattle.giputils_bits.proofs.bitvec.BitVec.last_one.Goals as goal

pub loop-k-init : goal.loop-k-init
loop-k-init g c = record { within = omega arith; none = λ j h. place-past _ j h }

pub loop-k-preserved : goal.loop-k-preserved
loop-k-preserved g c = record {
  within = omega (arith, c.loop-k.invariant.within);
  none = none_from_word _ (c.loop-k.k - 1) c.loop-k.k (omega arith) c.loop-k.invariant.none (omega (arith, c.if-word-ne0.false));
}

pub overflow_sub-digit : goal.overflow_sub-digit
overflow_sub-digit g c =
    let fits : get_or c.as_slice-words.result.now (c.loop-k.k - 1) 0 < 2 ^ 64 = search rules in
    omega (arith, (highest_one _ c.if-word-ne0.true fits).0)

pub overflow_mul-result : goal.overflow_mul-result
overflow_mul-result g c = omega (
  arith,
  ap length c.as_slice-words.ensures,
  c.loop-k.invariant.within,
  c.self.invariant.count,
  c.len.ensures,
  c.len.type_inv,
  kept-length _ _ _ c.self.view_is,
)

pub overflow_add-result : goal.overflow_add-result
overflow_add-result g c = omega (
  arith,
  ap length c.as_slice-words.ensures,
  c.loop-k.invariant.within,
  c.self.invariant.count,
  c.len.ensures,
  c.len.type_inv,
  kept-length _ _ _ c.self.view_is,
)

pub returns-then-word-ne0-clause-found : goal.returns-then-word-ne0-clause-found
returns-then-word-ne0-clause-found g c =
    let fits : get_or c.as_slice-words.result.now (c.loop-k.k - 1) 0 < 2 ^ 64 = search rules in
    rw c.as_slice-words.ensures
    (top_holds c.self.inside.len c.self.inside.words c.args.self.now c.self.view_is c.self.invariant (c.loop-k.k - 1) c.loop-k.k (omega arith)
    (rw c.as_slice-words.ensures at c.if-word-ne0.true) (rw c.as_slice-words.ensures at fits))

pub returns-then-word-ne0-clause-last : goal.returns-then-word-ne0-clause-last
returns-then-word-ne0-clause-last g c =
    let fits : get_or c.as_slice-words.result.now (c.loop-k.k - 1) 0 < 2 ^ 64 = search rules in
    rw c.as_slice-words.ensures
    (none_past_top c.self.inside.len c.self.inside.words c.args.self.now c.self.view_is c.self.invariant (c.loop-k.k - 1) c.loop-k.k (omega arith)
    (rw c.as_slice-words.ensures at c.if-word-ne0.true) (rw c.as_slice-words.ensures at fits) (rw c.as_slice-words.ensures at c.loop-k.invariant.none))

pub returns-clause-none : goal.returns-clause-none
returns-clause-none g c =
    let all : c.loop-k.k ≡ 0 = omega arith in
    none_at_all c.self.inside.len c.self.inside.words c.args.self.now c.self.view_is c.self.invariant
    (rw c.as_slice-words.ensures at (rw all at c.loop-k.invariant.none))
