use Rattle.std.proofs.Common.{◌<◌, ◌-◌, ◌^◌, ℕ, length, drop, get_or, arith, rules}
use Rattle.std.proofs.lemmas.List.{length-drop, take_all}
use Rattle.std.proofs.lemmas.Bool.Decides.{Decides-eqb}
use Rattle.giputils_bits.proofs.Patterns.{one_from_kept, kept_one, kept_one_above}
use Rattle.giputils_bits.proofs.bitvec.BitVec.is_one.Goals as goal

pub bounds-words-0 : goal.bounds-words-0
bounds-words-0 g c = rw c.as_slice-words.ensures (omega (arith, c.self.invariant.count))

pub returns-then-words-eq1 : goal.returns-then-words-eq1
returns-then-words-eq1 g c =
    let ws = c.self.inside.words in
    let fits : (k : ℕ) → get_or c.as_slice-words.result.now k 0 < 2 ^ 64 = λ k. search rules in
    let kept_fits = rw c.as_slice-words.ensures at fits in
    let checked = rw c.as_slice-words.ensures at c.all_equal.ensures in
    let others = rw (take_all (length ws - 1) (drop 1 ws) (omega (arith, length-drop 1 ws))) at checked in (
      λ yes. one_from_kept c.self.inside.len ws c.args.self.now c.self.view_is c.self.invariant kept_fits (rw c.as_slice-words.ensures at c.if-words-eq1.true) (others.0 yes),
      λ e. others.1 (kept_one_above c.self.inside.len ws c.args.self.now c.self.view_is c.self.invariant kept_fits e),
    )

pub returns-else-words-eq1 : goal.returns-else-words-eq1
returns-else-words-eq1 g c =
    let fits : (k : ℕ) → get_or c.as_slice-words.result.now k 0 < 2 ^ 64 = λ k. search rules in (
      λ yes. absurd (c.if-words-eq1.false ((Decides-eqb _ _).0 yes)),
      λ e. (Decides-eqb _ _).1 (rw c.as_slice-words.ensures
          (kept_one c.self.inside.len c.self.inside.words c.args.self.now c.self.view_is c.self.invariant (rw c.as_slice-words.ensures at fits) e)),
    )
