-- A read goes on where the last one ended.
use Rattle.std.proofs.Common.{◌≡◌, ℕ, ◌+◌, ◌-◌, ◌≤◌, List, ◌++◌, length, take, slice_range, sym, ap, ◌∙◌, subst, arith, rules, le_refl, drop_at, length-take-le}
use Rattle.std.proofs.lemmas.Slice.{take-put_mid_below}
use Rattle.std.specs.Io.KnownBytes.{Consumes}
use Rattle.std.proofs.KnownBytes.{Consumes-trans}
use borrow.Rule.Slice.PartMut.{put_mid, post_of}
use lib.Seq.{take-add, take-append-le}
use Rattle.gip_lines.proofs.transfer.fill.Goals as goal

take_split : (a b : ℕ) (old new : List ℕ) → a ≤ b → take a new ≡ take a old → take a old ++ slice_range new a b ≡ take b new
take_split a b old new h front =
    let same : a + (b - a) ≡ b = omega arith in
    ap (λ l. l ++ slice_range new a b) (sym front) ∙ sym (take-add a (b - a) new) ∙ ap (λ n. take n new) same

slice_range-put_mid : (a k n : ℕ) (xs ys : List ℕ) → a ≤ length xs → n ≤ length ys
    → slice_range (put_mid a k xs ys) a (a + n) ≡ take n ys
slice_range-put_mid a k n xs ys within fits =
    let same : (a + n) - a ≡ n = omega arith in
    let after = post_of a k xs in
    ap (take ((a + n) - a)) (drop_at (take a xs) (ys ++ after) a (length-take-le a xs within))
    ∙ ap (λ m. take m (ys ++ after)) same ∙ take-append-le n ys after fits

pub loop-filled-preserved : goal.loop-filled-preserved
loop-filled-preserved g c =
    let from = c.loop-filled.filled in
    let n = c.in-Ok.n in
    let buf = c.loop-filled.buf in
    let room = length buf - from in
    let filled = put_mid from room buf c.read.new.buf in
    let within = c.loop-filled.invariant.within in
    let part = slice_range-put_mid from room n buf c.read.new.buf within c.in-Ok.ensures.bound.0 in
    let joined = take_split from (from + n) buf filled (omega arith) (take-put_mid_below _ _ _ _ _ (le_refl _) within) in
    let taken = ap (λ l. take from buf ++ l) (sym part) ∙ joined in
    record {
      same_len = search rules;
      within = search rules;
      bytes = subst (Consumes _ _) taken (Consumes-trans _ _ _ _ _ c.loop-filled.invariant.bytes c.in-Ok.ensures.bytes.0);
      works = search rules;
    }
