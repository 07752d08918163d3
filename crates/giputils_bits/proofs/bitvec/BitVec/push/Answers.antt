use Rattle.std.proofs.Common.{◌/◌, ◌<◌, length, arith, refl}
use Rattle.giputils_bits.proofs.Errors.{memory_from}
use Rattle.giputils_bits.proofs.Places.{kept-length, SetsPlace-join, IsPacked-more, bits_of-more}
use Rattle.giputils_bits.proofs.bitvec.BitVec.push.Goals as goal

pub returns-then-self-clause-inline : goal.returns-then-self-clause-inline
returns-then-self-clause-inline g c = λ short. absurd (omega (arith, kept-length _ _ _ c.self.view_is))

pub returns-then-self-clause-too_long : goal.returns-then-self-clause-too_long
returns-then-self-clause-too_long g c = (λ _. omega (arith, kept-length _ _ _ c.self.view_is), λ _. refl)

pub returns-in_err-make_room-clause-inline : goal.returns-in_err-make_room-clause-inline
returns-in_err-make_room-clause-inline g c = λ short. let full = c.in_err-make_room.ensures.full in absurd (omega (arith, kept-length _ _ _ c.self.view_is, full.0, full.1))

pub returns-in_err-make_room-clause-memory : goal.returns-in_err-make_room-clause-memory
returns-in_err-make_room-clause-memory g c = λ _. rw (kept-length _ _ _ c.self.view_is) at c.in_err-make_room.ensures.full

pub returns-in_err-make_room-clause-too_long : goal.returns-in_err-make_room-clause-too_long
returns-in_err-make_room-clause-too_long g c =
    let refused = memory_from _ c.from_residual.ensures in
    (λ e. cc, λ e. absurd (c.if-self.false (omega (arith, kept-length _ _ _ c.self.view_is))))

pub invariant_of-self-2 : goal.invariant_of-self-2
invariant_of-self-2 g c =
    let within : c.self.inside.len / 64 < length c.make_room.new.words = omega (arith, c.in_ok-make_room.ensures.ok.count) in
    rw c.join_at.ensures (IsPacked-more _ _ _ _ _ c.self.invariant c.in_ok-make_room.ensures.ok
    (SetsPlace-join c.self.inside.len c.self.inside.words c.make_room.new.words _ _ within c.self.invariant c.in_ok-make_room.ensures.ok c.digit-digit.ensures))

pub returns-clause-ok : goal.returns-clause-ok
returns-clause-ok g c =
    let within : c.self.inside.len / 64 < length c.make_room.new.words = omega (arith, c.in_ok-make_room.ensures.ok.count) in
    rw (c.join_at.ensures, ← c.self.view_is) (bits_of-more _ _ _ _ _ c.in_ok-make_room.ensures.ok
    (SetsPlace-join c.self.inside.len c.self.inside.words c.make_room.new.words _ _ within c.self.invariant c.in_ok-make_room.ensures.ok c.digit-digit.ensures))

pub returns-clause-too_long : goal.returns-clause-too_long
returns-clause-too_long g c = (λ e. absurd (cc), λ e. absurd (c.if-self.false (omega (arith, kept-length _ _ _ c.self.view_is))))
