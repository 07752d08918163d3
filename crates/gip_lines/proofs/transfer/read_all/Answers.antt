-- A full buffer holds more than an input may have.
use Rattle.std.proofs.Common.{ℕ, ◌≤◌, ◌<◌, List, length, take, ap, arith, length-append, length-take-le, Option, Some, None, IfSome}
use Rattle.std.specs.Io.KnownBytes.{Consumes}
use Rattle.gip_lines.proofs.transfer.read_all.Goals as goal

consumed_more : (most n : ℕ) (buf : List ℕ) (old new : Option (List ℕ)) → Consumes old new (take n buf) → n ≤ length buf
    → most < n → IfSome old (λ input. most < length input)
consumed_more most n buf None new bytes within more = tt
consumed_more most n buf (Some input) None bytes within more = absurd bytes
consumed_more most n buf (Some input) (Some rest) bytes within more =
    omega (arith, ap length bytes, length-append (take n buf) rest, length-take-le n buf within)

pub returns-then-filled-gt-INPUT_LIMIT-clause-err : goal.returns-then-filled-gt-INPUT_LIMIT-clause-err
returns-then-filled-gt-INPUT_LIMIT-clause-err g c _ =
    consumed_more _ _ _ _ _ c.in_ok-filled.ensures.bytes c.in_ok-filled.ensures.bound c.if-filled-gt-INPUT_LIMIT.true
