use Rattle.std.proofs.Common.{length, ap, ◌∙◌, ◌++◌, arith}
use Rattle.std.proofs.lemmas.List.{length-append}
use Rattle.std.proofs.iter.Yields.{copies, fronts}
use Rattle.std.proofs.lemmas.Iterator.{YieldsList-from_slice}
use Rattle.std.proofs.lemmas.Iterator.Consumers.{YieldsList-from_copied, YieldsList-at}
use Rattle.giputils_bits.proofs.Replies.{refused_within, refused_leaves, stops_at}
use Rattle.giputils_bits.proofs.Taken.{drained}
use Rattle.giputils_bits.proofs.run.append.Goals as goal

pub returns-in-Ok-clause-after : goal.returns-in-Ok-clause-after
returns-in-Ok-clause-after g c =
    let ran = c.in-Ok.ensures.ran in
    let road = YieldsList-at ran.2 (YieldsList-from_copied (YieldsList-at c.copied.ensures.source (YieldsList-from_slice c.args.items.now c.iter.ensures.rest))) in
    ran.3 ∙ ap (λ zs. c.args.bits.now ++ zs) (drained (copies fronts) c.args.items.now ran.1 ran.0 ran.4.0 road.runs ran.4.1)

pub returns-in-Ok-clause-reply : goal.returns-in-Ok-clause-reply
returns-in-Ok-clause-reply g c = omega (arith, ap length (returns-in-Ok-clause-after g c), length-append c.args.bits.now c.args.items.now, c.len.ensures, c.len.type_inv)

pub returns-in-Err-clause-reply : goal.returns-in-Err-clause-reply
returns-in-Err-clause-reply g c =
    let stops = c.in-Err.ensures.err in
    let road = YieldsList-at stops.4 (YieldsList-from_copied (YieldsList-at c.copied.ensures.source (YieldsList-from_slice c.args.items.now c.iter.ensures.rest))) in
    rw (c.len.ensures, c.len-len.ensures) (
      refused_within (copies fronts) c.args.items.now c.args.bits.now c.extend-outcome.new.self stops.1 stops.0 stops.3 stops.2 road.runs stops.5 stops.6,
      stops_at (copies fronts) c.args.items.now c.args.bits.now c.extend-outcome.new.self stops.1 stops.0 stops.3 stops.2 road.runs stops.5 stops.6
          c.in-Err.error c.extend-outcome.result c.in-Err.is c.extend-outcome.ensures.memory c.extend-outcome.ensures.too_long,
    )

pub returns-in-Err-clause-after : goal.returns-in-Err-clause-after
returns-in-Err-clause-after g c =
    let stops = c.in-Err.ensures.err in
    let road = YieldsList-at stops.4 (YieldsList-from_copied (YieldsList-at c.copied.ensures.source (YieldsList-from_slice c.args.items.now c.iter.ensures.rest))) in
    rw (c.len.ensures, c.len-len.ensures) (refused_leaves (copies fronts) c.args.items.now c.args.bits.now c.extend-outcome.new.self stops.1 stops.0 stops.3 stops.2 road.runs stops.5 stops.6)
