-- An answer without a witness of such properties is passed over, and a claim is one more.
use Rattle.std.proofs.Common.{◌≡◌, ◌∷◌, false, rules, true}
use Rattle.gipmc_aiger.specs.Prelude.{claim_view, claims_from, claims_view, is_passed, said_lines}
use Rattle.gipmc_aiger.proofs.ClaimLoops.{claims_view-more, goes_on, passes}
use Rattle.gipmc_aiger.proofs.claims.answered.Goals as goal

pub loop-line-preserved-then-is_passed : goal.loop-line-preserved-then-is_passed
loop-line-preserved-then-is_passed c =
    let first : said_lines c.loop-line.rest.now ≡ c.in-Some.line.now ∷ said_lines c.in-Some.after.now = search rules in
    let other : is_passed c.args.other c.in-Some.line.now (said_lines c.in-Some.after.now) ≡ true = search rules in
    passes (claims_view c.loop-line.claims.items) c.args.letter c.args.other c.args.latches c.args.inputs (said_lines c.loop-line.rest.now)
    (claims_from c.args.letter c.args.other c.args.latches c.args.inputs false (said_lines c.args.text.now)) c.loop-line.invariant c.in-Some.line.now
    (said_lines c.in-Some.after.now) (said_lines c.behind-rest.result.now) first c.behind-rest.ensures.lines other

pub loop-line-preserved : goal.loop-line-preserved
loop-line-preserved c =
    let first : said_lines c.loop-line.rest.now ≡ c.in-Some.line.now ∷ said_lines c.in-Some.after.now = search rules in
    let more : is_passed c.args.other c.in-Some.line.now (said_lines c.in-Some.after.now) ≡ false = search rules in
    rw (claims_view-more c.loop-line.claims.items c.push.new.self.items c.in_ok-claim.claim c.in_ok-push.ensures.items)
    (goes_on (claims_view c.loop-line.claims.items) c.args.letter c.args.other c.args.latches c.args.inputs (said_lines c.loop-line.rest.now)
    (claims_from c.args.letter c.args.other c.args.latches c.args.inputs false (said_lines c.args.text.now)) c.loop-line.invariant c.in-Some.line.now
    (said_lines c.in-Some.after.now) (said_lines c.behind-rest-in-Some.result.now) first
    c.behind-rest-in-Some.ensures.lines (claim_view c.in_ok-claim.claim) more c.in_ok-claim.ensures)
