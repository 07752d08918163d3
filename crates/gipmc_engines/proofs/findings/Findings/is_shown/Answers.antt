-- A trace fails that is replayed, and the rest is right.
use Rattle.std.proofs.Common.{◌<◌, refl, sym, subst}
use Rattle.std.proofs.lemmas.Option.{slice_get_read}
use Rattle.std.proofs.lemmas.Result.{IfOk-weaker}
use Rattle.gipmc_circuits.specs.Traces.{FailsBy}
use Rattle.gipmc_engines.proofs.AreRight.{IsShown-by, same_trace, trace_no_depth, trace_not_inductive, trace_not_safe, trace_not_unknown}
use Rattle.gipmc_engines.proofs.findings.Findings.is_shown.Goals as goal

pub returns-in-Fails : goal.returns-in-Fails
returns-in-Fails c =
    let now = c.args.self.now in
    let circuit = now.netlist.now.circuit in
    let b = c.index-self-place.result in
    let f = c.index.result.now in
    let within = subst (λ n. c.args.place < n) (sym now.count) c.requires in
    let at = slice_get_read now.bads.now _ c.args.place _ refl c.requires c.index-self-place.is in
    let found = slice_get_read now.each.items _ c.args.place _ refl within c.index.ensures in
    IfOk-weaker c.replay.result _ _
    (λ fails replayed sure.
    let here = subst (λ l. FailsBy circuit l c.in-Fails.trace) (sym c.index-self-place.is) (replayed sure) in
    IsShown-by circuit now.invariant now.bads.now now.each.items c.args.place b f now.initiated now.inductive now.right at found
    (λ trace is. subst (λ t. FailsBy circuit b t) (same_trace f c.in-Fails.trace trace c.in-Fails.is is) here))
    c.replay.ensures

pub returns-in-Safe : goal.returns-in-Safe
returns-in-Safe c sure =
    let now = c.args.self.now in
    let b = c.index-self-place.result in
    let f = c.index.result.now in
    let within = subst (λ n. c.args.place < n) (sym now.count) c.requires in
    let at = slice_get_read now.bads.now _ c.args.place _ refl c.requires c.index-self-place.is in
    let found = slice_get_read now.each.items _ c.args.place _ refl within c.index.ensures in
    IsShown-by now.netlist.now.circuit now.invariant now.bads.now now.each.items c.args.place b f now.initiated now.inductive now.right at found
    (λ trace is. absurd (trace_not_safe f trace is c.in-Safe.is))

pub returns-in-Inductive : goal.returns-in-Inductive
returns-in-Inductive c sure =
    let now = c.args.self.now in
    let b = c.index-self-place.result in
    let f = c.index.result.now in
    let within = subst (λ n. c.args.place < n) (sym now.count) c.requires in
    let at = slice_get_read now.bads.now _ c.args.place _ refl c.requires c.index-self-place.is in
    let found = slice_get_read now.each.items _ c.args.place _ refl within c.index.ensures in
    IsShown-by now.netlist.now.circuit now.invariant now.bads.now now.each.items c.args.place b f now.initiated now.inductive now.right at found
    (λ trace is. absurd (trace_not_inductive f trace c.in-Inductive.field-0 is c.in-Inductive.is))

pub returns-in-NoFailureWithin : goal.returns-in-NoFailureWithin
returns-in-NoFailureWithin c sure =
    let now = c.args.self.now in
    let b = c.index-self-place.result in
    let f = c.index.result.now in
    let within = subst (λ n. c.args.place < n) (sym now.count) c.requires in
    let at = slice_get_read now.bads.now _ c.args.place _ refl c.requires c.index-self-place.is in
    let found = slice_get_read now.each.items _ c.args.place _ refl within c.index.ensures in
    IsShown-by now.netlist.now.circuit now.invariant now.bads.now now.each.items c.args.place b f now.initiated now.inductive now.right at found
    (λ trace is. absurd (trace_no_depth f trace c.in-NoFailureWithin.field-0 is c.in-NoFailureWithin.is))

pub returns-in-Unknown : goal.returns-in-Unknown
returns-in-Unknown c sure =
    let now = c.args.self.now in
    let b = c.index-self-place.result in
    let f = c.index.result.now in
    let within = subst (λ n. c.args.place < n) (sym now.count) c.requires in
    let at = slice_get_read now.bads.now _ c.args.place _ refl c.requires c.index-self-place.is in
    let found = slice_get_read now.each.items _ c.args.place _ refl within c.index.ensures in
    IsShown-by now.netlist.now.circuit now.invariant now.bads.now now.each.items c.args.place b f now.initiated now.inductive now.right at found
    (λ trace is. absurd (trace_not_unknown f trace is c.in-Unknown.is))
