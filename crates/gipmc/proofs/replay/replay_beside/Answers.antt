-- Witnesses of the one kind, of the other, or of both.
use Rattle.std.proofs.Common.{Ok, Err}
use Rattle.std.specs.Prelude.{Result, IfOk}
use Rattle.gipmc.proofs.replay.replay_beside.Goals as goal

-- what holds whatever the value is
if_any : {T E : Type 0} (r : Result T E) (P : T → Type 0) → ((x : T) → P x) → IfOk r P
if_any (Ok x) P all = all x
if_any (Err e) P all = tt

pub returns-in_ok-has_witness-in-None : goal.returns-in_ok-has_witness-in-None
returns-in_ok-has_witness-in-None c =
    let traces = rw c.in-None.is at c.in_ok-traces.ensures in
    if_any c.verified.result _
    (λ verified is. (c.in_ok-traces.traces, c.args.lassos, traces, c.requires, c.in_ok-has_witness-in-None.ensures))
