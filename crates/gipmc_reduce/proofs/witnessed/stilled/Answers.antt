-- The circuit that is made stands still.
use Rattle.std.proofs.Common.{◌≡◌, ◌∙◌, IsTrue, subst, sym}
use Rattle.std.specs.List.{list_all}
use Rattle.gipmc_reduce.specs.Witnessed.{HasMoments, shares_below}
use Rattle.gipmc_reduce.proofs.witnessed.stilled.Goals as goal

pub returns-in-Some : goal.returns-in-Some
returns-in-Some c =
    let n = c.args.netlist.now.variables in
    let same : c.in-Some.still.circuit ≡ c.in_ok-circuit.circuit = rw (c.in-Some.is) at c.in_ok-still.ensures in
    record {
      moments = subst (HasMoments n c.args.netlist.now.circuit) (sym same) c.in_ok-circuit.ensures;
      shared = subst (λ ls. IsTrue (list_all (shares_below n) ls)) c.deref.ensures.value
          (sym c.share_below.ensures ∙ c.if-not-share_below.false);
    }
