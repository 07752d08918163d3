-- Where the bits differ, the right one is borrowed, and else what was.
use Rattle.std.proofs.lemmas.Result.{IfOk-weaker}
use Rattle.gipmc_builder.specs.Build.{GivesBorrow, GivesMux}
use Rattle.gipmc_builder.proofs.Differences.{gives_borrow}
use Rattle.gipmc_builder.proofs.build.Builder.borrow.Goals as goal

pub returns-clause-gives : goal.returns-clause-gives
returns-clause-gives c =
    IfOk-weaker c.mux.result (GivesMux c.mux.new.self.circuit c.in_ok-differ.differ c.args.right c.args.borrow)
    (GivesBorrow c.mux.new.self.circuit c.args.left c.args.right c.args.borrow)
    (λ o mux.
    gives_borrow c.xor.new.self.circuit c.mux.new.self.circuit c.args.left c.args.right c.args.borrow c.in_ok-differ.differ o
    c.in_ok-differ.ensures.gives c.mux.ensures.keeps mux)
    c.mux.ensures.gives
