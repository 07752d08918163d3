-- One of two and not both, by three gates.
use Rattle.std.proofs.lemmas.Result.{IfOk-weaker}
use Rattle.gipmc_builder.specs.Build.{GivesOr, GivesXor}
use Rattle.gipmc_builder.proofs.Built.{gives_xor}
use Rattle.gipmc_builder.proofs.build.Builder.xor.Goals as goal

pub returns-clause-gives : goal.returns-clause-gives
returns-clause-gives c =
    IfOk-weaker c.or.result (GivesOr c.or.new.self.circuit c.in_ok-only_left.only_left c.in_ok-only_right.only_right)
    (GivesXor c.or.new.self.circuit c.args.left c.args.right)
    (λ o either.
    gives_xor _ _ _ c.args.left c.args.right c.negated-2.result c.negated.result c.in_ok-only_left.only_left
    c.in_ok-only_right.only_right o c.negated-2.ensures c.negated.ensures c.in_ok-only_left.ensures.gives c.and-2.ensures.keeps
    c.in_ok-only_right.ensures.gives c.or.ensures.keeps either)
    c.or.ensures.gives
