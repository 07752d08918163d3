-- One more default is pushed at each turn; at the end there are as many as were missing.
use Rattle.std.proofs.Common.{arith, refl, [], ◌∷◌, ◌++◌}
use Rattle.std.proofs.lemmas.Grind.{common_steps}
use Rattle.std.proofs.lemmas.List.Elements.{All-push}
use Rattle.giputils_vec.proofs.gvec.Gvec.reserve.Goals as goal

pub loop-init : goal.loop-init
loop-init g c = record {
  missing = grind (arith, common_steps);
  room = grind (arith, common_steps);
  filled = ([], grind (arith, common_steps), refl, λ k d h. absurd (omega arith));
}

pub push_reserved-requires : goal.push_reserved-requires
push_reserved-requires g c = let (fill, items, len, defaults) = c.loop.invariant.filled in grind (arith, common_steps, items)

pub loop-preserved : goal.loop-preserved
loop-preserved g c = record {
  missing = c.loop.invariant.missing;
  room = omega arith;
  filled = (
    c.loop.invariant.filled.0 ++ c.default.result ∷ [],
    grind (arith, common_steps),
    grind (arith, common_steps),
    All-push g.T.Default.is_default _ _ c.loop.invariant.filled.3 c.default.ensures,
  );
}

pub returns-clause-filled : goal.returns-clause-filled
returns-clause-filled g c = record {
  fill = c.loop.invariant.filled.0;
  items = c.loop.invariant.filled.1;
  len = grind (arith, common_steps);
  defaults = c.loop.invariant.filled.3;
}
