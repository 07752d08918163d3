use Rattle.std.proofs.Common.{◌≡◌, ◌<◌, length, refl, arith, subst}
use Rattle.std.proofs.lemmas.Option.{slice_get_read}
use Rattle.std.proofs.lemmas.Grind.{common_steps}
use Rattle.gipsat_cnf.specs.Prelude.{KeepsBut, Reorders, clauses_of}
use Rattle.gipsat_cnf.proofs.Swaps.{IsLaidOut-swapped, KeepsBut-swapped, Reorders-swapped}
use Rattle.gipsat_cnf.proofs.cnf.Cnf.swap.Goals as goal

pub invariant_of-self : goal.invariant_of-self
invariant_of-self c =
    let spans = c.self.inside.spans.items in
    let inside : c.args.place < length c.self.inside.spans.items = grind (arith, common_steps) in
    let at = slice_get_read spans (length c.self.inside.spans.items) c.args.place c.index-span.result.now refl inside c.index-span.ensures in
    let own = c.self.invariant.within c.args.place c.index-span.result.now at in
    let len : length c.swap.new.self.items ≡ length c.self.inside.literals.items = grind (arith, common_steps) in
    IsLaidOut-swapped c.self.inside.variables c.self.inside.literals.items c.swap.new.self.items c.self.inside.spans.items _ _ c.self.invariant
    len c.swap.ensures.by_index (omega (arith, own.0, own.1)) (omega (arith, own.0, own.1))

pub returns-clause-literals : goal.returns-clause-literals
returns-clause-literals c =
    let spans = c.self.inside.spans.items in
    let inside : c.args.place < length c.self.inside.spans.items = grind (arith, common_steps) in
    let at = slice_get_read spans (length c.self.inside.spans.items) c.args.place c.index-span.result.now refl inside c.index-span.ensures in
    let own = c.self.invariant.within c.args.place c.index-span.result.now at in
    let len : length c.swap.new.self.items ≡ length c.self.inside.literals.items = grind (arith, common_steps) in
    subst (λ old. Reorders old (clauses_of c.swap.new.self.items c.self.inside.spans.items)) c.self.view_is
    (Reorders-swapped c.self.inside.variables c.self.inside.literals.items c.swap.new.self.items c.self.inside.spans.items c.args.place
    c.index-span.result.now _ _ c.self.invariant len c.swap.ensures.by_index at
    (omega arith) (omega (arith, own.0)) (omega arith) (omega (arith, own.0)))

pub returns-clause-others : goal.returns-clause-others
returns-clause-others c =
    let spans = c.self.inside.spans.items in
    let inside : c.args.place < length c.self.inside.spans.items = grind (arith, common_steps) in
    let at = slice_get_read spans (length c.self.inside.spans.items) c.args.place c.index-span.result.now refl inside c.index-span.ensures in
    let own = c.self.invariant.within c.args.place c.index-span.result.now at in
    let len : length c.swap.new.self.items ≡ length c.self.inside.literals.items = grind (arith, common_steps) in
    subst (λ old. KeepsBut c.args.place old (clauses_of c.swap.new.self.items c.self.inside.spans.items)) c.self.view_is
    (KeepsBut-swapped c.self.inside.variables c.self.inside.literals.items c.swap.new.self.items c.self.inside.spans.items c.args.place
    c.index-span.result.now _ _ c.self.invariant len c.swap.ensures.by_index at
    (omega arith) (omega (arith, own.0)) (omega arith) (omega (arith, own.0)))
