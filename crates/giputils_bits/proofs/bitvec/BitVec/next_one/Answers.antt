use Rattle.std.proofs.Common.{◌≡◌, ◌≤◌, ◌/◌, ◌∙◌, ℕ, false, get_or, ap, arith}
use Rattle.std.proofs.lemmas.List.{get_or_past}
use Rattle.giputils_bits.proofs.Places.{kept-length}
use Rattle.giputils_bits.proofs.OnesLeft.{left, word_past, within_words, past-low, past-same, next_is_first, none_is_first}
use Rattle.giputils_bits.proofs.bitvec.BitVec.next_one.Goals as goal

pub returns-then-start-self-clause-none : goal.returns-then-start-self-clause-none
returns-then-start-self-clause-none g c = λ k h. get_or_past c.args.self.now k false (omega (arith, kept-length _ _ _ c.self.view_is))

pub returns-clause-found : goal.returns-clause-found
returns-clause-found g c =
    let within = within_words c.self.inside.len c.self.inside.words c.args.start c.if-start-self.false c.self.invariant in
    let same : (j : ℕ) → c.args.start ≤ j → get_or (left (c.args.start / 64)
    (word_past c.self.inside.words c.args.start) c.self.inside.words within) j false ≡ get_or
    c.args.self.now j false = λ j h.
    past-same c.self.inside.len c.self.inside.words c.args.start c.if-start-self.false c.self.invariant j h ∙ ap (λ bs. get_or bs j false) c.self.view_is in
    next_is_first c.args.self.now _ c.args.start (past-low c.self.inside.len c.self.inside.words c.args.start
    c.if-start-self.false c.self.invariant) same c.next.result _ _
    (rw c.as_slice-words.ensures at c.next.ensures.steps)

pub returns-clause-none : goal.returns-clause-none
returns-clause-none g c =
    let within = within_words c.self.inside.len c.self.inside.words c.args.start c.if-start-self.false c.self.invariant in
    let same : (j : ℕ) → c.args.start ≤ j → get_or (left (c.args.start / 64)
    (word_past c.self.inside.words c.args.start) c.self.inside.words within) j false ≡ get_or
    c.args.self.now j false = λ j h.
    past-same c.self.inside.len c.self.inside.words c.args.start c.if-start-self.false c.self.invariant j h ∙ ap (λ bs. get_or bs j false) c.self.view_is in
    none_is_first c.args.self.now _ c.args.start (past-low c.self.inside.len c.self.inside.words c.args.start
    c.if-start-self.false c.self.invariant) same c.next.result _ _
    (rw c.as_slice-words.ensures at c.next.ensures.steps)
