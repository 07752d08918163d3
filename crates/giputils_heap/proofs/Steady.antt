-- When a step of a run agrees with the comparer that was last lent.
use Rattle.std.proofs.Common.{◌≡◌, ℕ, Bool, true, ◌&&◌, List, Option, Some, None, refl, ap, ◌∙◌}
use Rattle.std.proofs.lemmas.Bool.{or_left}
use Rattle.giputils_bounded.specs.Prelude.{agree_on, agrees_except, has_fallen, has_risen, without}
use Rattle.giputils_heap.specs.Record.{agrees_with_last}
use Rattle.giputils_heap.specs.declared.run.HeapCall.{HeapCall}
use Rattle.giputils_heap.specs.declared.run.HeapCall.TheVariants.{Up, Down, Update}
use Rattle.giputils_bounded.proofs.Preorders.{agree_on-refl}

module _ {T C : Type 0} (number : T → ℕ) (at_least : C → T → T → Bool) where
  -- comparers of one relation agree
  agree_on-same : (b c : C) (keys : List T) → at_least b ≡ at_least c → agree_on (at_least b) (at_least c) keys ≡ true
  agree_on-same b c keys same = ap (λ R. agree_on R (at_least c) keys) same ∙ agree_on-refl (at_least c) keys

  -- so every call that is lent one of the last comparer's relation agrees with that
  pub agrees_with_last-same : (last : Option C) (call : HeapCall T) (c : C) (held : List T) → ((b : C) → last ≡ Some b → at_least b ≡ at_least c)
      → agrees_with_last number at_least last call c held ≡ true
  agrees_with_last-same None call c held same = refl
  agrees_with_last-same (Some b) (Up v) c held same =
      or_left (agree_on (at_least b) (at_least c) held)
      (agrees_except number v (at_least b) (at_least c) held && has_risen v (at_least b) (at_least c) held) (agree_on-same b c held (same b refl))
  agrees_with_last-same (Some b) (Down v) c held same =
      or_left (agree_on (at_least b) (at_least c) held)
      (agrees_except number v (at_least b) (at_least c) held && has_fallen v (at_least b) (at_least c) held) (agree_on-same b c held (same b refl))
  agrees_with_last-same (Some b) (Update v) c held same = agree_on-same b c (without number held v) (same b refl)
  agrees_with_last-same (Some b) call c held same = agree_on-same b c held (same b refl)
