-- What a heap holds after `push` and `push_or_update`.
use Rattle.std.proofs.Common.{◌≡◌, ℕ, Bool, List, ◌∷◌, ◌+◌, ◌≤◌, length, arith, refl, sym, subst, ◌∙◌, ⊎_elim}
use Rattle.std.specs.List.Sorted.{IsPermutation}
use Rattle.std.proofs.lemmas.Bool.{cases_Bool}
use Rattle.std.proofs.lemmas.List.Sorted.{length_permutation}
use Rattle.std.proofs.lemmas.Map.Steps.{list_any_congr}
use Rattle.giputils_bounded.specs.Prelude.{AreDistinct, HoldAlike, IsAbsent, IsHeld, Pushes, PushesOrUpdates, is_held, same_key}
use Rattle.giputils_bounded.proofs.HoldAlike.{HoldAlike-IsPermutation, AreDistinct-cons}
use Rattle.giputils_bounded.proofs.KeySets.{same_key-equiv, AreDistinct-IsPermutation}

module _ {T : Type 0} (number : T → ℕ) where
  -- a held key adds none
  HoldAlike-held : (v : T) (keys : List T) → IsHeld number keys v → HoldAlike number keys (v ∷ keys)
  HoldAlike-held v keys held q =
      ⊎_elim (λ same. rw same (list_any_congr (same_key-equiv number) q v keys same ∙ held)) (λ other. rw other refl) (cases_Bool (same_key number q v))

  module _ (v : T) (old new : List T) (stays : IsHeld number old v → new ≡ old) (added : IsAbsent number old v → IsPermutation (v ∷ old) new) where
    -- an accepted push leaves the held keys and v
    pub HoldAlike-pushed : HoldAlike number new (v ∷ old)
    HoldAlike-pushed =
        ⊎_elim (λ held. subst (λ keys. HoldAlike number keys (v ∷ old)) (sym (stays held)) (HoldAlike-held v old held))
        (λ absent. λ q. sym (HoldAlike-IsPermutation number (v ∷ old) new (added absent) q)) (cases_Bool (is_held number old v))

    -- each once
    pub AreDistinct-pushed : AreDistinct number old → AreDistinct number new
    AreDistinct-pushed distinct =
        ⊎_elim (λ held. subst (AreDistinct number) (sym (stays held)) distinct)
        (λ absent. AreDistinct-IsPermutation number (v ∷ old) new (added absent) (AreDistinct-cons number v old distinct absent))
        (cases_Bool (is_held number old v))

    -- one more at most
    pub length-pushed : length new ≤ length old + 1
    length-pushed =
        ⊎_elim (λ held. rw (stays held) (omega arith))
        (λ absent. let more = length_permutation (v ∷ old) new (added absent) in omega (arith, more)) (cases_Bool (is_held number old v))

  -- keys that were put in order anew, with v among them or in front, are the keys and v
  HoldAlike-renewed : (v : T) (old new : List T) → (IsHeld number old v → IsPermutation old new) → (IsAbsent number old v → IsPermutation (v ∷ old) new)
      → HoldAlike number new (v ∷ old)
  HoldAlike-renewed v old new moved added =
      ⊎_elim (λ held. λ q. sym (HoldAlike-IsPermutation number old new (moved held) q) ∙ HoldAlike-held v old held q)
      (λ absent. λ q. sym (HoldAlike-IsPermutation number (v ∷ old) new (added absent) q)) (cases_Bool (is_held number old v))

  module _ {R : T → T → Bool} {v : T} {old new : List T} where
    -- what each of the two calls leaves held
    pub HoldAlike-pushes : Pushes number R v old new → HoldAlike number new (v ∷ old)
    HoldAlike-pushes pushed = HoldAlike-pushed v old new pushed.stays pushed.added

    pub HoldAlike-pushes_or_updates : PushesOrUpdates number R v old new → HoldAlike number new (v ∷ old)
    HoldAlike-pushes_or_updates pushed = HoldAlike-renewed v old new pushed.moved pushed.added

    -- and how many at most
    pub length-pushes_or_updates : PushesOrUpdates number R v old new → length new ≤ length old + 1
    length-pushes_or_updates pushed =
        ⊎_elim (λ held. let same = length_permutation old new (pushed.moved held) in omega (arith, same))
        (λ absent. let more = length_permutation (v ∷ old) new (pushed.added absent) in omega (arith, more)) (cases_Bool (is_held number old v))
