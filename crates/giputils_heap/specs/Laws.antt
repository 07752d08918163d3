-- Laws of records, which callers of a run may cite.
use Rattle.std.specs.Prelude.{◌≡◌, ℕ, Bool, List, [], ◌∷◌, ◌++◌, length, map, slice_get, IsTrue, Option, Some, None}
use Rattle.std.specs.List.{All, AllZip}
use Rattle.giputils_bounded.specs.Prelude.{AreDistinct, HoldAlike, IsTotalPreorder, is_descending}
use Rattle.giputils_heap.specs.Record.{Entry, Answers, AnswersAt, KeepsCounts, KeepsCountAt, IsSteady, held_before}
use Rattle.giputils_heap.specs.declared.run.HeapCall.TheVariants.{Pop}
use Rattle.giputils_heap.specs.declared.run.HeapReply.TheVariants.{Popped}

-- a comparer's relation is R
abbrev pub Compares : {T C : Type 0} → (C → T → T → Bool) → (T → T → Bool) → C → Type 0
Compares {T} at_least R c = (x y : T) → at_least c x y ≡ R x y

-- a step that pops by a relation R, with this answer
pub record IsPop {T C : Type 0} (at_least : C → T → T → Bool) (R : T → T → Bool) (answer : Option T) (e : Entry T C)
    : Type 0 where
  pub call : e.call ≡ Pop
  pub comparer : Compares at_least R e.comparer
  pub reply : e.reply ≡ Popped answer

-- steps that pop by a relation R until nothing is held, and answer these keys before that
abbrev pub PopUntilNone : {T C : Type 0} → (C → T → T → Bool) → (T → T → Bool) → List T → List (Entry T C) → Type 0
PopUntilNone at_least R keys entries = AllZip (IsPop at_least R) (map Some keys ++ None ∷ []) entries

-- the keys are all the held ones, each once, and each is at least the next
pub record ListsDownward {T : Type 0} (number : T → ℕ) (R : T → T → Bool) (held keys : List T) : Type 0 where
  pub alike : HoldAlike number keys held
  pub each_once : AreDistinct number keys
  pub descending : IsTrue (is_descending R keys)

-- a record that answers does so at each of its steps
abbrev pub AnswersAtEachStep : (T C : Type 0) → Type 0
AnswersAtEachStep T C =
    (number : T → ℕ) (at_least : C → T → T → Bool) (entries : List (Entry T C)) → Answers number at_least entries
    → (i : ℕ) (e : Entry T C) → slice_get entries i ≡ Some e → AnswersAt number at_least entries i e

-- a record that keeps its counts does so at each of its steps
abbrev pub KeepsCountsAtEachStep : (T C : Type 0) → Type 0
KeepsCountsAtEachStep T C =
    (number : T → ℕ) (entries : List (Entry T C)) → KeepsCounts number entries
    → (i : ℕ) (e : Entry T C) → slice_get entries i ≡ Some e → KeepsCountAt number entries i e

-- popping by one relation until nothing is held gives every key that was held once, and each is at least the next,
-- where the first of these pops is steady
abbrev pub PopsListDownward : {T C : Type 0} → (T → ℕ) → (C → T → T → Bool) → Type 0
PopsListDownward {T} {C} number at_least =
    (before pops : List (Entry T C)) (R : T → T → Bool) (keys : List T) → Answers number at_least (before ++ pops)
    → PopUntilNone at_least R keys pops → IsSteady number at_least (before ++ pops) (length before)
    → ListsDownward number R (held_before number (before ++ pops) (length before)) keys

-- where every comparer has one relation, which orders all keys, every step is steady
abbrev pub OneOrderIsSteady : {T C : Type 0} → (T → ℕ) → (C → T → T → Bool) → Type 0
OneOrderIsSteady {T} {C} number at_least =
    (R : T → T → Bool) → IsTotalPreorder R → (entries : List (Entry T C))
    → All (λ e. Compares at_least R e.comparer) entries
    → (i : ℕ) → IsSteady number at_least entries i
