-- How a heap stands to the record of the calls that it has answered.
use Rattle.std.specs.Prelude.{ℕ, Bool, List, Option, IsTrue, MatchOption}
use Rattle.giputils_bounded.specs.Prelude.{AreDistinct, HoldAlike, IsInOrder, IsLawful}
use Rattle.giputils_heap.specs.Record.{Progress, start_if_empty}

module _ {T C : Type 0} (at_least : C → T → T → Bool) where
  -- keys are in order under the comparer that was last lent, which is lawful on them, or under all where none was
  abbrev pub IsInOrderByLast : Option C → List T → Type 0
  IsInOrderByLast last keys =
      MatchOption last ((R : T → T → Bool) → IsInOrder R keys)
      (λ c. IsInOrder (at_least c) keys × IsLawful (at_least c) keys)

module _ {T C : Type 0} (number : T → ℕ) (at_least : C → T → T → Bool) where
  -- while the comparisons stay steady, the keys are in order by the last of them
  abbrev pub IsInOrderSince : Progress T C → List T → Type 0
  IsInOrderSince p keys = IsTrue p.steady → IsInOrderByLast at_least p.last keys

  -- a heap of these keys has answered the calls that came to this progress
  pub record Stands (p : Progress T C) (keys : List T) : Type 0 where
    pub alike : HoldAlike number keys p.held
    pub keys_distinct : AreDistinct number keys
    pub held_distinct : AreDistinct number p.held
    pub in_order : IsInOrderSince (start_if_empty p) keys
