-- Order after a call that puts one key right, from one premise on the relations.
use Rattle.std.proofs.Common.{ℕ, Bool, List, ◌∷◌}
use Rattle.giputils_bounded.specs.Prelude.{CanRepair, HasFallen, HasRisen, IsInOrder, IsLawful, RepairsChanged, RepairsFallen, RepairsRisen}

module _ {T : Type 0} (number : T → ℕ) (v : T) (R Q : T → T → Bool) (old new : List T) (can : CanRepair number v R Q old) where
  -- after `update`
  pub IsInOrder-changed : RepairsChanged number v Q old new old → IsInOrder R old → IsInOrder Q new
  IsInOrder-changed repairs ordered = repairs R ordered can.lawful can.agrees can.lawful_now

  -- after `push_or_update`
  pub IsInOrder-renewed : IsLawful Q (v ∷ old) → RepairsChanged number v Q old new (v ∷ old) → IsInOrder R old → IsInOrder Q new
  IsInOrder-renewed lawful repairs ordered = repairs R ordered can.lawful can.agrees lawful

  -- after `up`
  pub IsInOrder-risen : HasRisen v R Q old → RepairsRisen number v Q old new → IsInOrder R old → IsInOrder Q new
  IsInOrder-risen risen repairs ordered = repairs R ordered can.lawful can.agrees risen can.lawful_now

  -- after `down`
  pub IsInOrder-fallen : HasFallen v R Q old → RepairsFallen number v Q old new → IsInOrder R old → IsInOrder Q new
  IsInOrder-fallen fallen repairs ordered = repairs R ordered can.lawful can.agrees fallen can.lawful_now
