-- What is known of the items that `extend` and `from` are given, and what they leave.
use Rattle.std.specs.Prelude.{◌≡◌, ℕ, Bool, List, ◌++◌, Option, Some}
use Rattle.std.specs.Iterator.{Count, Drains, IsFinite, YieldsThen}

-- these items follow those bits
abbrev pub Extends : List Bool → List Bool → List Bool → Type 0
Extends bits items more = more ≡ bits ++ items

module _ {U T : Type 0} (becomes : U → T → Type 0) where
  -- each iterator that `iter` becomes ends, and may be called until then
  abbrev pub CanDrain : (T → Type 0) → (T → Count) → U → Type 0
  CanDrain can_next remaining iter = (it : T) → becomes iter it → can_next it × IsFinite (remaining it)

  -- `fits` holds of the most items that an iterator of `iter` may have
  abbrev pub ItemsFit : (T → Count) → U → (ℕ → Type 0) → Type 0
  ItemsFit remaining iter fits = (it : T) → becomes iter it → fits (remaining it).bound

  -- the bits are all items of what `iter` became
  abbrev pub CollectsItems : (T → Option Bool → T → Type 0) → U → List Bool → Type 0
  CollectsItems steps iter bits =
      (it : T) × (items : List Bool) × becomes iter it × Drains steps it items × (bits ≡ items)

  -- items xs of what `iter` became follow the old bits; the item after them, which was refused, was taken and is not
  -- kept
  abbrev pub StopsBefore : (T → Option Bool → T → Type 0) → U → List Bool → List Bool → Type 0
  StopsBefore steps iter old new =
      (it : T) × (xs : List Bool) × (refused : Bool) × (left : T)
      × becomes iter it × (new ≡ old ++ xs) × YieldsThen steps it xs (Some refused) left
