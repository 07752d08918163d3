-- The words that clauses about this crate cite, passed on from one place. Declares nothing.
pub use Rattle.giputils_bounded.specs.Bounded.{Bounded}
pub use Rattle.giputils_bounded.specs.Bounds.{count_limit, drain_limit, halvings, push_bound, pop_bound, up_bound, down_bound, update_bound, rebuild_bound, push_or_update_bound, drain_bound}
unfoldable pub use Rattle.giputils_bounded.specs.Bounds.{floor_log2}
pub use Rattle.giputils_bounded.specs.Calls.{Peeks, Pushes, PushesOrUpdates, Pops, GoesUp, GoesDown, Updates, Removes, Drains, Rebuilds, Builds, Retains}
pub use Rattle.giputils_bounded.specs.Comparers.{reverse_of, rank_of, by_number, by_rank, compared, by_ord}
pub use Rattle.giputils_bounded.specs.Counted.{Counted, counted_code, AsksAtMost, CanAsk}
pub use Rattle.giputils_bounded.specs.Falls.{is_descending, FallsFromOrder}
pub use Rattle.giputils_bounded.specs.InOrder.{IsInOrder, KeepsOrder, KeepsOrderWith, BringsOrder, TakesGreatest, ComesFirst, ComesFirstAlone, RepairsChanged, RepairsRisen, RepairsFallen, EmptyIsInOrder, OrderFollowsAgreement, IsInOrder-fold, IsInOrder-unfold}
pub use Rattle.giputils_bounded.specs.Keys.{key_limit, same_key, is_held, IsHeld, IsAbsent, AreDistinct, without, AreBelow, HoldAlike, HoldsWithin, HoldsAllBut}
pub use Rattle.giputils_bounded.specs.Relations.{IsTotalPreorder, all_pairs, is_total, is_transitive, is_lawful, IsLawful, agree_on, AgreeOn, agrees_except, AgreesExcept, has_risen, HasRisen, has_fallen, HasFallen, is_greatest, IsGreatest, has_no_ties, HasNoTies, CanRepair}
pub use Rattle.giputils_bounded.specs.Table.{option_place, place_in, IsTable, IsTableBut, SaysAlso, SaysNothing, IsTabled, IsRearranged, IsAloneAt, Tabled, StaysInPlace, HasRoomForAll}
pub use Rattle.giputils_bounded.specs.Tree.{IsOver, IsOverKey, IsOverChildren, IsTreeBehind, IsTree, IsTreeButBehind, IsTreeBut, IsTreeUp, IsTreeDownBehind, IsTreeDown, IsGreaterChild, IsWay, HasWay, CanSlide, MakesTree, KeepsTree, RepairsUp, RepairsDown, RepairsDownBehind, RepairsAt, RepairsAbove, TakesGreaterChild, LeadsDown, CanStandOver, CanStandUnder, SlidesInOrder}
