-- Lists of indexes that are renamed in place.
use Rattle.std.specs.Prelude.{◌≡◌, ℕ, ◌+◌, ◌<◌, List, [], ◌∷◌, ◌++◌, length, take, drop, slice_index_or, slice_set, Option, Some, None}
use Rattle.std.specs.List.{filter_map}
use Rattle.std.proofs.Common.{arith, ap, sym, ◌∙◌, refl, append-nil}
use Rattle.std.proofs.lemmas.List.{take_more, take_more_set, get_or-drop}
use Rattle.std.proofs.lemmas.List.Elements.{filter_map-append}

-- lists that are the same from a place on have one item there
pub same_place : (xs ys : List ℕ) (n d : ℕ) → drop n xs ≡ drop n ys → slice_index_or xs n d ≡ slice_index_or ys n d
same_place xs ys n d rest =
    let here : n + 0 ≡ n = omega arith in
    let first : slice_index_or (drop n xs) 0 d ≡ slice_index_or xs n d = rw here at (get_or-drop n xs 0 d) in
    let second : slice_index_or (drop n ys) 0 d ≡ slice_index_or ys n d = rw here at (get_or-drop n ys 0 d) in
    sym first ∙ ap (λ l. slice_index_or l 0 d) rest ∙ second

module _ (index : ℕ → Option ℕ) (old items : List ℕ) (place kept : ℕ) where
  -- the next index has a new one, which is put behind the others
  pub renamed-kept : (d new : ℕ) → place < length old → kept < length items → take kept items ≡ filter_map index (take place old)
      → index (slice_index_or old place d) ≡ Some new → take (kept + 1) (slice_set items kept new) ≡ filter_map index (take (place + 1) old)
  renamed-kept d new inside room before is =
      take_more_set items kept new room
      ∙ ap (λ is. is ++ new ∷ []) before
      ∙ sym (rw (take_more old place d inside, filter_map-append index (take place old) (slice_index_or old place d ∷ []), is) refl)

  -- the next index has none, and is passed over
  pub renamed-passed : (d : ℕ) → place < length old → take kept items ≡ filter_map index (take place old)
      → index (slice_index_or old place d) ≡ None → take kept items ≡ filter_map index (take (place + 1) old)
  renamed-passed d inside before is =
      before
      ∙ sym (append-nil _)
      ∙ sym (rw (take_more old place d inside, filter_map-append index (take place old) (slice_index_or old place d ∷ []), is) refl)
