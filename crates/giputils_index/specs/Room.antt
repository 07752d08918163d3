-- An allocator of indexes with its room.
use Rattle.std.specs.Prelude.{ℕ, Bool, List, refl}
use Rattle.std.specs.Coded.{Coded, code_by, coded×, coded_ℕ, coded_bool, coded_list}

-- the slots, and for how many more values there is memory
pub record Room (T : Type 0) : Type 0 where
  pub slots : List (T × Bool)
  pub room : ℕ

-- it is stored as the pair of the two
abbrev pub room_code : {T : Type 0} → Coded T → Coded (Room T)
room_code {T} code =
    code_by
    (List (T × Bool) × ℕ)
    (coded× (coded_list (coded× code coded_bool)) coded_ℕ)
    (λ r. (r.slots, r.room))
    (λ p. record { slots = p.0; room = p.1 })
    (λ _. refl)
