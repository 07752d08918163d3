-- Who is a member of a hashed set after a call, where `==` of the members decides that they are equal.
use Rattle.std.proofs.Common.{◌≡◌, ◌≢◌, Bool, true, false, List, ◌⊎◌, ⊎_elim, inl, inr, refl, sym, ◌∙◌}
use Rattle.std.specs.Bool.{Decides}
use Rattle.std.proofs.lemmas.Bool.{cases_Bool}
use Rattle.giputils_hash.specs.Hash.{contains, PutsMember, TakesMember}

module _ {K : Type 0} {eq : K → K → Bool} (decides : (a b : K) → Decides (eq a b) (a ≡ b)) (k : K) (old new : List K) where
  -- what was put in is a member
  pub contains-put : PutsMember eq k old new → contains eq new k ≡ true
  contains-put puts = puts k ∙ rw ((decides k k).1 refl) refl

  -- so is what was one before
  pub contains-put_stays : PutsMember eq k old new → (q : K) → contains eq old q ≡ true → contains eq new q ≡ true
  contains-put_stays puts q held = puts q ∙ ⊎_elim (λ same. rw same refl) (λ apart. rw apart held) (cases_Bool (eq k q))

  -- and nothing else
  pub contains-put_cases : PutsMember eq k old new → (q : K) → contains eq new q ≡ true → (k ≡ q) ⊎ (contains eq old q ≡ true)
  contains-put_cases puts q held =
      ⊎_elim (λ same. inl ((decides k q).0 same)) (λ apart. inr (rw apart at (sym (puts q) ∙ held))) (cases_Bool (eq k q))

  -- what was taken out is no member
  pub contains-taken : TakesMember eq k old new → contains eq new k ≡ false
  contains-taken takes = takes k ∙ rw ((decides k k).1 refl) refl

  -- what is another value is one as before
  pub contains-taken_other : TakesMember eq k old new → (q : K) → k ≢ q → contains eq new q ≡ contains eq old q
  contains-taken_other takes q apart =
      takes q ∙ ⊎_elim (λ same. absurd (apart ((decides k q).0 same))) (λ differs. rw differs refl) (cases_Bool (eq k q))
