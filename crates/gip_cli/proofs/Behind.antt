-- What stands behind a short name in a word.
use Rattle.std.proofs.Common.{◌≡◌, ℕ, true, false, List, length, refl, sym, subst, if◌then◌else◌, Some, None}
use Rattle.std.proofs.lemmas.Str.Pattern.{starts_text}
use Rattle.std.specs.Prelude.{◌==◌, drop, MatchOption, Option}
use Rattle.std.specs.List.{starts_with}
use Rattle.std.specs.Option.{option_map}
use Rattle.std.specs.Str.{IsCharBoundary}
use Rattle.std.specs.Str.Pattern.{FindsTextPrefix, StripsPrefix}
use Rattle.gip_cli.specs.Items.{behind}
use denote.Ref.{Bor}
use lib.Dec.{eqb}

stripped : (short word : List ℕ) (r : Option (Bor (List ℕ)))
    → MatchOption r (FindsTextPrefix short word None) (λ x. StripsPrefix (FindsTextPrefix short) word x.now)
    → option_map (λ value. value.now) r ≡ (if starts_with eqb word short then Some (drop (length short) word) else None)
stripped short word None lacks =
    let lacking : starts_with eqb word short ≡ false = sym (starts_text false short word lacks) in
    rw lacking refl
stripped short word (Some x) (n, (same, parted, boundary), is, more) =
    let ends : IsCharBoundary word n = subst (λ k. IsCharBoundary word k) (sym same) boundary in
    let begins : starts_with eqb word short ≡ true = sym (starts_text true short word (n, (same, parted, boundary), ends)) in
    rw (begins, is, same) refl

-- a name that is not empty
pub behind-stripped : (short word : List ℕ) (r : Option (Bor (List ℕ))) → (length short == 0) ≡ false
    → MatchOption r (FindsTextPrefix short word None) (λ x. StripsPrefix (FindsTextPrefix short) word x.now)
    → option_map (λ value. value.now) r ≡ behind short word
behind-stripped short word r some cases = rw some (stripped short word r cases)
