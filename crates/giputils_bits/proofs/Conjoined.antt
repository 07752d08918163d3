-- Words that are what the words of two lists have in common, each list negated where that is told.
use Rattle.std.proofs.Common.{◌≡◌, ℕ, ◌+◌, ◌-◌, ◌/◌, ◌%◌, ◌<◌, Bool, false, ◌&&◌, List, length, replicate, get_or, refl, sym, ap, ◌∙◌, arith}
use Rattle.std.specs.Prelude.{bit_xor}
use Rattle.std.proofs.lemmas.List.{get_or-replicate}
use Rattle.giputils_bits.specs.Prelude.{IsPacked, Rewrites, and_of, bits_of, common_digits, has_digit, negated_if, place, value_of, xor}
use Rattle.giputils_bits.proofs.Digits.{has_digit-and, has_digit-xor, has_digit-value_of}
use Rattle.giputils_bits.proofs.Logic.{empty_is_none, length-zip_with, get_or-zip_with, length-negated_if, get_or-negated_if}
use Rattle.giputils_bits.proofs.Places.{place_is, length-bits_of, get_or-bits_of, bits_of_is}
use Rattle.giputils_bits.proofs.Written.{trimmed, IsPacked-trimmed, bits_of-trimmed}

-- the mask whose digits are all as told
abbrev pub mask_of : Bool → ℕ
mask_of told = value_of (replicate 64 told)

has_digit-mask : (a i : ℕ) (told : Bool) → i < 64 → has_digit (bit_xor a (mask_of told)) i ≡ xor (has_digit a i) told
has_digit-mask a i told below =
    has_digit-xor a (mask_of told) i ∙ ap (xor (has_digit a i)) (has_digit-value_of (replicate 64 told) i ∙ get_or-replicate 64 i told false below)

has_digit-common : (a b i : ℕ) (not_a not_b : Bool) → i < 64
    → has_digit (common_digits a (mask_of not_a) b (mask_of not_b)) i ≡ (xor (has_digit a i) not_a && xor (has_digit b i) not_b)
has_digit-common a b i not_a not_b below =
    has_digit-and _ _ i ∙ rw (has_digit-mask a i not_a below, has_digit-mask b i not_b below) refl

-- lists without a place have none in common
pub none_in_common : (xs ys zs : List Bool) (not_a not_b : Bool) → length xs ≡ 0 → length xs ≡ length ys → length xs ≡ length zs → xs ≡ and_of (negated_if not_a ys) (negated_if not_b zs)
none_in_common xs ys zs not_a not_b none long_ys long_zs =
    let same : length (negated_if not_a ys) ≡ length (negated_if not_b zs) =
    length-negated_if not_a ys ∙ sym long_ys ∙ long_zs ∙ sym (length-negated_if not_b zs) in
    empty_is_none xs none
    ∙ sym (empty_is_none (and_of (negated_if not_a ys) (negated_if not_b zs)) (length-zip_with ◌&&◌ _ _ same ∙ length-negated_if not_a ys ∙ sym long_ys ∙ none))

module _ (n : ℕ) (old vs ws mid : List ℕ) (not_a not_b : Bool) (some : 0 < n) (p : IsPacked n old)
    (r : Rewrites (λ k _. common_digits (get_or vs k 0) (mask_of not_a) (get_or ws k 0) (mask_of not_b)) old mid (length old)) where
  place-conjoined : (i : ℕ) → i < n → place mid i ≡ (xor (place vs i) not_a && xor (place ws i) not_b)
  place-conjoined i below =
      rw (place_is mid i, r.done (i / 64) (omega (arith, p.count)), place_is vs i, place_is ws i)
      (has_digit-common (get_or vs (i / 64) 0) (get_or ws (i / 64) 0) (i % 64) not_a not_b (omega arith))

  bits_of-mid : bits_of n mid ≡ and_of (negated_if not_a (bits_of n vs)) (negated_if not_b (bits_of n ws))
  bits_of-mid =
      let xs : List Bool = negated_if not_a (bits_of n vs) in
      let ys : List Bool = negated_if not_b (bits_of n ws) in
      let xs_long : length xs ≡ n = length-negated_if not_a (bits_of n vs) ∙ length-bits_of n vs in
      let ys_long : length ys ≡ n = length-negated_if not_b (bits_of n ws) ∙ length-bits_of n ws in
      let long : length xs ≡ length ys = xs_long ∙ sym ys_long in
      bits_of_is n mid (and_of xs ys) (length-zip_with ◌&&◌ xs ys long ∙ xs_long) (λ i below.
      let x : get_or xs i false ≡ xor (place vs i) not_a =
      get_or-negated_if not_a (bits_of n vs) i (omega (arith, length-bits_of n vs)) ∙ ap (λ b. xor b not_a) (get_or-bits_of n vs i false below) in
      let y : get_or ys i false ≡ xor (place ws i) not_b =
      get_or-negated_if not_b (bits_of n ws) i (omega (arith, length-bits_of n ws)) ∙ ap (λ b. xor b not_b) (get_or-bits_of n ws i false below) in
      place-conjoined i below ∙ sym (get_or-zip_with ◌&&◌ xs ys i (omega (arith, xs_long)) long ∙ rw (x, y) refl))

  pub count_mid : length mid ≡ (n - 1) / 64 + 1
  count_mid = r.count ∙ p.count ∙ omega arith

  pub IsPacked-conjoined : IsPacked n (trimmed n mid some count_mid)
  IsPacked-conjoined = IsPacked-trimmed n mid some count_mid

  pub bits_of-conjoined : bits_of n (trimmed n mid some count_mid) ≡ and_of (negated_if not_a (bits_of n vs)) (negated_if not_b (bits_of n ws))
  bits_of-conjoined = bits_of-trimmed n mid some count_mid ∙ bits_of-mid
