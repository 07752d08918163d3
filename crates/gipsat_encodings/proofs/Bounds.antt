-- What is bounded by outputs that count, and what outputs tell.
use Rattle.std.proofs.Common.{◌≡◌, ◌↔◌, ℕ, suc, ◌+◌, ◌<◌, ◌≤◌, Bool, true, false, not, List, length, Option, IsTrue, refl, sym, ap, ◌∙◌, arith, ⊎_elim}
use Rattle.std.proofs.lemmas.Bool.{cases_lt}
use Rattle.std.proofs.lemmas.Option.{slice_get_within}
use Rattle.gipsat_cnf.specs.Prelude.{Adds, AreBelow, Assignment, Formula, Lit, is_true, satisfies}
use Rattle.gipsat_encodings.specs.Counts.{AreBetween, AtLeastTrue, AtMostTrue, ExactlyTrue, count_true}
use Rattle.gipsat_encodings.specs.Extending.{AddsSome, AgreeBelow, Anything, Constrains, ConstrainsPart, Defines, SpeaksBelow}
use Rattle.gipsat_encodings.specs.Outputs.{Counts, SaysSum, TellCount, reached, says, value_or}
use Rattle.gipsat_encodings.proofs.Agreeing.{SpeaksBelow-adds, count-agreeing}
use Rattle.gipsat_encodings.proofs.Counting.{count-length}
use Rattle.gipsat_encodings.proofs.Extending.{Extends-from}
use Rattle.gipsat_encodings.proofs.Reaching.{not-false-is, not-true-is, reached-agreeing, unreached}

-- an implication between what outputs say
pub SaysSum-implied : (a : Assignment) (up : Bool) (left right sums : List Lit) (i j : ℕ) (p q s : Option Lit) → i + j ≤ length sums
    → value_or true a p ≡ says up a left i → value_or true a q ≡ says up a right j → value_or true a s ≡ says up a sums (i + j)
    → (IsTrue (value_or true a p) → IsTrue (value_or true a q) → IsTrue (value_or true a s)) ↔ SaysSum up left right sums a i j
SaysSum-implied a up left right sums i j p q s within is_p is_q is_s = (
  λ implied inside from_left from_right. sym is_s ∙ implied (is_p ∙ from_left) (is_q ∙ from_right),
  λ say from_p from_q. is_s ∙ say within (sym is_p ∙ from_p) (sym is_q ∙ from_q),
)

-- each model within bounds is one in which the outputs say these, by other values
bounded : (up down : Bool) (size n m least most : ℕ) (literals outputs : List Lit) (f g : Formula) → AreBelow n literals
    → Counts up down size n m literals outputs f g → least ≤ length literals → least ≤ size → SpeaksBelow n f → (a : Assignment)
    → IsTrue (satisfies a f) → AreBetween least most literals a
    → (b : Assignment) × AgreeBelow n a b × IsTrue (satisfies b g) × IsTrue (reached b outputs least) × IsTrue (not (reached b outputs (suc most)))
bounded up down size n m least most literals outputs f g below counts fits room speaks a sat (is_least, is_most) =
    let sized = counts.sized in
    let (b, same, mid, say_least, say_most) = counts.complete speaks a sat in
    let as_many = count-agreeing n a b literals same below in (
      b,
      same,
      mid,
      say_least least (omega arith) (omega (arith, as_many, is_least)),
      not-false-is (reached b outputs (suc most)) (unreached b outputs (count_true b literals) most say_most (omega (arith, as_many, is_most))),
    )

-- outputs that count are bounded
pub Constrains-between : (up down : Bool) (size v n m least most : ℕ) (literals outputs : List Lit) (f g h : Formula) → v ≤ n → AreBelow n literals
    → Counts up down size n m literals outputs f g → least ≤ length literals → least ≤ size
    → (most < length literals → IsTrue up × (most < size)) → (0 < least → IsTrue down)
    → Adds (λ a. IsTrue (reached a outputs least) × IsTrue (not (reached a outputs (suc most)))) g h
    → Constrains v m (AreBetween least most literals) f h
Constrains-between up down size v n m least most literals outputs f g h from below counts fits room above under adds =
    let rises = counts.rises in
    let sized = counts.sized in
    Extends-from v n m (AreBetween least most literals) (AreBetween least most literals) f h from (record {
      up = rises;
      sound = λ a sat.
          let (mid, (is_least, not_more)) = (adds a).0 sat in
          let all = count-length a literals in (
            counts.keeps a mid,
            (
              ⊎_elim (λ some. counts.at_most a mid (under some) least (omega arith) is_least) (λ none. omega arith) (cases_lt 0 least),
              ⊎_elim
                  (λ few. ⊎_elim
                  (λ more. absurd (not-true-is (reached a outputs (suc most)) not_more
                  (let room_above = (above few).1 in counts.at_least a mid (above few).0 (suc most) (omega arith) (omega arith))))
                  (λ within. within) (cases_lt most (count_true a literals)))
                  (λ many. omega arith) (cases_lt most (length literals)),
            ),
          );
      complete = λ speaks a sat asked.
          let (b, same, mid, is_least, not_more) = bounded up down size n m least most literals outputs f g below counts fits room speaks a sat asked in
          (b, same, (adds b).1 (mid, (is_least, not_more)));
      speaks = λ speaks.
          SpeaksBelow-adds m m (λ a. IsTrue (reached a outputs least) × IsTrue (not (reached a outputs (suc most)))) g h (omega arith) adds
          (λ a b same (is_least, not_more). (
            sym (reached-agreeing m a b outputs least same counts.below) ∙ is_least,
            ap not (sym (reached-agreeing m a b outputs (suc most) same counts.below)) ∙ not_more,
          )) (counts.speaks speaks);
    })

-- a part of the bounds is a part of the constraint
pub ConstrainsPart-between : (up down : Bool) (size v n m least most : ℕ) (literals outputs : List Lit) (f g h : Formula) → v ≤ n → AreBelow n literals
    → Counts up down size n m literals outputs f g → least ≤ length literals → least ≤ size
    → AddsSome outputs (λ a. IsTrue (reached a outputs least) × IsTrue (not (reached a outputs (suc most)))) g h
    → ConstrainsPart v m (AreBetween least most literals) f h
ConstrainsPart-between up down size v n m least most literals outputs f g h from below counts fits room some =
    Extends-from v n m (AreBetween least most literals) Anything f h from (record {
      up = counts.rises;
      sound = λ a sat. (counts.keeps a ((some.part a).0 sat), tt);
      complete = λ speaks a sat asked.
          let (b, same, mid, is_least, not_more) = bounded up down size n m least most literals outputs f g below counts fits room speaks a sat asked in
          (b, same, (some.part b).1 mid (is_least, not_more));
      speaks = λ speaks. some.speaks m counts.below (counts.speaks speaks);
    })

-- outputs that count both ways tell how many are true
pub Defines-count : (size v n m : ℕ) (literals outputs : List Lit) (f g : Formula) → v ≤ n → Counts true true size n m literals outputs f g
    → Defines v m (TellCount outputs literals) f g
Defines-count size v n m literals outputs f g from counts =
    let rises = counts.rises in
    Extends-from v n m Anything (TellCount outputs literals) f g from (record {
      up = rises;
      sound = λ a sat. (
        counts.keeps a sat,
        λ j o at.
            let within = slice_get_within outputs j o at in
            let same : reached a outputs (suc j) ≡ is_true a o = ap (value_or false a) at in (
              λ is. let less = counts.at_most a sat refl (suc j) (omega arith) (same ∙ is) in omega (arith, less),
              λ less. sym same ∙ counts.at_least a sat refl (suc j) (omega arith) (omega arith),
            ),
      );
      complete = λ speaks a sat asked. let (b, same, mid, say_least, say_most) = counts.complete speaks a sat in (b, same, mid);
      speaks = counts.speaks;
    })

-- what is between 0 and k is at most k
pub between-at_most : (k : ℕ) (literals : List Lit) (a : Assignment) → AreBetween 0 k literals a ↔ AtMostTrue k literals a
between-at_most k literals a = (λ (least, most). most, λ most. (omega arith, most))

pub between-at_least : (k : ℕ) (literals : List Lit) (a : Assignment) → AreBetween k (length literals) literals a ↔ AtLeastTrue k literals a
between-at_least k literals a = (λ (least, most). least, λ least. (least, count-length a literals))

pub between-exactly : (k : ℕ) (literals : List Lit) (a : Assignment) → AreBetween k k literals a ↔ ExactlyTrue k literals a
between-exactly k literals a = (λ (least, most). omega (arith, least, most), λ same. (omega (arith, same), omega (arith, same)))
