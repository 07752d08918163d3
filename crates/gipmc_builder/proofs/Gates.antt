-- Literals that are true where all of some others are, or any of them.
use Rattle.std.proofs.Common.{◌≡◌, ℕ, ◌+◌, ◌<◌, ◌≤◌, ◌&&◌, ◌||◌, Bool, true, false, List, length, drop, get_or, IsTrue, refl, sym, ap, ◌∙◌}
use Rattle.std.specs.List.{list_all, list_any}
use Rattle.std.proofs.Math.Bool.{and_assoc, or_assoc}
use Rattle.std.proofs.lemmas.List.{drop_all, drop_more}
use Rattle.gipsat_cnf.specs.Prelude.{Assignment, Lit, is_true}
use Rattle.gipmc_circuits.specs.declared.circuit.Circuit.{Circuit}
use Rattle.gipmc_circuits.specs.Circuit.{is_valuation}
use Rattle.gipmc_builder.specs.Build.{GivesAll, GivesAnd, GivesAny, GivesOr, Keeps}

and_true : (b : Bool) → b ≡ (b && true)
and_true true = refl
and_true false = refl

or_false : (b : Bool) → b ≡ (b || false)
or_false true = refl
or_false false = refl

-- what the literal of all says so far
abbrev pub AllSoFar : Circuit → List Lit → ℕ → Lit → Type 0
AllSoFar c ls i all =
    (a : Assignment) → IsTrue (is_valuation c a)
    → (is_true a all && list_all (is_true a) (drop i ls)) ≡ list_all (is_true a) ls

pub all_more : (c d : Circuit) (ls : List Lit) (i : ℕ) (l all next : Lit) → i < length ls → l ≡ get_or ls i l
    → AllSoFar c ls i all → Keeps c d → GivesAnd d all l next → AllSoFar d ls (i + 1) next
all_more c d ls i l all next less at before keeps gives a is =
    let rest = list_all (is_true a) (drop (i + 1) ls) in
    ap (λ b. b && rest) (gives a is) ∙ and_assoc (is_true a all) (is_true a l) rest
    ∙ ap (λ b. is_true a all && b)
    (sym (ap (list_all (is_true a)) (drop_more ls i l less) ∙ ap (λ m. is_true a m && rest) (sym at)))
    ∙ before a (keeps.extends.valuations a is)

pub all_all : (c : Circuit) (ls : List Lit) (i : ℕ) (all : Lit) → AllSoFar c ls i all → length ls ≤ i → GivesAll c ls all
all_all c ls i all before past a is =
    and_true (is_true a all)
    ∙ ap (λ ms. is_true a all && list_all (is_true a) ms) (sym (drop_all i ls past))
    ∙ before a is

-- what the literal of any says so far
abbrev pub AnySoFar : Circuit → List Lit → ℕ → Lit → Type 0
AnySoFar c ls i any =
    (a : Assignment) → IsTrue (is_valuation c a)
    → (is_true a any || list_any (is_true a) (drop i ls)) ≡ list_any (is_true a) ls

pub any_more : (c d : Circuit) (ls : List Lit) (i : ℕ) (l any next : Lit) → i < length ls → l ≡ get_or ls i l
    → AnySoFar c ls i any → Keeps c d → GivesOr d any l next → AnySoFar d ls (i + 1) next
any_more c d ls i l any next less at before keeps gives a is =
    let rest = list_any (is_true a) (drop (i + 1) ls) in
    ap (λ b. b || rest) (gives a is) ∙ or_assoc (is_true a any) (is_true a l) rest
    ∙ ap (λ b. is_true a any || b)
    (sym (ap (list_any (is_true a)) (drop_more ls i l less) ∙ ap (λ m. is_true a m || rest) (sym at)))
    ∙ before a (keeps.extends.valuations a is)

pub any_all : (c : Circuit) (ls : List Lit) (i : ℕ) (any : Lit) → AnySoFar c ls i any → length ls ≤ i → GivesAny c ls any
any_all c ls i any before past a is =
    or_false (is_true a any)
    ∙ ap (λ ms. is_true a any || list_any (is_true a) ms) (sym (drop_all i ls past))
    ∙ before a is
