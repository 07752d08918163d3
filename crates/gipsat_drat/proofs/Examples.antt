-- Worked examples of the definitions: accepted and refused ones.
use Rattle.std.proofs.Common.{◌≡◌, true, false, [], ◌∷◌, codes, nat_eq, refl}
use Rattle.std.specs.Fmt.{digits}
use Rattle.gipsat_cnf.specs.Formulas.{Clause, Formula}
use Rattle.gipsat_drat.specs.Numbers.{SaysOfNumbers, by_number}
use Rattle.gipsat_drat.specs.Outcomes.{IsRight, error_text, outcome_text, refusal_text}
use Rattle.gipsat_drat.specs.declared.error.DratError.TheVariants.{Form}
use Rattle.gipsat_drat.specs.declared.error.Flaw.TheVariants.{Unnamed, NotShown}
use Rattle.gipsat_drat.specs.declared.error.OtherForm.TheVariants.{Gzip}
use Rattle.gipsat_drat.specs.declared.error.Place.TheVariants.{Byte, Line}
use Rattle.gipsat_drat.specs.declared.error.Outcome.TheVariants.{Verified, Refused}

-- x0 alone
abbrev one : Formula
one = (record { variable = 0; positive = true } ∷ []) ∷ []

-- verified is wrong of a formula that something satisfies
not_verified : IsRight one Verified → ⊥
not_verified right = right ((λ v. true), refl)

verified : outcome_text Verified ≡ codes "s VERIFIED\n"
verified = refl

refused : outcome_text (Refused (record { place = Line 3; flaw = NotShown })) ≡ codes "s NOT VERIFIED\n"
refused = refl

-- the place of a refusal is a line of a text, and a byte of a binary proof
refused_in_text : refusal_text (record { place = Line 3; flaw = NotShown })
    ≡ codes "proof line 3: a clause that is neither RUP nor RAT on its first literal"
unfolding digits
refused_in_text = refl

refused_in_binary : refusal_text (record { place = Byte 17; flaw = Unnamed }) ≡ codes "proof byte 17: a name that no clause has"
unfolding digits
refused_in_binary = refl

-- the error of another form shows what to type
other_form : error_text (Form Gzip) ≡ codes "proof: gzip data (try: gzip -dc PROOF | gipsat --check FORMULA -)"
other_form = refl

-- two variables that have the numbers 5 and 9: the second one has the value of 9, and the third is its number
second : by_number (5 ∷ 9 ∷ []) (λ number. nat_eq number 9) 1 ≡ true
second = refl

third : by_number (5 ∷ 9 ∷ []) (λ number. nat_eq number 2) 2 ≡ true
third = refl

-- the clause of the second one says what the clause of 9 says
abbrev not_second : Clause
not_second = record { variable = 1; positive = false } ∷ []

abbrev not_nine : Clause
not_nine = record { variable = 9; positive = false } ∷ []

says_of_nine : SaysOfNumbers (5 ∷ 9 ∷ []) not_second not_nine
says_of_nine = λ a. refl
