-- The lines of an answer's values, as far as they are written.
use Rattle.std.proofs.Common.{◌≡◌, ◌<◌, ◌≤◌, ℕ, suc, ◌+◌, ◌-◌, List, [], ◌∷◌, ◌++◌, refl, sym, ap, ◌∙◌, arith, codes}
use Rattle.gipsat_cnf.specs.Formulas.{Assignment}
use Rattle.gipsat_dimacs.specs.Texts.{Word}
use Rattle.gipsat_answers.specs.Answers.{laid_out, value_words}
use Rattle.gipsat_answers.specs.Names.{name_in, names_from}
use Rattle.gipsat_dimacs.specs.Writer.{literal_word}

-- the words of the variables from number k on, of n in all
abbrev pub words_from : Assignment → List ℕ → ℕ → ℕ → List Word
words_from a names k n = value_words a (names_from names k (n - k))

words_from-cons : (a : Assignment) (names : List ℕ) (k n : ℕ) → k < n
    → words_from a names k n ≡ literal_word (a (name_in names k)) (name_in names k) ∷ words_from a names (k + 1) n
words_from-cons a names k n within = let e : n - k ≡ suc (n - (k + 1)) = omega arith in rw e refl

words_from-end : (a : Assignment) (names : List ℕ) (k n : ℕ) → n ≤ k → words_from a names k n ≡ codes "0" ∷ []
words_from-end a names k n past = let e : n - k ≡ 0 = omega arith in rw e refl

module _ (text text' all : List ℕ) (column column' : ℕ) (a : Assignment) (names : List ℕ) (k n : ℕ) (word : Word)
    (writes : (words : List Word) → text ++ laid_out column (word ∷ words) ≡ text' ++ laid_out column' words)
    (so_far : text ++ laid_out column (words_from a names k n) ≡ all) where
  -- a variable more
  pub value_more : k < n → word ≡ literal_word (a (name_in names k)) (name_in names k)
      → text' ++ laid_out column' (words_from a names (k + 1) n) ≡ all
  value_more within is =
      let words = words_from a names (k + 1) n in
      let same : word ∷ words ≡ words_from a names k n = ap (λ w. w ∷ words) is ∙ sym (words_from-cons a names k n within) in
      sym (writes words) ∙ ap (λ ws. text ++ laid_out column ws) same ∙ so_far

  -- the end
  pub value_last : n ≤ k → word ≡ codes "0" → text' ++ codes "\n" ≡ all
  value_last past is =
      let same : word ∷ [] ≡ words_from a names k n = ap (λ w. w ∷ []) is ∙ sym (words_from-end a names k n past) in
      sym (writes []) ∙ ap (λ ws. text ++ laid_out column ws) same ∙ so_far
