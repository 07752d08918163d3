-- Texts written one after another, whatever options the formatter has.
--
-- How it is proved: formatter options. `f.write_str` has a clause for any options. State the private writer by
-- `WritesStyledOnOk` alone, join pieces by `styled_more`, and get the plain clause by `plain_too`.
use Rattle.std.proofs.Common.{◌≡◌, ℕ, Result, List, [], ◌∷◌, ◌++◌, sym, subst, ◌∙◌}
use Rattle.std.specs.declared.fmt.Formatter.{Formatter}
use Rattle.std.specs.declared.fmt.Error.{Error}
use Rattle.std.specs.Fmt.{IsDefaultSpec, HasWrittenStyled, WritesOnOk, WritesStyledOnOk}
use Rattle.std.specs.List.{FoldsTo}
use Rattle.std.proofs.lemmas.List.Folds.{concat-append}

module _ {W : Type 0} (took : W → List ℕ → W → Type 0) where
  folds_on : (u v w : W) (xs ys : List (List ℕ)) → FoldsTo took u xs v → FoldsTo took v ys w → FoldsTo took u (xs ++ ys) w
  folds_on u v w [] ys first then = subst (λ s. FoldsTo took s ys w) (sym first) then
  folds_on u v w (x ∷ xs) ys first then = (first.0, first.1, folds_on first.0 v w xs ys first.2 then)

  -- one text after another
  pub styled_more : (f g h : Formatter W) (a b all : List ℕ) → HasWrittenStyled took f a g → HasWrittenStyled took g b h → a ++ b ≡ all → HasWrittenStyled took f all h
  styled_more f g h a b all first then e = record {
    wrote = record {
      parts = first.wrote.parts ++ then.wrote.parts;
      calls = folds_on f.writer g.writer h.writer first.wrote.parts then.wrote.parts first.wrote.calls then.wrote.calls;
      whole = concat-append first.wrote.parts then.wrote.parts ∙ rw (first.wrote.whole, then.wrote.whole) e;
    };
    spec = then.spec ∙ first.spec;
    flush = then.flush;
  }

  -- what holds under all options holds under none
  pub plain_too : (f g : Formatter W) (r : Result (Unit {0}) Error) (bs : List ℕ) → WritesStyledOnOk took f r bs g → WritesOnOk took f r bs g
  plain_too f g r bs styled plain ok =
      let h = styled plain.flush ok in
      record { wrote = h.wrote; plain = record { bare = subst IsDefaultSpec (sym h.spec) plain.bare; flush = h.flush } }
