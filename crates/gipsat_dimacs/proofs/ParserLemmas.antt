-- What a text says before and after a word or a line.
use Rattle.std.proofs.Common.{◌≡◌, ◌<◌, ◌∷◌, [], ◌++◌, length, ℕ, ◌==◌, Bool, true, false, List, map, refl, sym, ◌∙◌, arith, append_assoc, length-append, eqb-true, suc, Option, Some, None, codes, if◌then◌else◌, zero}
use Rattle.std.specs.Prelude.{⊤, ◌&&◌}
use Rattle.std.specs.Option.{option_map, option_and_then}
use Rattle.std.specs.Str.{bytes_eq}
use Rattle.std.proofs.lemmas.Bool.{and_parts, cond_both, not-true, or_parts, or_right}
use Rattle.std.proofs.lemmas.List.Folds.{list_any-append}
use Rattle.std.specs.List.{AllPass}
use Rattle.std.proofs.lemmas.List.Elements.{All-push}
use Rattle.gipsat_cnf.specs.Formulas.{Clause, Formula}
use Rattle.gipsat_dimacs.specs.Texts.{Word, begins, comment_byte, is_blank, has_comment, before_comment, with_word, uncommented, clause_words, word_lines, number_of, variable_limit, item_of, clauses_after, header_of, goes_on, is_header, problem_after, problem_headed, problem_begun, problem_in, problem_by}
use Rattle.gipsat_dimacs.specs.Parsers.{is_full, problem_ended, problem_left, no_header, problem_given, problem_heading, problem_counted, problem_first, problem_opening, problem_at, problem_here, begins_line, takes_comment, is_ended, begins_comment, begins_end, is_word_byte, EndsLine, IsWord}
use Rattle.gipsat_cnf.specs.declared.dimacs.Item.{Item}
use Rattle.gipsat_cnf.specs.declared.dimacs.Item.TheVariants.{Literal, End}
use Rattle.gipsat_dimacs.specs.declared.rule.HeaderRule.{HeaderRule}
use Rattle.gipsat_dimacs.specs.declared.rule.HeaderRule.TheVariants.{Strict, Relaxed}
use Rattle.gipsat_dimacs.specs.declared.stage.Header.{Header}
use Rattle.gipsat_dimacs.specs.declared.stage.Stage.{Stage}
use Rattle.gipsat_dimacs.specs.declared.stage.Stage.TheVariants as stage
use Rattle.gipsat_dimacs.proofs.SplitLemmas.{word_lines-end, word_lines-last, word_lines-blank, word_lines-more, word_lines-cons, word_lines-first}

-- the first word
header_of-other : (word : Word) (words : List Word) → bytes_eq word (codes "p") ≡ false
    → header_of (word ∷ words) ≡ None
header_of-other word [] e = refl
header_of-other word (a ∷ []) e = refl
header_of-other word (a ∷ b ∷ []) e = refl
header_of-other word (a ∷ b ∷ c ∷ []) e = rw e refl
header_of-other word (a ∷ b ∷ c ∷ d ∷ more) e = refl

-- the second word
header_of-format : (word : Word) (words : List Word) → bytes_eq word (codes "cnf") ≡ false
    → header_of (codes "p" ∷ word ∷ words) ≡ None
header_of-format word [] e = refl
header_of-format word (a ∷ []) e = refl
header_of-format word (a ∷ b ∷ []) e = rw e refl
header_of-format word (a ∷ b ∷ c ∷ more) e = refl

-- the third
header_of-count : (word : Word) (words : List Word) → number_of word ≡ None
    → header_of (codes "p" ∷ codes "cnf" ∷ word ∷ words) ≡ None
header_of-count word [] e = refl
header_of-count word (a ∷ []) e = rw e refl
header_of-count word (a ∷ b ∷ more) e = refl

-- at the start nothing stands before
problem_left-nil : (rule : HeaderRule) (h : Header) (words : List Word)
    → problem_left rule h [] [] words ≡ problem_after rule words (Some (h.variables, h.left))
problem_left-nil Strict h words = refl
problem_left-nil Relaxed h words = refl

problem_given-nil : (rule : HeaderRule) (words : List Word) (header : Option (ℕ × ℕ))
    → problem_given rule [] [] words header ≡ problem_after rule words header
problem_given-nil rule words None = refl
problem_given-nil rule words (Some (variables, count)) =
    problem_left-nil rule (record { variables = variables; left = count }) words

problem_heading-nil : (rule : HeaderRule) (header : List Word) (lines : List (List Word))
    → problem_heading rule [] [] header lines ≡ problem_headed rule header lines
problem_heading-nil rule header [] = problem_given-nil rule [] (header_of header)
problem_heading-nil rule header (line ∷ lines) =
    rw (
      problem_heading-nil rule (header ++ line) lines,
      problem_given-nil rule (clause_words (line ∷ lines))
          (header_of header),
    ) refl

problem_first-nil : (rule : HeaderRule) (line : List Word) (lines : List (List Word))
    → problem_first rule [] [] line lines ≡ problem_begun rule line lines
problem_first-nil rule line lines =
    rw (problem_heading-nil rule line lines, problem_left-nil rule no_header (clause_words (line ∷ lines))) refl

problem_opening-nil : (rule : HeaderRule) (lines : List (List Word))
    → problem_opening rule [] [] lines ≡ problem_in rule lines
problem_opening-nil rule [] = problem_first-nil rule [] []
problem_opening-nil rule (line ∷ lines) =
    rw (problem_first-nil rule line lines, problem_opening-nil rule lines) refl

pub problem_here-start : (rule : HeaderRule) (text : List ℕ)
    → problem_here rule false stage.Start [] [] (word_lines text) ≡ problem_by rule text
problem_here-start rule text =
    let (line, lines, e) = word_lines-first text in rw e (problem_opening-nil rule (line ∷ lines))

-- a header is refused where no words behind it make one of it
module _ (rule : HeaderRule) (before : Formula) (begun : Clause) where
  problem_heading-none : (header words : List Word) (lines : List (List Word))
      → ((more : List Word) → header_of (header ++ more) ≡ None)
      → problem_heading rule before begun (header ++ words) lines ≡ None
  problem_heading-none header words [] none = rw (none words) refl
  problem_heading-none header words (line ∷ lines) none =
      let next = problem_heading-none header (words ++ line) lines none in
      cond_both (goes_on (header ++ words)) _ _ (λ outcome. outcome ≡ None)
      (λ _. rw (append_assoc header words line) next) (λ _. rw (none words) refl)

  -- it has not its first word alone in a line
  pub problem_heading-alone : (lines : List (List Word))
      → problem_heading rule before begun (codes "p" ∷ []) lines ≡ None
  problem_heading-alone [] = refl
  problem_heading-alone (line ∷ lines) = refl

  -- by its first word
  pub problem_heading-other : (word : Word) (words : List Word) (lines : List (List Word))
      → bytes_eq word (codes "p") ≡ false
      → problem_heading rule before begun (word ∷ words) lines ≡ None
  problem_heading-other word words lines other = problem_heading-none (word ∷ []) words lines
      (λ more. header_of-other word more other)

  -- by its second
  pub problem_heading-format : (word : Word) (words : List Word) (lines : List (List Word))
      → bytes_eq word (codes "cnf") ≡ false
      → problem_heading rule before begun (codes "p" ∷ word ∷ words) lines ≡ None
  problem_heading-format word words lines other =
      problem_heading-none (codes "p" ∷ word ∷ []) words lines (λ more. header_of-format word more other)

  -- by its third
  pub problem_heading-count : (word : Word) (words : List Word) (lines : List (List Word)) → number_of word ≡ None
      → problem_heading rule before begun (codes "p" ∷ codes "cnf" ∷ word ∷ words) lines ≡ None
  problem_heading-count word words lines none =
      problem_heading-none (codes "p" ∷ codes "cnf" ∷ word ∷ []) words lines (λ more. header_of-count word more none)

  -- or goes on with its last word
  pub problem_heading-counted : (word : Word) (n : ℕ) (words : List Word) (lines : List (List Word))
      → number_of word ≡ Some n
      → problem_heading rule before begun (codes "p" ∷ codes "cnf" ∷ word ∷ words) lines
      ≡ problem_counted rule before begun n words lines
  problem_heading-counted word n [] [] is = refl
  problem_heading-counted word n [] (line ∷ lines) is = problem_heading-counted word n line lines is
  problem_heading-counted word n (a ∷ []) [] is = rw is refl
  problem_heading-counted word n (a ∷ []) (line ∷ lines) is = rw is refl
  problem_heading-counted word n (a ∷ b ∷ more) [] is = refl
  problem_heading-counted word n (a ∷ b ∷ more) (line ∷ lines) is = refl

-- a first word that begins a header, and is not its first
pub first_refused : (rule : HeaderRule) (before : Formula) (begun : Clause) (word : Word) (words : List Word)
    (lines : List (List Word))
    → begins comment_byte word ≡ false → is_header rule (word ∷ []) ≡ true → bytes_eq word (codes "p") ≡ false
    → problem_at rule stage.Start before begun (word ∷ words) lines ≡ None
first_refused Strict before begun word words lines plain header other =
    rw plain (problem_heading-other Strict before begun word words lines other)
first_refused Relaxed before begun word words lines plain header other =
    rw (plain, header) (problem_heading-other Relaxed before begun word words lines other)

not_zero : (n : ℕ) → (suc n == 0) ≡ false
not_zero n = grind arith

first_false : (a b : Bool) → b ≡ true → (a && b) ≡ false → a ≡ false
first_false a b e f = grind arith

-- a word with no comment in it stands before the comment
uncommented-word : (word : Word) (words : List Word) → has_comment word ≡ false
    → uncommented (word ∷ words) ≡ word ∷ uncommented words
uncommented-word word words none = rw none refl

has_comment-c : (word end : Word) → has_comment (word ++ 99 ∷ end) ≡ true
has_comment-c [] end = refl
has_comment-c (b ∷ word) end = or_right (b == 99) (has_comment (word ++ 99 ∷ end)) (has_comment-c word end)

before_comment-c : (word end : Word) → has_comment word ≡ false → before_comment (word ++ 99 ∷ end) ≡ word
before_comment-c [] end none = refl
before_comment-c (b ∷ word) end none =
    let (first, more) = or_parts (b == 99) (has_comment word) none in
    rw (first, before_comment-c word end more) refl

-- a comment that begins behind a word ends the words of its line
uncommented-comment : (word end : Word) (words : List Word) → has_comment word ≡ false
    → uncommented ((word ++ 99 ∷ end) ∷ words) ≡ with_word word []
uncommented-comment word end words none = rw (has_comment-c word end, before_comment-c word end none) refl

-- a first word, behind which a comment may begin, begins no header
clause_begun : (rule : HeaderRule) (b : ℕ) (word : Word) → takes_comment rule stage.Start (b ∷ word) ≡ true
    → is_header rule ((b ∷ word) ∷ []) ≡ false
clause_begun Strict b word takes = absurd (let e = rw (not_zero (length word)) at takes in cc)
clause_begun Relaxed b word takes = let e = rw (not_zero (length word)) at takes in not-true (b == 112) e

no_bytes : AllPass is_word_byte []
no_bytes k d within = absurd (omega arith)

-- a line ends the text: what it writes is what it writes where it stops here
end_on : (rule : HeaderRule) (before : Formula) (begun : Clause) (s : Stage) (rest : List ℕ) → begins_line s ≡ true
    → problem_here rule false s before begun (word_lines (37 ∷ rest)) ≡ problem_at rule s before begun [] []
end_on Strict before begun stage.Start rest fresh =
    let (line, word, words, lines, e, f) = word_lines-cons [] 37 rest no_bytes refl in
    rw f (problem_heading-other Strict before begun (37 ∷ word) words lines refl)
end_on Relaxed before begun stage.Start rest fresh =
    let (line, word, words, lines, e, f) = word_lines-cons [] 37 rest no_bytes refl in rw f refl
end_on rule before begun (stage.Line h) rest fresh =
    let (line, word, words, lines, e, f) = word_lines-cons [] 37 rest no_bytes refl in rw f refl
end_on rule before begun stage.Problem rest fresh = cc
end_on rule before begun stage.Format rest fresh = cc
end_on rule before begun (stage.Variables n) rest fresh = cc
end_on rule before begun (stage.Clauses h) rest fresh = cc
end_on rule before begun (stage.Words h) rest fresh = cc
end_on rule before begun (stage.Ended n) rest fresh = cc

-- a comment behind the first word, which begins no header
comment_first : (rule : HeaderRule) (before : Formula) (begun : Clause) (b : ℕ) (word end : Word) (words : List Word)
    (lines : List (List Word))
    → takes_comment rule stage.Start (b ∷ word) ≡ true → has_comment (b ∷ word) ≡ false → (b == 99) ≡ false
    → problem_at rule stage.Start before begun ((b ∷ (word ++ 99 ∷ end)) ∷ words) lines
    ≡ problem_at rule stage.Start before begun ((b ∷ word) ∷ []) lines
comment_first Strict before begun b word end words lines takes none first =
    absurd (let e = clause_begun Strict b word takes in cc)
comment_first Relaxed before begun b word end words lines takes none first =
    rw (uncommented-comment (b ∷ word) end words none, uncommented-word (b ∷ word) [] none)
    (rw (first, clause_begun Relaxed b word takes) refl)

module _ (rule : HeaderRule) (before : Formula) (begun : Clause) where
  -- the line ends: what the word that was read says comes first
  pub ended : (in_comment : Bool) (s : Stage) (word : Word) (rest : List ℕ) → IsWord rule s in_comment word
      → problem_here rule in_comment s before begun (word_lines (word ++ 10 ∷ rest))
      ≡ problem_at rule s before begun (with_word word []) (word_lines rest)
  ended false s word rest is = rw (word_lines-end word is.bytes rest) refl
  ended true s word rest is = rw (word_lines-end word is.bytes rest) (rw (is.none refl) refl)

  -- and so where the text ends
  pub ended_all : (in_comment : Bool) (s : Stage) (word : Word) → IsWord rule s in_comment word
      → problem_here rule in_comment s before begun (word_lines (word ++ []))
      ≡ problem_at rule s before begun (with_word word []) []
  ended_all false s word is = rw (word_lines-last word is.bytes) refl
  ended_all true s word is = rw (word_lines-last word is.bytes) (rw (is.none refl) refl)

  -- a byte of a comment says nothing
  in_comment-on : (s : Stage) (byte : ℕ) (rest : List ℕ) → (byte == 10) ≡ false
      → problem_here rule true s before begun (word_lines (byte ∷ rest))
      ≡ problem_here rule true s before begun (word_lines rest)
  in_comment-on s byte rest other =
      let (line, first, lines, e, f) = word_lines-more byte rest other in rw (e, f) refl

  pub in_comment-more : (in_comment : Bool) (s : Stage) (word : Word) (byte : ℕ) (rest : List ℕ)
      → IsWord rule s in_comment word
      → in_comment ≡ true → (byte == 10) ≡ false
      → problem_here rule in_comment s before begun (word_lines (word ++ byte ∷ rest))
      ≡ problem_here rule in_comment s before begun (word_lines (word ++ rest))
  in_comment-more in_comment s word byte rest is here other =
      rw (is.none here, here) (in_comment-on s byte rest other)

  -- a line ends, where no word is open
  pub next_line : (in_comment : Bool) (s s' : Stage) (word : Word) (rest : List ℕ) → in_comment ≡ false → word ≡ []
      → EndsLine s s'
      → problem_at rule s before begun [] (word_lines rest) ≡ problem_here rule in_comment s' before begun
      (word_lines (word ++ rest))
  next_line in_comment s s' word rest no_comment no_word ends =
      let (line, lines, e) = word_lines-first rest in
      rw (no_comment, no_word) (rw e (ends rule before begun line lines))

  -- a blank ends the word, after which the text says nothing
  pub blank_refused : (in_comment : Bool) (s : Stage) (word : Word) (byte : ℕ) (rest : List ℕ)
      → IsWord rule s in_comment word
      → in_comment ≡ false → is_blank byte ≡ true
      → ((words : List Word) (lines : List (List Word))
      → problem_at rule s before begun (with_word word words) lines ≡ None)
      → problem_here rule in_comment s before begun (word_lines (word ++ byte ∷ rest)) ≡ None
  blank_refused in_comment s word byte rest is here blank refused =
      let (line, lines, e, f) = word_lines-blank word is.bytes byte rest blank in
      rw (here, f) (refused line lines)

  -- or goes on
  pub blank_says : (in_comment : Bool) (s : Stage) (word : Word) (byte : ℕ) (rest : List ℕ)
      → IsWord rule s in_comment word
      → in_comment ≡ false → is_blank byte ≡ true
      → (rule' : HeaderRule) (in_comment' : Bool) (s' : Stage) (before' : Formula) (begun' : Clause) (word' : Word)
      → in_comment' ≡ in_comment → word' ≡ []
      → ((words : List Word) (lines : List (List Word))
      → problem_at rule s before begun (with_word word words) lines ≡ problem_at rule' s' before' begun' words lines)
      → problem_here rule in_comment s before begun (word_lines (word ++ byte ∷ rest))
      ≡ problem_here rule' in_comment' s' before' begun' (word_lines (word' ++ rest))
  blank_says in_comment s word byte rest is here blank rule' in_comment' s' before' begun' word' stays no_word says =
      let (line, lines, e, f) = word_lines-blank word is.bytes byte rest blank in
      rw (stays, here, no_word) (rw (e, f) (says line lines))

  -- a comment begins behind a word
  comment_on : (s : Stage) (word end : Word) (words : List Word) (lines : List (List Word)) → IsWord rule s false word
      → takes_comment rule s word ≡ true
      → problem_at rule s before begun ((word ++ 99 ∷ end) ∷ words) lines
      ≡ problem_at rule s before begun (with_word word []) lines
  comment_on stage.Start [] end words lines is takes = refl
  comment_on stage.Start (b ∷ word) end words lines is takes =
      comment_first rule before begun b word end words lines takes (is.no_comment takes) (is.no_comment_line refl)
  comment_on (stage.Line h) [] end words lines is takes = refl
  comment_on (stage.Line h) (b ∷ word) end words lines is takes =
      rw (
        uncommented-comment (b ∷ word) end words (is.no_comment takes),
        uncommented-word (b ∷ word) []
            (is.no_comment takes),
      ) refl
  comment_on (stage.Words h) [] end words lines is takes = refl
  comment_on (stage.Words h) (b ∷ word) end words lines is takes =
      rw (
        uncommented-comment (b ∷ word) end words (is.no_comment takes),
        uncommented-word (b ∷ word) []
            (is.no_comment takes),
      ) refl
  comment_on stage.Problem word end words lines is takes = cc
  comment_on stage.Format word end words lines is takes = cc
  comment_on (stage.Variables n) word end words lines is takes = cc
  comment_on (stage.Clauses h) word end words lines is takes = cc
  comment_on (stage.Ended n) word end words lines is takes = cc

  comment_begins : (in_comment : Bool) (s : Stage) (word : Word) (byte : ℕ) (rest : List ℕ)
      → IsWord rule s in_comment word
      → in_comment ≡ false → begins_comment byte rule s word ≡ true
      → (line : List Word) × (lines : List (List Word)) × (word_lines rest ≡ line ∷ lines)
      × (problem_here rule in_comment s before begun (word_lines (word ++ byte ∷ rest))
      ≡ problem_at rule s before begun (with_word word []) lines)
  comment_begins true s word byte rest is here begins = absurd (cc)
  comment_begins false s word byte rest is here begins =
      let (is_c, takes) = and_parts (byte == 99) (takes_comment rule s word) begins in
      let (line, end, words, lines, e, f) = word_lines-cons word 99 rest is.bytes refl in
      (line, lines, e, rw (eqb-true byte 99 is_c) (rw f (comment_on s word end words lines is takes)))

  -- what the text says before it is refused
  pub comment_refused : (in_comment : Bool) (s : Stage) (word : Word) (byte : ℕ) (rest : List ℕ)
      → IsWord rule s in_comment word
      → in_comment ≡ false → begins_comment byte rule s word ≡ true
      → ((words : List Word) (lines : List (List Word))
      → problem_at rule s before begun (with_word word words) lines ≡ None)
      → problem_here rule in_comment s before begun (word_lines (word ++ byte ∷ rest)) ≡ None
  comment_refused in_comment s word byte rest is here begins refused =
      let (line, lines, e, f) = comment_begins in_comment s word byte rest is here begins in f ∙ refused [] lines

  -- or goes on behind the comment
  pub comment_says : (in_comment : Bool) (s : Stage) (word : Word) (byte : ℕ) (rest : List ℕ)
      → IsWord rule s in_comment word
      → in_comment ≡ false → begins_comment byte rule s word ≡ true
      → (rule' : HeaderRule) (s' : Stage) (before' : Formula) (begun' : Clause) (word' : Word) → word' ≡ []
      → ((words : List Word) (lines : List (List Word))
      → problem_at rule s before begun (with_word word words) lines ≡ problem_at rule' s' before' begun' words lines)
      → problem_here rule in_comment s before begun (word_lines (word ++ byte ∷ rest))
      ≡ problem_here rule' true s' before' begun' (word_lines (word' ++ rest))
  comment_says in_comment s word byte rest is here begins rule' s' before' begun' word' no_word says =
      let (line, lines, e, f) = comment_begins in_comment s word byte rest is here begins in
      f ∙ says [] lines ∙ (rw (no_word) (rw e refl))

  pub end_begins : (in_comment : Bool) (s : Stage) (word : Word) (byte : ℕ) (rest : List ℕ) → in_comment ≡ false
      → begins_end byte word s ≡ true
      → problem_here rule in_comment s before begun (word_lines (word ++ byte ∷ rest))
      ≡ problem_at rule s before begun [] []
  end_begins in_comment s [] byte rest here is =
      let (front, fresh) = and_parts ((byte == 37) && true) (begins_line s) is in
      let (is_end, _) = and_parts (byte == 37) true front in
      rw (here, eqb-true byte 37 is_end) (end_on rule before begun s rest fresh)
  end_begins in_comment s (b ∷ word) byte rest here is =
      let (front, _) = and_parts ((byte == 37) && (length (b ∷ word) == 0)) (begins_line s) is in
      let (_, none) = and_parts (byte == 37) (length (b ∷ word) == 0) front in
      absurd (let never : length (b ∷ word) ≡ 0 = eqb-true _ _ none in omega arith)

  -- what is behind the end is not looked at
  ended_on : (in_comment : Bool) (n : ℕ) (text : List ℕ)
      → problem_here rule in_comment (stage.Ended n) before begun (word_lines text)
      ≡ Some (record { variables = n; clauses = before })
  ended_on false n text = let (line, lines, e) = word_lines-first text in rw e refl
  ended_on true n text = let (line, lines, e) = word_lines-first text in rw e refl

  pub ended_more : (in_comment : Bool) (s : Stage) (text text' : List ℕ) → is_ended s ≡ true
      → problem_here rule in_comment s before begun (word_lines text) ≡ problem_here rule in_comment s before begun
      (word_lines text')
  ended_more in_comment (stage.Ended n) text text' is = ended_on in_comment n text ∙ sym (ended_on in_comment n text')
  ended_more in_comment stage.Start text text' is = cc
  ended_more in_comment stage.Problem text text' is = cc
  ended_more in_comment stage.Format text text' is = cc
  ended_more in_comment (stage.Variables n) text text' is = cc
  ended_more in_comment (stage.Clauses h) text text' is = cc
  ended_more in_comment (stage.Line h) text text' is = cc
  ended_more in_comment (stage.Words h) text text' is = cc

  -- the text ends here, with so many variables
  pub end_here : (in_comment in_comment' : Bool) (s : Stage) (word : Word) (byte n : ℕ) (rest text : List ℕ)
      → in_comment ≡ false
      → begins_end byte word s ≡ true → problem_at rule s before begun [] []
      ≡ Some (record { variables = n; clauses = before })
      → problem_here rule in_comment s before begun (word_lines (word ++ byte ∷ rest))
      ≡ problem_here rule in_comment' (stage.Ended n) before begun (word_lines text)
  end_here in_comment in_comment' s word byte n rest text here is ends =
      end_begins in_comment s word byte rest here is ∙ ends ∙ sym (ended_on in_comment' n text)

first_byte : (byte first : ℕ) (fresh : Bool) → fresh ≡ true → (((byte == first) && true) && fresh) ≡ false
    → (byte == first) ≡ false
first_byte byte first fresh e f = grind arith

-- where a comment may begin behind a byte, it may begin before it
takes_comment-first : (rule : HeaderRule) (s : Stage) (byte : ℕ) → takes_comment rule s (byte ∷ []) ≡ true
    → takes_comment rule s [] ≡ true
takes_comment-first rule stage.Start byte takes = refl
takes_comment-first rule stage.Problem byte takes = takes
takes_comment-first rule stage.Format byte takes = takes
takes_comment-first rule (stage.Variables n) byte takes = takes
takes_comment-first rule (stage.Clauses h) byte takes = takes
takes_comment-first rule (stage.Line h) byte takes = refl
takes_comment-first rule (stage.Words h) byte takes = refl
takes_comment-first rule (stage.Ended n) byte takes = takes

-- and where it may begin behind more of a word
takes_comment-more : (rule : HeaderRule) (s : Stage) (b : ℕ) (word more : Word) → takes_comment rule s (b ∷ more) ≡ true
    → takes_comment rule s (b ∷ word) ≡ true
takes_comment-more Strict stage.Start b word more takes = absurd (let e = rw (not_zero (length more)) at takes in cc)
takes_comment-more Relaxed stage.Start b word more takes =
    rw (not_zero (length word)) (rw (not_zero (length more)) at takes)
takes_comment-more rule stage.Problem b word more takes = takes
takes_comment-more rule stage.Format b word more takes = takes
takes_comment-more rule (stage.Variables n) b word more takes = takes
takes_comment-more rule (stage.Clauses h) b word more takes = takes
takes_comment-more rule (stage.Line h) b word more takes = refl
takes_comment-more rule (stage.Words h) b word more takes = refl
takes_comment-more rule (stage.Ended n) b word more takes = takes

-- a comment may begin where a line does
takes_comment-line : (rule : HeaderRule) (s : Stage) → begins_line s ≡ true → takes_comment rule s [] ≡ true
takes_comment-line rule stage.Start e = refl
takes_comment-line rule stage.Problem e = e
takes_comment-line rule stage.Format e = e
takes_comment-line rule (stage.Variables n) e = e
takes_comment-line rule (stage.Clauses h) e = e
takes_comment-line rule (stage.Line h) e = refl
takes_comment-line rule (stage.Words h) e = cc
takes_comment-line rule (stage.Ended n) e = e

-- a byte that begins no comment
no_comment_byte : (byte : ℕ) (rule : HeaderRule) (s : Stage) (word : Word) → begins_comment byte rule s word ≡ false
    → takes_comment rule s word ≡ true → (byte == 99) ≡ false
no_comment_byte byte rule s word no_comment takes =
    first_false (byte == 99) (takes_comment rule s word) takes no_comment

-- a byte more
pub IsWord-more : (rule : HeaderRule) (s : Stage) (in_comment : Bool) (word : Word) (byte : ℕ)
    → IsWord rule s in_comment word
    → in_comment ≡ false → (byte == 10) ≡ false → is_blank byte ≡ false → begins_comment byte rule s word ≡ false
    → begins_end byte word s ≡ false → IsWord rule s in_comment (word ++ byte ∷ [])
IsWord-more rule s in_comment [] byte is here other plain no_comment no_end =
    record {
      bytes = All-push (λ b. is_word_byte b ≡ true) [] byte is.bytes (rw (other, plain) refl);
      none = λ e. absurd (cc);
      no_comment = λ takes. rw (no_comment_byte byte rule s [] no_comment (takes_comment-first rule s byte takes)) refl;
      no_comment_line = λ begins. no_comment_byte byte rule s [] no_comment (takes_comment-line rule s begins);
      no_end = λ fresh. first_byte byte 37 (begins_line s) fresh no_end;
    }
IsWord-more rule s in_comment (b ∷ word) byte is here other plain no_comment no_end =
    record {
      bytes = All-push (λ b. is_word_byte b ≡ true) (b ∷ word) byte is.bytes (rw (other, plain) refl);
      none = λ e. absurd (cc);
      no_comment = λ takes.
          let took = takes_comment-more rule s b word (word ++ byte ∷ []) takes in
          rw (
            list_any-append (λ c. c == 99) (b ∷ word) (byte ∷ []),
            is.no_comment took,
            no_comment_byte byte rule s
                (b ∷ word) no_comment took,
          ) refl;
      no_comment_line = is.no_comment_line;
      no_end = is.no_end;
    }

-- some clauses, of which there is at least one, or none
abbrev IsSomeMore : Option Formula → Type 0
IsSomeMore None = ⊤
IsSomeMore (Some clauses) = 0 < length clauses

one_at_least : (clause : Clause) (clauses : Option Formula) → IsSomeMore (option_map (λ cs. clause ∷ cs) clauses)
one_at_least clause None = tt
one_at_least clause (Some clauses) = omega arith

none_open : (n : ℕ) → 0 < n → IsSomeMore (if n == 0 then Some [] else None)
none_open zero some = absurd (omega arith)
none_open (suc n) some = rw (not_zero n) tt

some_more : (begun : Clause) (items : List (Option Item)) → 0 < length begun → IsSomeMore (clauses_after begun items)
some_more [] [] some = absurd (omega arith)
some_more (l ∷ begun) [] some = none_open (length (l ∷ begun)) some
some_more begun (None ∷ items) some = tt
some_more begun (Some (Literal l) ∷ items) some = some_more (begun ++ l ∷ []) items
    (omega (arith, length-append begun (l ∷ [])))
some_more begun (Some End ∷ items) some = one_at_least begun (clauses_after [] items)

not_ended : (before : Formula) (h : Header) (n : ℕ) (clauses : Option Formula) → IsSomeMore clauses
    → (h.left == 0) ≡ true
    → option_and_then (λ clauses. problem_ended Strict h before n clauses) clauses ≡ None
not_ended before h n None some none = refl
not_ended before h n (Some []) some none = absurd (omega arith)
not_ended before h n (Some (clause ∷ clauses)) some none = rw (eqb-true h.left 0 none, not_zero (length clauses)) refl

-- an item where no clause is left
pub too_many : (rule : HeaderRule) (before : Formula) (begun : Clause) (h : Header) (item : Item) (word : Word)
    (words : List Word)
    → item_of (variable_limit rule h.variables) word ≡ Some item → is_full rule h ≡ true
    → problem_left rule h before begun (word ∷ words) ≡ None
too_many Relaxed before begun h item word words e none = absurd (cc)
too_many Strict before begun h (Literal l) word words e none =
    rw e (not_ended before h 0 _
    (some_more (begun ++ l ∷ []) (map (item_of h.variables) words) (omega (arith, length-append begun (l ∷ []))))
    none)
too_many Strict before begun h End word words e none =
    rw e (not_ended before h 0 _ (one_at_least begun (clauses_after [] (map (item_of h.variables) words))) none)
