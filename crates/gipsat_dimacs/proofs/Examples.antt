-- Worked examples of texts.
use Rattle.std.proofs.Common.{◌≡◌, ℕ, [], ◌∷◌, ◌++◌, refl, codes, Some, None, true, false}
use Rattle.gipsat_cnf.specs.Literals.{Lit}
use Rattle.gipsat_dimacs.specs.Texts.{Problem, problem_of, problem_by, number_of, line_on}
use Rattle.gipsat_dimacs.specs.declared.rule.HeaderRule.TheVariants.{Relaxed}

-- a variable of a formula and its negation
abbrev yes_of : ℕ → Lit
yes_of variable = record { variable = variable; positive = true }

abbrev no_of : ℕ → Lit
no_of variable = record { variable = variable; positive = false }

-- not both, and one of the two
abbrev either_or : Problem
either_or = record { variables = 2; clauses = (no_of 0 ∷ no_of 1 ∷ []) ∷ (yes_of 0 ∷ yes_of 1 ∷ []) ∷ [] }

accepted : problem_of (codes "p cnf 2 2\n-1 -2 0\n1 2 0\n") ≡ Some either_or
accepted = refl

accepted-comments : problem_of (codes "c either or\np cnf 2 2\nc\n-1 -2 0\n\nc half\n1 2 0\n") ≡ Some either_or
accepted-comments = refl

accepted-comments_in_lines : problem_of (codes "c\np cnf 2 2\n-1 c 1\n-2 0 c 0\n1 2 0\nc 3 0") ≡ Some either_or
accepted-comments_in_lines = refl

-- a comment may begin right behind a number
accepted-comments_behind_numbers : problem_of (codes "p cnf 2 2\n-1c 1\n-2 0c\n1 2c2 c\n000cc") ≡ Some either_or
accepted-comments_behind_numbers = refl

accepted-header_in_two_lines : problem_of (codes "p cnf\n2 2\n-1 -2 0\n1 2 0\n") ≡ Some either_or
accepted-header_in_two_lines = refl

accepted-header_in_three_lines : problem_of (codes "c\np\tcnf \r\n\n 2\r\n\n2\n-1 -2 0 1 2 0") ≡ Some either_or
accepted-header_in_three_lines = refl

-- the end as files of SATLIB have it; what is behind it is not read
accepted-end : problem_of (codes "p cnf 2 2\n-1 -2 0\n1 2 0\n%\n0\n\n") ≡ Some either_or
accepted-end = refl

accepted-minus_zero : problem_of (codes "p cnf 2 2\n-1 -2 -0\n1 2 0\n") ≡ Some either_or
accepted-minus_zero = refl

accepted-lines : problem_of (codes "p cnf 2 2\n-1 -2 0 1\n2\n0") ≡ Some either_or
accepted-lines = refl

accepted-blanks : problem_of (codes " p\tcnf 2  2 \r\n-01 -2 0\r\n1 2 000\r\n") ≡ Some either_or
accepted-blanks = refl

accepted-form_feeds : problem_of (codes "p cnf 2 2\n" ++ 12 ∷ codes "-1 -2" ++ 12 ∷ 48 ∷ 11 ∷ codes "1 2 0")
    ≡ Some either_or
accepted-form_feeds = refl

accepted-empty_clause : problem_of (codes "p cnf 0 1\n0") ≡ Some (record { variables = 0; clauses = [] ∷ [] })
accepted-empty_clause = refl

accepted-no_clause : problem_of (codes "p cnf 3 0") ≡ Some (record { variables = 3; clauses = [] })
accepted-no_clause = refl

refused-empty : problem_of [] ≡ None
refused-empty = refl

refused-no_header : problem_of (codes "1 0\n") ≡ None
refused-no_header = refl

refused-header_of_p_alone : problem_of (codes "p\ncnf 2 2\n-1 -2 0\n1 2 0\n") ≡ None
refused-header_of_p_alone = refl

refused-comment_within_the_header : problem_of (codes "p cnf 2\nc two\n2\n-1 -2 0\n1 2 0\n") ≡ None
refused-comment_within_the_header = refl

refused-half_a_header_at_the_end : problem_of (codes "p cnf\n2\n") ≡ None
refused-half_a_header_at_the_end = refl

refused-more_behind_two_lines : problem_of (codes "p cnf 1\n1 1 0\n") ≡ None
refused-more_behind_two_lines = refl

refused-more_after_the_header : problem_of (codes "p cnf 1 1 1 0\n") ≡ None
refused-more_after_the_header = refl

refused-two_headers : problem_of (codes "p cnf 1 1\np cnf 1 1\n1 0\n") ≡ None
refused-two_headers = refl

refused-fewer_clauses : problem_of (codes "p cnf 1 2\n1 0\n") ≡ None
refused-fewer_clauses = refl

refused-more_clauses : problem_of (codes "p cnf 1 1\n1 0\n1 0\n") ≡ None
refused-more_clauses = refl

refused-open_clause : problem_of (codes "p cnf 1 1\n1\n") ≡ None
refused-open_clause = refl

refused-variable : problem_of (codes "p cnf 1 1\n2 0\n") ≡ None
refused-variable = refl

refused-word : problem_of (codes "p cnf 1 1\n1 x 0\n") ≡ None
refused-word = refl

refused-end_before_the_last_clause : problem_of (codes "p cnf 2 2\n-1 -2 0\n%\n1 2 0\n") ≡ None
refused-end_before_the_last_clause = refl

refused-end_within_a_line : problem_of (codes "p cnf 1 1\n1 0 %\n") ≡ None
refused-end_within_a_line = refl

refused-plus : problem_of (codes "p cnf 1 1\n+1 0\n") ≡ None
refused-plus = refl

refused-comment_behind_the_header : problem_of (codes "p cnf 1 1 c one\n1 0\n") ≡ None
refused-comment_behind_the_header = refl

refused-comment_right_behind_the_header : problem_of (codes "p cnf 1 1c\n1 0\n") ≡ None
refused-comment_right_behind_the_header = refl

refused-comment_behind_the_first_number : problem_of (codes "p cnf 1c\n1\n1 0\n") ≡ None
refused-comment_behind_the_first_number = refl

-- what stands before a comment is a number
refused-comment_behind_a_minus : problem_of (codes "p cnf 1 1\n-c\n1 0\n") ≡ None
refused-comment_behind_a_minus = refl

refused-comment_behind_a_letter : problem_of (codes "p cnf 1 1\n1 xc\n0\n") ≡ None
refused-comment_behind_a_letter = refl

refused-great_c : problem_of (codes "p cnf 1 1\n1C\n0\n") ≡ None
refused-great_c = refl

refused-zero_in_a_comment : problem_of (codes "p cnf 1 1\n1c 0\n") ≡ None
refused-zero_in_a_comment = refl

refused-compressed : problem_of (31 ∷ 139 ∷ 8 ∷ []) ≡ None
refused-compressed = refl

-- where the counts of a header are hints
hinted-more_clauses : problem_by Relaxed (codes "p cnf 2 1\n-1 -2 0\n1 2 0\n") ≡ Some either_or
hinted-more_clauses = refl

hinted-fewer_clauses : problem_by Relaxed (codes "p cnf 2 9\n-1 -2 0\n1 2 0\n%\n0\n") ≡ Some either_or
hinted-fewer_clauses = refl

hinted-greater_variable : problem_by Relaxed (codes "p cnf 1 2\n-1 -2 0\n1 2 0\n") ≡ Some either_or
hinted-greater_variable = refl

hinted-no_header : problem_by Relaxed (codes "c either or\n-1 -2 0\n1 2 0\n") ≡ Some either_or
hinted-no_header = refl

hinted-no_header_and_comments : problem_by Relaxed (codes "-1c p cnf\n-2 0 1c\n2 0c") ≡ Some either_or
hinted-no_header_and_comments = refl

hinted-header_in_two_lines : problem_by Relaxed (codes "p cnf\n2 7\n-1 -2 0\n1 2 0c\n") ≡ Some either_or
hinted-header_in_two_lines = refl

hinted-more_variables : problem_by Relaxed (codes "p cnf 7 0") ≡ Some (record { variables = 7; clauses = [] })
hinted-more_variables = refl

hinted-empty : problem_by Relaxed [] ≡ Some (record { variables = 0; clauses = [] })
hinted-empty = refl

refused-half_a_header : problem_by Relaxed (codes "p cnf 2\n-1 -2 0\n1 2 0\n") ≡ None
refused-half_a_header = refl

refused-header_behind_a_clause : problem_by Relaxed (codes "-1 -2 0\np cnf 2 2\n1 2 0\n") ≡ None
refused-header_behind_a_clause = refl

refused-open_clause_hinted : problem_by Relaxed (codes "-1 -2 0\n1 2\n") ≡ None
refused-open_clause_hinted = refl

greatest : number_of (codes "2147483647") ≡ Some 2147483647
greatest = refl

refused-greater : number_of (codes "2147483648") ≡ None
refused-greater = refl

refused-no_digits : number_of [] ≡ None
refused-no_digits = refl

-- the byte behind these stands in the second line
second_line : line_on 1 (codes "p cnf 1 1\n1 x") ≡ 2
second_line = refl
