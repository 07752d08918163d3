-- The words that clauses about this crate cite, passed on from one place. Declares nothing.
pub use Rattle.gipsat_cnf.specs.Literals.{Lit, negated, code, decoded, dimacs, IsNamed, IsNoLiteral, aiger}
pub use Rattle.gipsat_cnf.specs.Coding.{code-decoded}
pub use Rattle.gipsat_cnf.specs.Formulas.{Clause, Formula, Assignment, is_true, satisfies_clause, satisfies, IsSatisfiable, Implies, Has, HasBut, AreBelow}
pub use Rattle.gipsat_cnf.specs.Models.{assignment_in, IsModel}
pub use Rattle.gipsat_cnf.specs.Assumptions.{makes_true, IsSatisfiableUnder, IsModelUnder, IsCore}
pub use Rattle.gipsat_cnf.specs.Simplifying.{SaysSame}
pub use Rattle.gipsat_cnf.specs.Encodings.{Adds, AddsPart, AllBelow, AtLeastOneTrue, AtMostOneTrue, ExactlyOneTrue, one_false, at_least_one, at_most_one, exactly_one}
pub use Rattle.gipsat_cnf.specs.Lists.{IsAmong, AreAmong, AreAllBelow, AreHadBy, HoldAlike, Reorders, KeepsBut, retained}
pub use Rattle.gipsat_cnf.specs.Layout.{clauses_of, AreSpans, AreApart, IsLaidOut}
pub use Rattle.gipsat_cnf.specs.Numbers.{number, NoneBelow}
pub use Rattle.gipsat_cnf.specs.Answers.{IsRightOr, IsRightGuessOr}
pub use Rattle.gipsat_cnf.specs.Dimacs.{Word, greatest_number, number_of, literal_of, signed_item, begins, minus, item_of, header_of, literal_word, literal_text, clause_line}
