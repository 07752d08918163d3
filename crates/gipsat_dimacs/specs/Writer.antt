-- A clause as a line of a text in the DIMACS form.
pub use Rattle.gipsat_cnf.specs.Dimacs.{literal_word, literal_text, clause_line}
