-- Formulas as texts in the DIMACS form.
pub mod Texts
pub mod Inputs
pub mod Parsers
pub mod Errors
pub mod Writer
