-- What the contracts of the statistics and the interval logger speak of.
pub mod Decimals
pub mod Tally
pub mod Texts
pub mod Due
pub use Rattle.circular_buffer.specs.Buffer
