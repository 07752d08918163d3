-- The words that clauses about this crate cite, passed on from one place. Declares nothing.
pub use Rattle.gipmc_circuits.specs.Circuit.{has_value, is_valuation, is_moment, is_reset, holds_reset, is_initial, holds_next, is_transition, IsTrace, FailsAfter, IsSafe}
pub use Rattle.gipmc_circuits.specs.Encoding.{shifted, values_at, moments_in, PassesAt, IsEnd, literal_below, latch_below, gate_below, is_below}
pub use Rattle.gipmc_circuits.specs.Certificate.{holds, IsInitiated, IsInductive, Excludes, AllowsHeld, AreExcluded, IsSafeByClauses, ImpliesAt, ImpliesItem, rows_below, is_certified}
pub use Rattle.gipmc_circuits.specs.Traces.{HoldsRow, HoldsRows, Follows, have_width, fits, FailsBy}
pub use Rattle.gipmc_circuits.specs.WellFormed.{with_variable, with_variables, are_new, are_in_order, is_constant, latch_variables, is_source, is_variable, uses_defined, is_well_formed}
pub use Rattle.gipmc_circuits.specs.WitnessCircuits.{claims, claims_hold, is_linked, are_linked, Implies, SaySame, SayClaims, are_paired, Simulates, IsInitiatedBy, IsInductiveBy, ExcludesBy, IsCertifiedBy, link_variables, are_defined_from, start_literal, reset_gate, link_below, is_witness_below, reset_link, next_link, unlinked, unlinked_variables}
pub use Rattle.gipmc_circuits.specs.Widened.{are_stacked, are_numbered, IsWidened}
