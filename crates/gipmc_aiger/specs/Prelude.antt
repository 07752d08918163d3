-- The words that clauses about this crate cite, passed on from one place. Declares nothing.
pub use Rattle.gipmc_aiger.specs.Lists.{Every}
pub use Rattle.gipmc_aiger.specs.Reading.{◌>>=◌, Fails, IsRefusal, IsReadError, Gives, expected_at, digits_at, number_at, optional_at, delta_at}
pub use Rattle.gipmc_aiger.specs.Tails.{begins_number, begins_comment, count_of, name_at, symbol_at, are_symbols, is_tail, Tells}
pub use Rattle.gipmc_aiger.specs.Circuits.{greatest_count, letter_at, form_at, count_at, optional_count_at, has_counts, IsHeaderOf, rows_at, greatest_literal, literal_of, variable_of, leading_at, numbered_at, defined_at, separated_at, input_at, literal_at, reset_of, operands_in, operands_at, justice_at, justice_literals_at, behind_liveness, Rows, rows_of, LiveRows, bads_of, is_live_alone, circuit_in, IsReordering, Writes}
unfoldable pub use Rattle.gipmc_aiger.specs.Circuits.{sizes_at, header_at, latch_at, written_operands_at, packed_operands_at, gate_at, liveness_at, body_at, live_rows_of, circuit_of}
pub use Rattle.gipmc_aiger.specs.LiveCircuits.{justice_view, live_rows, AreRowsOf, WritesLive, IsProblemOf, flattened, live_literals, are_defined}
pub use Rattle.gipmc_aiger.specs.CircuitTexts.{literal_number, number_text, numbers_text, header_numbers, header_line, input_lines, literal_lines, reset_number, latch_line, latch_lines, and_line, and_lines, greatest_input, greatest_latch, greatest_output, greatest_variable, aag_text, packed_header_line, packed_latch_line, packed_latch_lines, packed_and, packed_ands, numbered_behind, is_numbered, is_above, are_above, aig_text, greater_first, packed_rows_of}
pub use Rattle.gipmc_aiger.specs.Writable.{FitsVariable, FitsLiteral, FitsLatch, FitsGate, IsWritable, has_room}
pub use Rattle.gipmc_aiger.specs.LiveTexts.{size_lines, justice_lines, liveness_lines, live_header_line, live_aag_text, live_packed_header_line, live_aig_text, packed_live_rows, AreLiveWritable}
pub use Rattle.gipmc_aiger.specs.Sharing.{number_named, variable_at, link_at, link_in, links_in, linked, links_by_place, links_with, shared_with}
pub use Rattle.gipmc_aiger.specs.WitnessCircuits.{WitnessRows, witness_rows, IsWitnessOf, WritesWitness}
unfoldable pub use Rattle.gipmc_aiger.specs.WitnessCircuits.{register_at, witness_body_at, witness_rows_of}
pub use Rattle.gipmc_aiger.specs.Witnesses.{is_remark, said_lines, is_status, is_end, is_bit, bits_of, status_at, property_of, property_at, bits_at, frames_of, Stimulus, witness_of, frames_view, bit_text, bits_line, frames_lines}
unfoldable pub use Rattle.gipmc_aiger.specs.Witnesses.{stimulus_of}
pub use Rattle.gipmc_aiger.specs.Traces.{witness_view, witness_text, lasso_text}
pub use Rattle.gipmc_aiger.specs.Claims.{place_of, places_of, properties_in, properties_of, Claimed, is_other_status, begins_with, is_passed, behind_end, claims_from, is_last, first_piece, before_mark, bare_frames_of, bare_alone, claims_in, claims_of, lassos_in, lassos_of, claim_by, claim_view, claims_view}
unfoldable pub use Rattle.gipmc_aiger.specs.Claims.{claim_of, bare_of}
pub use Rattle.gipmc_aiger.specs.Invariants.{clause_lines, invariant_text, is_comment, uncommented_lines, item_view, clause_of, clause_in, clauses_in, clause_count_in, clause_count_at, counted, invariant_of, clauses_view, over_variables, invariant_for}
unfoldable pub use Rattle.gipmc_aiger.specs.Invariants.{invariant_in}
pub use Rattle.gipmc_aiger.specs.Defects.{defined_variables, comes_twice, is_twice, defines, operands, used_literals, has_variable, is_undefined, uses, UsesOnce, Uses, IsCyclic, WritesRows, WritesLiveRows, with_bads, as_bads, IsTwiceIn, IsUndefinedIn, IsCycleIn, IsDefectOf, IsErrorOf, HasOutput, Leads, visit_at, IsStack, IsOpenAt, MeetsOpen, AddsGateOf}
