-- The words that clauses about this crate cite, passed on from one place. Declares nothing.
pub use Rattle.giputils_bits.specs.BitRun.{max_len, StopsAt, IsPushReply, CanRefuseWord, IsPushWordReply, ExtendsBy, IsResizeReply, CanRefuseLength, IsAppendReply, IsPlaceReply, bits_after_extend, if_done, done_if, bit_if, equality_reply, only_bit, IsAnswer, bits_after, Answers}
pub use Rattle.giputils_bits.specs.Bits.{has_digit, value_of, word_count, word_of, one_of, with_word}
unfoldable pub use Rattle.giputils_bits.specs.Bits.{digits_of, words_of}
pub use Rattle.giputils_bits.specs.Error.{error_text, IsMemory}
pub use Rattle.giputils_bits.specs.Extended.{Extends, CanDrain, ItemsFit, CollectsItems, StopsBefore}
pub use Rattle.giputils_bits.specs.Hashed.{hash_input_of, hash_input_respects}
pub use Rattle.giputils_bits.specs.Logic.{zip_with, xor, and_of, or_of, xor_of, not_of, negated_if, DeMorgan, DoubleNot, XorWithItself}
pub use Rattle.giputils_bits.specs.Ones.{true_count, true_places, HasNoneFrom, IsNextOne, HasOne}
pub use Rattle.giputils_bits.specs.Ordered.{booleans_tie}
pub use Rattle.giputils_bits.specs.Places.{storage_words, bits_of, words_from, IsPacked, SetsDigit, SetsDigits, HasRoom, AppendsWord, Rewrites, Overlays, IsLaid, MovesUp, MovesDown, SetsRange, AlikeBelow, IsDecided, without_digits, digits_before, digits_between, common_digits, MakesZeros}
unfoldable pub use Rattle.giputils_bits.specs.Places.{place, places}
pub use Rattle.giputils_bits.specs.Spelt.{digits_of_words, words_text}
pub use Rattle.giputils_bits.specs.Tables.{Tells, Lists}
pub use Rattle.giputils_bits.specs.Text.{bit_glyph, binary_text, is_binary_digit, places_written, IsNoBinaryText, lowest_digits, last_word, hex_count, hex_text, BinaryTextsTell, HexTextsDoNotTell}
