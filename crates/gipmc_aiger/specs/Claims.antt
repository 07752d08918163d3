-- All witnesses of a text: answers in HWMCC's form, one behind another, of bad literals or of justice properties.
use Rattle.std.specs.Prelude.{ℕ, ◌==◌, ◌&&◌, ◌||◌, Bool, true, false, not, List, [], ◌∷◌, length, map, Option, Some, None, if◌then◌else◌}
use Rattle.std.specs.List.{list_any}
use Rattle.std.specs.Str.{byte}
use Rattle.giputils_text.specs.Lines.{pieces}
use Rattle.gipmc_aiger.specs.Reading.{◌>>=◌, number_at}
use Rattle.gipmc_aiger.specs.Witnesses.{bits_at, bits_of, frames_of, frames_view, is_end, is_status, said_lines, status_at}
use Rattle.gipmc_aiger.specs.declared.claims.Claim as claims
use Rattle.gipmc_circuits.specs.declared.trace.Trace.{Trace}

-- the place of a property that a word writes
abbrev pub place_of : List ℕ → Option ℕ
place_of word = number_at 2147483647 word >>= λ n. if length n.1 == 0 then Some n.0 else None

-- the places that some words write
abbrev pub places_of : List (List ℕ) → Option (List ℕ)
places_of [] = Some []
places_of (word ∷ words) = place_of word >>= λ place. places_of words >>= λ others. Some (place ∷ others)

-- the properties behind the first piece of a line, which is empty
abbrev pub properties_in : List (List ℕ) → Option (List ℕ)
properties_in [] = None
properties_in (front ∷ []) = None
properties_in (front ∷ word ∷ words) = if length front == 0 then places_of (word ∷ words) else None

-- the properties that a line names, each behind this letter: `b` for bad literals, and `j` for justice properties
abbrev pub properties_of : ℕ → List ℕ → Option (List ℕ)
properties_of letter line = properties_in (pieces letter line)

-- the properties that the first line names, and the lines behind it
abbrev pub properties_at : ℕ → List (List ℕ) → Option (List ℕ × List (List ℕ))
properties_at letter [] = None
properties_at letter (line ∷ lines) = properties_of letter line >>= λ properties. Some (properties, lines)

-- properties that a trace is a witness of, the latches at first, and the inputs at each moment
pub record Claimed : Type 0 where
  pub properties : List ℕ
  pub latches : List Bool
  pub inputs : List (List Bool)

-- the claim that some lines write for so many latches and inputs, of properties with this letter
unfoldable pub claim_of : ℕ → ℕ → ℕ → List (List ℕ) → Option Claimed
claim_of letter latches inputs lines = do
  rest ← status_at lines
  properties ← properties_at letter rest
  bits ← bits_at latches properties.1
  frames ← frames_of inputs bits.1
  Some (record { properties = properties.0; latches = bits.0; inputs = frames })

-- the line `0` or `2`, with which an answer begins that has no witness
abbrev pub is_other_status : List ℕ → Bool
is_other_status [] = false
is_other_status (first ∷ rest) = ((first == byte "0") || (first == byte "2")) && (length rest == 0)

-- the first line begins with this letter
abbrev pub begins_with : ℕ → List (List ℕ) → Bool
begins_with letter [] = false
begins_with letter ([] ∷ lines) = false
begins_with letter ((first ∷ rest) ∷ lines) = first == letter

-- an answer that begins with this line and goes on with those has no witness, or one of properties with this other letter
abbrev pub is_passed : ℕ → List ℕ → List (List ℕ) → Bool
is_passed other line lines = is_other_status line || (is_status line && begins_with other lines)

-- the lines behind the first that begins with `.`
abbrev pub behind_end : List (List ℕ) → List (List ℕ)
behind_end [] = []
behind_end (line ∷ lines) = if is_end line then lines else behind_end lines

-- the claims of the answers that some lines write, of properties with this letter; those of the other letter are read
-- over, and so are, within an answer, the lines up to its line that begins with `.`
abbrev pub claims_from : ℕ → ℕ → ℕ → ℕ → Bool → List (List ℕ) → Option (List Claimed)
claims_from letter other latches inputs within [] = Some []
claims_from letter other latches inputs true (line ∷ lines) =
    claims_from letter other latches inputs (not (is_end line)) lines
claims_from letter other latches inputs false (line ∷ lines) =
    if is_passed other line lines then claims_from letter other latches inputs true lines
    else (claim_of letter latches inputs (line ∷ lines) >>= λ claim.
    claims_from letter other latches inputs true lines >>= λ others. Some (claim ∷ others))

-- in abc's form a `#` stands behind the last values
abbrev pub is_last : List ℕ → Bool
is_last line = list_any (λ b. b == byte "#") line

-- the first of some pieces
abbrev pub first_piece : List (List ℕ) → List ℕ
first_piece [] = []
first_piece (piece ∷ pieces) = piece

-- what stands before the first `#` of a line
abbrev pub before_mark : List ℕ → List ℕ
before_mark line = first_piece (pieces (byte "#") line)

-- so many values in each line up to the last one
abbrev pub bare_frames_of : ℕ → List (List ℕ) → Option (List (List Bool))
bare_frames_of count [] = None
bare_frames_of count (line ∷ lines) =
    if is_last line then (bits_of count (before_mark line) >>= λ frame. Some (frame ∷ []))
    else (bits_of count line >>= λ frame. bare_frames_of count lines >>= λ frames. Some (frame ∷ frames))

-- the claim that some lines write in abc's form: the latches at first, and the inputs at each moment; it names no
-- property
unfoldable pub bare_of : ℕ → ℕ → List (List ℕ) → Option Claimed
bare_of latches inputs lines = do
  bits ← bits_at latches lines
  frames ← bare_frames_of inputs bits.1
  Some (record { properties = []; latches = bits.0; inputs = frames })

-- that claim alone
abbrev pub bare_alone : ℕ → ℕ → List (List ℕ) → Option (List Claimed)
bare_alone latches inputs lines = bare_of latches inputs lines >>= λ claim. Some (claim ∷ [])

-- the claims that some lines write: the one in abc's form, or those of answers
abbrev pub claims_in : ℕ → ℕ → List (List ℕ) → Option (List Claimed)
claims_in latches inputs lines =
    if list_any is_last lines then bare_alone latches inputs lines
    else claims_from (byte "b") (byte "j") latches inputs false lines

-- the claims of bad literals that a text writes for so many latches and inputs, if it has the form
abbrev pub claims_of : ℕ → ℕ → List ℕ → Option (List Claimed)
claims_of latches inputs text = claims_in latches inputs (said_lines text)

-- the claims of justice properties that some lines write: of answers alone, since abc's form is of a bad literal
abbrev pub lassos_in : ℕ → ℕ → List (List ℕ) → Option (List Claimed)
lassos_in latches inputs lines =
    if list_any is_last lines then Some []
    else claims_from (byte "j") (byte "b") latches inputs false lines

-- the claims of justice properties that a text writes, if it has the form
abbrev pub lassos_of : ℕ → ℕ → List ℕ → Option (List Claimed)
lassos_of latches inputs text = lassos_in latches inputs (said_lines text)

-- the claim that a trace is a witness of these properties
abbrev pub claim_by : List ℕ → Trace → Claimed
claim_by properties trace =
    record { properties = properties; latches = trace.latches.items; inputs = frames_view trace.inputs.items }

-- a claim without where it lies in memory
abbrev pub claim_view : claims.Claim → Claimed
claim_view claim = claim_by claim.properties.items claim.trace

-- some claims without where they lie in memory
abbrev pub claims_view : List claims.Claim → List Claimed
claims_view claims = map claim_view claims
