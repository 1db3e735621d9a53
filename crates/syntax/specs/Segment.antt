-- A segment, its end, its tag and its limits (document 01, "Bytes and segments"; numbers 4, 5 and 6).
-- Assumes nothing.
use Rattle.std.specs.Prelude.{ℕ, suc, ◌+◌, ◌*◌, Bool, false, List, [], ◌∷◌, leb, ltb, length, drop, Option, Some, None, Result, Ok, Err}
use Rattle.laws.specs.Choice.{pick, both, all}
use Rattle.answers.specs.declared.Refusal.{Refusal}
use Rattle.answers.specs.Answers.{Answer, done, naming, byte_not_permitted, input_ends, wrong_segment, number, position}
use Rattle.syntax.specs.declared.segment.ScanError.{ScanError}
use Rattle.syntax.specs.declared.segment.ScanError.TheVariants.{NotPermitted, Unended, Malformed}
use Rattle.syntax.specs.Bytes.{terminator, permitted_of, plain}
use Rattle.syntax.specs.Pieces.{first_piece, tag_text, elements, occurrences, components}

-- the bytes of the segment that starts at an offset: up to the first unreleased terminator, or to the input's end
abbrev pub body_at : List ℕ → ℕ → List ℕ
body_at s at = first_piece terminator false (drop at s)

abbrev pub capital : ℕ → Bool
capital b = both (leb 65 b) (leb b 90)

-- "a tag of three capital letters, none released": what stands before the first `+`
abbrev pub three_capitals : List ℕ → Bool
three_capitals [] = false
three_capitals (a ∷ []) = false
three_capitals (a ∷ b ∷ []) = false
three_capitals (a ∷ b ∷ c ∷ []) = both (capital a) (both (capital b) (capital c))
three_capitals (a ∷ b ∷ c ∷ d ∷ l) = false

unfoldable pub tagged : List ℕ → Bool
tagged g = three_capitals (tag_text g)

-- "At most 64 elements, 99 repetitions of one, 32 components in each, 512 characters in a component, release bytes not counted, empty parts counted."
unfoldable pub component_fits : List ℕ → Bool
component_fits p = leb (length (plain p)) 512

unfoldable pub occurrence_fits : List ℕ → Bool
occurrence_fits p = both (leb (length (components p)) 32) (all component_fits (components p))

unfoldable pub element_fits : List ℕ → Bool
element_fits p = both (leb (length (occurrences p)) 99) (all occurrence_fits (occurrences p))

unfoldable pub within_limits : List ℕ → Bool
within_limits g = both (leb (length (elements g)) 64) (all element_fits (elements g))

unfoldable pub well_formed : List ℕ → Bool
well_formed g = both (tagged g) (within_limits g)

-- how many permitted bytes a text begins with
unfoldable pub permitted_run : List ℕ → ℕ
permitted_run [] = 0
permitted_run (b ∷ l) = pick (permitted_of b) (suc (permitted_run l)) 0

-- what the body g of a segment at an offset is, in an input of n bytes: first 4, then 5, then 6
unfoldable pub scan_of : ℕ → ℕ → List ℕ → Result ℕ ScanError
scan_of n at g =
    pick (all permitted_of g)
    (pick (ltb (at + length g) n) (pick (well_formed g) (Ok (at + length g)) (Err Malformed)) (Err Unended))
    (Err (NotPermitted (at + permitted_run g)))

-- the segment that starts at an offset of the input s
abbrev pub segment_at : List ℕ → ℕ → Result ℕ ScanError
segment_at s at = scan_of (length s) at (body_at s at)

-- what each case answers of the segment at an offset: the terminator's index, or number and position
abbrev pub error_answer : ℕ → ScanError → Answer ℕ
error_answer at (NotPermitted i) = byte_not_permitted i
error_answer at Unended = input_ends at
error_answer at Malformed = wrong_segment at

abbrev pub scanned_answer : ℕ → Result ℕ ScanError → Answer ℕ
scanned_answer at (Ok e) = done e
scanned_answer at (Err error) = error_answer at error

-- and as the reader hands on what is wrong
abbrev pub refusal_of : ℕ → ScanError → Refusal
refusal_of at error = naming (number (error_answer at error)) (position (error_answer at error))

-- the same of any outcome: none where the segment is whole
abbrev pub scanned_refusal : ℕ → Result ℕ ScanError → Option Refusal
scanned_refusal at (Ok e) = None
scanned_refusal at (Err error) = Some (refusal_of at error)

-- "in it 4, 5, 6": what is answered of the body g of a segment at an offset, in an input of n bytes
unfoldable pub body_answer : ℕ → ℕ → List ℕ → Answer ℕ
body_answer n at g =
    pick (all permitted_of g)
    (pick (ltb (at + length g) n) (pick (well_formed g) (done (at + length g)) (wrong_segment at)) (input_ends at))
    (byte_not_permitted (at + permitted_run g))

abbrev pub segment_answer : List ℕ → ℕ → Answer ℕ
segment_answer s at = body_answer (length s) at (body_at s at)

-- the tag's three bytes as one number
abbrev pub tag_number : List ℕ → ℕ
tag_number [] = 0
tag_number (a ∷ []) = 0
tag_number (a ∷ b ∷ []) = 0
tag_number (a ∷ b ∷ c ∷ l) = a * 65536 + b * 256 + c
