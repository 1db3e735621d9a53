-- The contents of the four service segments (document 01, "Bytes and segments").
-- Each definition takes the segment's own bytes g, from its tag up to and without its terminator.
-- Assumes nothing.
use Rattle.std.specs.Prelude.{ℕ, Bool, true, false, not, List, [], ◌∷◌, length, Option, Some, None, Result, Ok, Err}
use Rattle.laws.specs.Choice.{pick, both, all}
use Rattle.laws.specs.Text.{bytes}
use Rattle.answers.specs.Answers.{Answer, done, wrong_envelope, unknown_type}
use Rattle.syntax.specs.Bytes.{plain}
use Rattle.syntax.specs.Pieces.{part_of}
use Rattle.parts.specs.declared.Part.{Part}
use Rattle.parts.specs.Places.{part_at, present}
use Rattle.values.specs.Values.{same_text}
use Rattle.messages.specs.declared.MessageType.{MessageType}
use Rattle.messages.specs.declared.MessageType.TheVariants.{Skdupd, Tsdupd, Tsdupd12B}
use Rattle.laws.specs.Decimal.{decimal_of}
use Rattle.envelope.specs.declared.Head.{Head}
use Rattle.envelope.specs.declared.HeadError.{HeadError}
use Rattle.envelope.specs.declared.HeadError.TheVariants.{Missing, Unknown}

-- ".. compared after release": whether a part as written says the text
abbrev pub says : List ℕ → List ℕ → Bool
says part text = same_text (plain part) text

-- "`UNOB:4` is the first two components, S306 the first five, each other the first component, of the first occurrence of its
-- element, compared after release; the rest is not read."
abbrev pub value_of : List ℕ → ℕ → ℕ → List ℕ
value_of g e c = part_of g e 1 c

-- where that component stands in the segment
abbrev pub place_of : List ℕ → ℕ → ℕ → Part
place_of g e c = part_at g (record { from = 0; to = length g }) e 1 c

-- the texts that the segments name
abbrev pub UNOB : List ℕ
UNOB = bytes "UNOB"

abbrev pub version4 : List ℕ
version4 = bytes "4"

abbrev pub SKDUPD : List ℕ
SKDUPD = bytes "SKDUPD"

abbrev pub TSDUPD : List ℕ
TSDUPD = bytes "TSDUPD"

abbrev pub version_d : List ℕ
version_d = bytes "D"

abbrev pub release_04a : List ℕ
release_04a = bytes "04A"

abbrev pub release_12b : List ℕ
release_12b = bytes "12B"

abbrev pub agency_un : List ℕ
agency_un = bytes "UN"

-- "UIB begins `UNOB:4`", and "the dialogue reference of UIB" is the first component of its second element: 7 where one of the three is absent or, of the first two, another
abbrev pub opens : List ℕ → Bool
opens g = both (says (value_of g 1 1) UNOB) (both (says (value_of g 1 2) version4) (present (value_of g 2 1)))

unfoldable pub uib_of : List ℕ → Option Part
uib_of g = pick (opens g) (Some (place_of g 2 1)) None

-- "UIH names in S306, as ISO 9735-3 orders it, the type, `D`, `04A`, an empty 0113 and `UN`; then the reference 0340."
-- Document 000, UIH: 0065, 0052, 0054, 0113 and 0051 of S306, then 0340.
abbrev pub type_of : List ℕ → List ℕ
type_of g = value_of g 1 1

abbrev pub version_of : List ℕ → List ℕ
version_of g = value_of g 1 2

abbrev pub release_number_of : List ℕ → List ℕ
release_number_of g = value_of g 1 3

abbrev pub sub_function_of : List ℕ → List ℕ
sub_function_of g = value_of g 1 4

abbrev pub agency_of : List ℕ → List ℕ
agency_of g = value_of g 1 5

abbrev pub reference_of : List ℕ → List ℕ
reference_of g = value_of g 2 1

-- "All but 0113 must be present (an absent one is 7; ..)"
abbrev pub complete : List ℕ → List ℕ → List ℕ → List ℕ → List ℕ → Bool
complete type version release agency reference = all present (type ∷ version ∷ release ∷ agency ∷ reference ∷ [])

-- "(..; in S306 another than these is 8)": the parts of S306 after the type, in the directory of a release
abbrev pub directory_of : List ℕ → List ℕ → List ℕ → List ℕ → List ℕ → Bool
directory_of named version release subFunction agency =
    both (says version version_d) (both (says release named) (both (not (present subFunction)) (says agency agency_un)))

abbrev pub directory : List ℕ → List ℕ → List ℕ → List ℕ → Bool
directory = directory_of release_04a

-- Document 02, A8: "its UIH names 12B"; document 003, UIH: "0065 TSDUPD 0052 D 0054 12B 0051 UN"
abbrev pub directory_12b : List ℕ → List ℕ → List ℕ → List ℕ → Bool
directory_12b = directory_of release_12b

-- a type, and the place of 0340
abbrev pub heading : MessageType → Part → Result Head HeadError
heading message reference = Ok (record { message = message; reference = reference })

-- the type; with it goes the place of 0340
abbrev pub typed : List ℕ → Part → Result Head HeadError
typed type reference = pick (says type SKDUPD) (heading Skdupd reference) (pick (says type TSDUPD) (heading Tsdupd reference) (Err Unknown))

-- A8: "a SKDUPD that names 12B is still 8"
abbrev pub typed_12b : List ℕ → Part → Result Head HeadError
typed_12b type reference = pick (says type TSDUPD) (heading Tsdupd12B reference) (Err Unknown)

-- an absent part is 7 also where another part is wrong; then what is not known is 8. A8: "Take both; each message's UIH decides"
unfoldable pub uih_of : List ℕ → Result Head HeadError
uih_of g =
    pick (complete (type_of g) (version_of g) (release_number_of g) (agency_of g) (reference_of g))
    (pick (directory (version_of g) (release_number_of g) (sub_function_of g) (agency_of g)) (typed (type_of g) (place_of g 2 1))
    (pick (directory_12b (version_of g) (release_number_of g) (sub_function_of g) (agency_of g)) (typed_12b (type_of g) (place_of g 2 1)) (Err Unknown)))
    (Err Missing)

-- A trailer repeats a reference, as it was written, in its first element and gives a count in its second.
unfoldable pub trailer_of : List ℕ → List ℕ → ℕ → Bool
trailer_of g reference count =
    both (both (present (value_of g 1 1)) (says (value_of g 1 1) (plain reference)))
    (both (present (value_of g 2 1)) (says (value_of g 2 1) (decimal_of count)))

-- "UIT repeats 0340 and gives the number of segments, UIH and UIT included."
abbrev pub uit_of : List ℕ → List ℕ → ℕ → Bool
uit_of g reference segments = trailer_of g reference segments

-- "UIZ gives the dialogue reference of UIB and the number of messages."
abbrev pub uiz_of : List ℕ → List ℕ → ℕ → Bool
uiz_of g dialogue messages = trailer_of g dialogue messages

-- what each case answers, of a segment at an offset: the dialogue reference's place; the type and the place of 0340; nothing
abbrev pub opening_answer : ℕ → Option Part → Answer Part
opening_answer at (Some p) = done p
opening_answer at None = wrong_envelope at

abbrev pub headed_answer : ℕ → Result Head HeadError → Answer Head
headed_answer at (Ok h) = done h
headed_answer at (Err Missing) = wrong_envelope at
headed_answer at (Err Unknown) = unknown_type at

abbrev pub trailer_answer : ℕ → Bool → Answer (Unit {0})
trailer_answer at true = done tt
trailer_answer at false = wrong_envelope at

-- "7, 8": envelope contents, then type or directory not known, at the segment
unfoldable pub uib_answer : ℕ → List ℕ → Answer Part
uib_answer at g = pick (opens g) (done (place_of g 2 1)) (wrong_envelope at)

abbrev pub type_answer : ℕ → List ℕ → Part → Answer Head
type_answer at type reference =
    pick (says type SKDUPD) (done (record { message = Skdupd; reference = reference }))
    (pick (says type TSDUPD) (done (record { message = Tsdupd; reference = reference })) (unknown_type at))

abbrev pub type_12b_answer : ℕ → List ℕ → Part → Answer Head
type_12b_answer at type reference = pick (says type TSDUPD) (done (record { message = Tsdupd12B; reference = reference })) (unknown_type at)

unfoldable pub uih_answer : ℕ → List ℕ → Answer Head
uih_answer at g =
    pick (complete (type_of g) (version_of g) (release_number_of g) (agency_of g) (reference_of g))
    (pick (directory (version_of g) (release_number_of g) (sub_function_of g) (agency_of g)) (type_answer at (type_of g) (place_of g 2 1))
    (pick (directory_12b (version_of g) (release_number_of g) (sub_function_of g) (agency_of g)) (type_12b_answer at (type_of g) (place_of g 2 1)) (unknown_type at)))
    (wrong_envelope at)

abbrev pub uit_answer : ℕ → List ℕ → List ℕ → ℕ → Answer (Unit {0})
uit_answer at g reference segments = pick (uit_of g reference segments) (done tt) (wrong_envelope at)

abbrev pub uiz_answer : ℕ → List ℕ → List ℕ → ℕ → Answer (Unit {0})
uiz_answer at g dialogue messages = pick (uiz_of g dialogue messages) (done tt) (wrong_envelope at)
