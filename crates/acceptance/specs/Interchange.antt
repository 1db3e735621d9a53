-- What an interchange is, apart from how it is read: document 01, "Bytes and segments", "The placing rule" and "Calendars". Document 02, A2: "The wish is part
-- of the input in demand 2"; it is true where the caller asks for the old reading, in which a POP with neither form means every day.
-- A segment is given by its bytes without the terminator. Assumes nothing; there is no proof here.
use Rattle.std.specs.Prelude.{◌≡◌, Bool, true, false, not, List, [], ◌∷◌, ◌++◌, map, ℕ, ◌+◌, ◌≤◌, eqb, ltb, length, Option, Some, None, is_some, Result, Ok, Err}
use Rattle.laws.specs.Choice.{pick, both, all}
use Rattle.syntax.specs.Bytes.{terminator, permitted_of, releases, stands}
use Rattle.syntax.specs.Segment.{tag_number, well_formed}
use Rattle.messages.specs.declared.MessageType.{MessageType}
use Rattle.messages.specs.declared.MessageType.TheVariants.{Skdupd}
use Rattle.messages.specs.Tags.{UIB, UIH, UIT, UIZ}
use Rattle.messages.specs.Types.{is_period}
use Rattle.placing.specs.declared.Place.{Place}
use Rattle.placing.specs.Table.{Table}
use Rattle.placing.specs.Tables.{table_of}
use Rattle.placing.specs.Place.{start_place}
use Rattle.placing.specs.Rule.{place_after, group_of}
use Rattle.envelope.specs.Envelope.{value_of, uib_of, uih_of, uit_of, uiz_of, heading}
use Rattle.period.specs.Period.{is_good, period_of}
use Rattle.steps.specs.declared.state.Row.{Row}
use Rattle.parts.specs.declared.Part.{Part}
use Rattle.envelope.specs.declared.Head.{Head}
use Rattle.envelope.specs.declared.HeadError.{HeadError}
use Rattle.envelope.specs.declared.HeadError.TheVariants.{Missing, Unknown}

-- "A segment is a tag .., then elements, then the terminator." Some segments, one after the other.
unfoldable pub segments_written : List (List ℕ) → List ℕ
segments_written [] = []
segments_written (g ∷ gs) = g ++ (terminator ∷ segments_written gs)

-- "`?` makes the next byte plain text, whichever it is." No byte of a segment stands as the terminator, and its last byte does
-- not release the one that follows it; r says whether its first byte is released.
unfoldable pub unbroken : Bool → List ℕ → Bool
unbroken r [] = not r
unbroken r (b ∷ g) = both (not (stands terminator r b)) (unbroken (releases r b) g)

-- "Permitted bytes ..", "a tag of three capital letters ..", "At most 64 elements ..": syntax has these definitions.
unfoldable pub is_segment : List ℕ → Bool
is_segment g = both (unbroken false g) (both (all permitted_of g) (well_formed g))

-- "A message is UIH to UIT."
pub record Message : Type 0 where
  pub heading : List ℕ
  pub within : List (List ℕ)
  pub trailer : List ℕ

abbrev pub segments_in : Message → List (List ℕ)
segments_in m = m.heading ∷ (m.within ++ (m.trailer ∷ []))

-- "An interchange has 1 to 60,000 bytes: UIB, one or more messages, UIZ, nothing after."
pub record Interchange : Type 0 where
  pub opening : List ℕ
  pub messages : List Message
  pub closing : List ℕ

-- what each of some messages gives, one after the other
abbrev pub each_of : {A : Type 0} → (Message → List A) → List Message → List A
each_of f [] = []
each_of f (m ∷ ms) = f m ++ each_of f ms

abbrev pub segments_of : Interchange → List (List ℕ)
segments_of x = x.opening ∷ (each_of segments_in x.messages ++ (x.closing ∷ []))

-- "UIB begins `UNOB:4`", and names a dialogue reference
abbrev pub names : Option Part → Bool
names (Some p) = true
names None = false

-- "UIH names in S306 .. the type, `D`, `04A`, an empty 0113 and `UN`; then the reference 0340." Document 02, A8: that of a TSDUPD may name 12B,
-- and "each message's UIH decides".
abbrev pub known : Result Head HeadError → Bool
known (Ok h) = true
known (Err Missing) = false
known (Err Unknown) = false

-- the type that it names; where it names none, none is asked for
abbrev pub type_in : Result Head HeadError → MessageType
type_in (Ok h) = h.message
type_in (Err Missing) = Skdupd
type_in (Err Unknown) = Skdupd

abbrev pub message_type_of : Message → MessageType
message_type_of m = type_in (uih_of m.heading)

-- "the dialogue reference of UIB", "the reference 0340" of UIH: the first component of the second element
abbrev pub reference_in : List ℕ → List ℕ
reference_in g = value_of g 2 1

-- "The place reached moves on one segment at a time." The segments that follow a place, each with the place that the rule gives it.
unfoldable pub places_from : Table → Option Place → List (List ℕ) → List (List ℕ × Option Place)
places_from t p [] = []
places_from t p (g ∷ gs) = (g, place_after t p (tag_number g)) ∷ places_from t (place_after t p (tag_number g)) gs

abbrev pub has_place : List ℕ × Option Place → Bool
has_place e = is_some e.1

-- the group of a place, 0 for none
abbrev pub group_in : Table → Option Place → ℕ
group_in t (Some p) = group_of t p
group_in t None = 0

-- "POP in group 4 of SKDUPD: ..": its contents are those of a period. "POP in other places is placed and not read."
abbrev pub good_contents : Bool → MessageType → List ℕ × Option Place → Bool
good_contents wish message e = pick (is_period message (tag_number e.0) (group_in (table_of message) e.1)) (is_good (period_of wish e.0)) true

-- "UIH is the first place of a message and UIT the last."
abbrev pub is_trailer : List ℕ → Bool
is_trailer g = eqb (tag_number g) UIT

abbrev pub goes_before : List ℕ → Bool
goes_before g = not (is_trailer g)

abbrev pub placed_segments : Message → List (List ℕ × Option Place)
placed_segments m = places_from (table_of (message_type_of m)) (Some start_place) (m.within ++ (m.trailer ∷ []))

abbrev pub good_heading : Message → Bool
good_heading m = both (eqb (tag_number m.heading) UIH) (known (uih_of m.heading))

abbrev pub good_places : Message → Bool
good_places m = both (all goes_before m.within) (all has_place (placed_segments m))

abbrev pub good_periods : Bool → Message → Bool
good_periods wish m = all (good_contents wish (message_type_of m)) (places_from (table_of (message_type_of m)) (Some start_place) m.within)

-- "UIT repeats 0340 and gives the number of segments, UIH and UIT included."
abbrev pub good_trailer : Message → Bool
good_trailer m = both (is_trailer m.trailer) (uit_of m.trailer (reference_in m.heading) (length m.within + 2))

unfoldable pub is_message : Bool → Message → Bool
is_message wish m = both (all is_segment (segments_in m)) (both (good_heading m) (both (good_places m) (both (good_periods wish m) (good_trailer m))))

abbrev pub good_opening : List ℕ → Bool
good_opening g = both (is_segment g) (both (eqb (tag_number g) UIB) (names (uib_of g)))

-- "UIZ gives the dialogue reference of UIB and the number of messages."
abbrev pub good_closing : List ℕ → List ℕ → ℕ → Bool
good_closing g dialogue messages = both (is_segment g) (both (eqb (tag_number g) UIZ) (uiz_of g dialogue messages))

-- the rules of document 01
unfoldable pub rules_hold : Bool → Interchange → Bool
rules_hold wish x =
    both (good_opening x.opening)
    (both (ltb 0 (length x.messages))
    (both (all (is_message wish) x.messages)
    (good_closing x.closing (reference_in x.opening) (length x.messages))))

-- a text is an interchange to a caller with a wish
pub record IsInterchange (wish : Bool) (s : List ℕ) : Type 0 where
  pub parts : Interchange
  pub text : s ≡ segments_written (segments_of parts)
  pub rules : rules_hold wish parts ≡ true
  pub some : 1 ≤ length s
  pub fits : length s ≤ 60000

-- its rows: for each segment the bytes before it, its group, 0 for none, and its tag
abbrev pub with_group : Table → List ℕ × Option Place → List ℕ × ℕ
with_group t e = (e.0, group_in t e.1)

abbrev pub groups_in : Message → List (List ℕ × ℕ)
groups_in m = (m.heading, 0) ∷ map (with_group (table_of (message_type_of m))) (placed_segments m)

unfoldable pub rows_from : ℕ → List (List ℕ × ℕ) → List Row
rows_from at [] = []
rows_from at (e ∷ l) = record { offset = at; group = e.1; tag = tag_number e.0 } ∷ rows_from (at + length e.0 + 1) l

abbrev pub rows_of : Interchange → List Row
rows_of x = rows_from 0 ((x.opening, 0) ∷ (each_of groups_in x.messages ++ ((x.closing, 0) ∷ [])))
