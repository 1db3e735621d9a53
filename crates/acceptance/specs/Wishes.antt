-- Asking turns no file away: what is an interchange to any caller is one to a caller who asks for the old reading, with the same rows.
-- Assumes nothing.
use Rattle.std.specs.Prelude.{◌≡◌, Bool, true, false, List, ℕ, ltb, length, Option, Some}
use Rattle.std.proofs.Common.{sym, ◌∙◌}
use Rattle.laws.specs.Choice.{both, all, both_parts, all_weaker, choose}
use Rattle.syntax.specs.Segment.{tag_number}
use Rattle.messages.specs.declared.MessageType.{MessageType}
use Rattle.messages.specs.Types.{is_period}
use Rattle.placing.specs.declared.Place.{Place}
use Rattle.placing.specs.Tables.{table_of}
use Rattle.placing.specs.Place.{start_place}
use Rattle.period.specs.Wishes.{good_asked}
use Rattle.interchange.specs.Reader.{accepted, reading_of}
use Rattle.acceptance.specs.Interchange.{is_segment, Message, segments_in, Interchange, message_type_of, reference_in, places_from, group_in, good_contents, good_heading, good_places, good_periods, good_trailer, is_message, good_opening, good_closing, rules_hold, IsInterchange}
use Rattle.acceptance.specs.Theorems.{only_when, rows_when}

contents_asked : (wish : Bool) (message : MessageType) (e : List ℕ × Option Place) → good_contents wish message e ≡ true → good_contents true message e ≡ true
contents_asked wish message e p =
    choose (is_period message (tag_number e.0) (group_in (table_of message) e.1))
    (λ q. rw q (good_asked wish e.0 (rw q at p)))
    (λ q. rw q)

message_asked : (wish : Bool) (m : Message) → is_message wish m ≡ true → is_message true m ≡ true
unfolding is_message
message_asked wish m p =
    let a = both_parts (all is_segment (segments_in m)) (both (good_heading m) (both (good_places m) (both (good_periods wish m) (good_trailer m)))) p in
    let b = both_parts (good_heading m) (both (good_places m) (both (good_periods wish m) (good_trailer m))) a.1 in
    let c = both_parts (good_places m) (both (good_periods wish m) (good_trailer m)) b.1 in
    let d = both_parts (good_periods wish m) (good_trailer m) c.1 in
    let e : good_periods true m ≡ true =
    all_weaker (good_contents wish (message_type_of m)) (good_contents true (message_type_of m)) (places_from (table_of (message_type_of m)) (Some start_place) m.within) (contents_asked wish (message_type_of m)) d.0 in
    rw (a.0, b.0, c.0, e, d.1)

rules_asked : (wish : Bool) (x : Interchange) → rules_hold wish x ≡ true → rules_hold true x ≡ true
unfolding rules_hold
rules_asked wish x p =
    let last = good_closing x.closing (reference_in x.opening) (length x.messages) in
    let a = both_parts (good_opening x.opening) (both (ltb 0 (length x.messages)) (both (all (is_message wish) x.messages) last)) p in
    let b = both_parts (ltb 0 (length x.messages)) (both (all (is_message wish) x.messages) last) a.1 in
    let c = both_parts (all (is_message wish) x.messages) last b.1 in
    let e = all_weaker (is_message wish) (is_message true) x.messages (message_asked wish) c.0 in
    rw (a.0, b.0, e, c.1)

pub interchange_asked : (wish : Bool) (s : List ℕ) → IsInterchange wish s → IsInterchange true s
interchange_asked wish s i = record { parts = i.parts; text = i.text; rules = rules_asked wish i.parts i.rules; some = i.some; fits = i.fits }

-- so a file that is accepted unasked has the same reading where the caller asks
pub reading_asked : (s : List ℕ) → (reading_of false s).verdict ≡ accepted → reading_of true s ≡ reading_of false s
unfolding interchange_asked
reading_asked s q =
    let i = only_when false s q in
    rows_when true s (interchange_asked false s i) ∙ sym (rows_when false s i)
