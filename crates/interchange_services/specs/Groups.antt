-- The services of an interchange, apart from how it is read. Document 01, Stage: "the groups 2 of its SKDUPD messages are services".
-- A group 2 begins with its PRD, and is named by the offset of that. Assumes nothing; there is no proof here.
use Rattle.std.specs.Prelude.{Bool, true, false, List, [], ◌∷◌, ◌++◌, ℕ, ◌+◌, eqb, length}
use Rattle.laws.specs.Choice.{pick, both}
use Rattle.syntax.specs.Segment.{tag_number}
use Rattle.messages.specs.declared.MessageType.{MessageType}
use Rattle.messages.specs.declared.MessageType.TheVariants.{Skdupd, Tsdupd, Tsdupd12B}
use Rattle.messages.specs.Tags.{PRD}
use Rattle.acceptance.specs.Interchange.{segments_written, Message, segments_in, Interchange, message_type_of, groups_in}
use Rattle.services.specs.Rows.{keep}

abbrev pub is_skdupd : MessageType → Bool
is_skdupd Skdupd = true
is_skdupd Tsdupd = false
is_skdupd Tsdupd12B = false

-- whether a segment, with the group that it is placed in, begins a group 2
abbrev pub begins : List ℕ × ℕ → Bool
begins e = both (eqb e.1 2) (eqb (tag_number e.0) PRD)

-- where groups 2 begin among segments that stand from an offset on, one after the other
unfoldable pub beginnings : ℕ → List (List ℕ × ℕ) → List ℕ
beginnings at [] = []
beginnings at (e ∷ l) = keep (begins e) at (beginnings (at + length e.0 + 1) l)

-- those of a message at an offset, where its UIH names a SKDUPD
abbrev pub groups_at : ℕ → Message → List ℕ
groups_at at m = pick (is_skdupd (message_type_of m)) (beginnings at (groups_in m)) []

-- those of some messages, one after the other
unfoldable pub groups_from : ℕ → List Message → List ℕ
groups_from at [] = []
groups_from at (m ∷ ms) = groups_at at m ++ groups_from (at + length (segments_written (segments_in m))) ms

-- the first message follows the UIB and its terminator
abbrev pub groups_of : Interchange → List ℕ
groups_of x = groups_from (length x.opening + 1) x.messages
