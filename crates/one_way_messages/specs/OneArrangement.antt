-- What is shown of each message of an interchange: it has one arrangement by its table alone, and no other. Assumes nothing; there is no proof here.
use Rattle.std.specs.Prelude.{◌≡◌, true, List, [], ◌∷◌, map, ℕ, Option, Some}
use Rattle.syntax.specs.Segment.{tag_number}
use Rattle.placing.specs.declared.Place.{Place}
use Rattle.placing.specs.Table.{Table, group_at}
use Rattle.placing.specs.Tables.{table_of}
use Rattle.placing.specs.Place.{start_place}
use Rattle.acceptance.specs.Interchange.{Message, segments_in, message_type_of, placed_segments, groups_in}
use Rattle.one_way.specs.Arrangement.{Arrangement, is_arrangement, tags_of, Where, standings}
use Rattle.one_way.specs.Placings.{where_of}

-- the table of a message, its tags, and where the reader places its segments, the UIH first
abbrev pub table_for : Message → Table
table_for m = table_of (message_type_of m)

abbrev pub tags_in : Message → List ℕ
tags_in m = map tag_number (segments_in m)

abbrev pub places_read : Message → List (Option Place)
places_read m = Some start_place ∷ map (λ e. e.1) (placed_segments m)

-- the row in which a segment stands, and the group that the table names for it
abbrev pub row_in : Where → ℕ
row_in [] = 0
row_in (x ∷ l) = x.0

abbrev pub group_standing : Table → Where → ℕ
group_standing t w = group_at t (row_in w)

-- A message of an interchange has one arrangement, and no other: its segments stand where the reader places them, in the groups that its rows name

pub record OneArrangement (m : Message) : Type 0 where
  pub drawn : Arrangement
  pub arranged : is_arrangement (table_for m) drawn ≡ true
  pub message : tags_of drawn ≡ tags_in m
  pub places : standings (table_for m) drawn ≡ map (where_of (table_for m)) (places_read m)
  pub groups : map (group_standing (table_for m)) (standings (table_for m) drawn) ≡ map (λ e. e.1) (groups_in m)
  pub only : (a : Arrangement) → is_arrangement (table_for m) a ≡ true → tags_of a ≡ tags_in m → a ≡ drawn

-- every one of some messages has it
abbrev pub EachOneWay : List Message → Type 0
EachOneWay [] = Unit {0}
EachOneWay (m ∷ ms) = OneArrangement m × EachOneWay ms
