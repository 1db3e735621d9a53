-- Each message of an interchange has exactly one arrangement by its table alone: the one that the reader's rows tell. Assumes nothing.
use Rattle.std.specs.Prelude.{◌≡◌, refl, Bool, true, List, [], ◌∷◌, ◌++◌, map, ◌↔◌, ℕ, zero, suc, eqb, ltb, length, Option, Some, None, is_some}
use Rattle.std.proofs.Common.{sym, ◌∙◌, ap₂, eqb-true}
use Rattle.std.proofs.Math.Path.{ap}
use Rattle.laws.specs.Choice.{both, all, both_parts}
use Rattle.syntax.specs.Segment.{tag_number}
use Rattle.messages.specs.Tags.{UIH, UIT}
use Rattle.placing.specs.declared.Place.{Place}
use Rattle.placing.specs.Table.{Table, group_at, level_of}
use Rattle.placing.specs.Place.{start_place}
use Rattle.placing.specs.Rule.{place_after}
use Rattle.interchange.specs.Reader.{accepted, reading_of}
use Rattle.acceptance.specs.Interchange.{Message, Interchange, message_type_of, reference_in, places_from, has_place, group_in, is_trailer, placed_segments, is_message, good_opening, good_closing, rules_hold, IsInterchange, with_group}
use Rattle.acceptance.specs.Within.{to_parts}
use Rattle.acceptance.specs.Theorems.{only_when}
use Rattle.one_way.specs.Arrangement.{Arrangement, is_arrangement, tags_of, standings}
use Rattle.one_way.specs.Placings.{walked, placings, all_placed, where_on, where_of}
use Rattle.one_way.proofs.Theorems.{at_most_one, arranged_when, exactly_when}
use Rattle.one_way.proofs.Whole.{uih_free, uih_first}
use Rattle.one_way_messages.specs.OneArrangement.{table_for, tags_in, places_read, row_in, group_standing, OneArrangement, EachOneWay}
use Rattle.one_way.proofs.Tables.{own_one_way}

-- The reader's walk is the walk of the tags

all_walked : (t : Table) (s : Option Place) (gs : List (List ℕ)) → all has_place (places_from t s gs) ≡ all is_some (walked t s (map tag_number gs))
unfolding places_from walked
all_walked t s [] = refl
all_walked t s (g ∷ gs) = ap (both (is_some (place_after t s (tag_number g)))) (all_walked t (place_after t s (tag_number g)) gs)

read_walked : (t : Table) (s : Option Place) (gs : List (List ℕ)) → map (λ e. e.1) (places_from t s gs) ≡ walked t s (map tag_number gs)
unfolding places_from walked
read_walked t s [] = refl
read_walked t s (g ∷ gs) = ap (λ l. place_after t s (tag_number g) ∷ l) (read_walked t (place_after t s (tag_number g)) gs)

map_last : (gs : List (List ℕ)) (g : List ℕ) → map tag_number (gs ++ (g ∷ [])) ≡ map tag_number gs ++ (tag_number g ∷ [])
map_last [] g = refl
map_last (h ∷ gs) g = ap (λ l. tag_number h ∷ l) (map_last gs g)

-- A message from UIH to UIT

module _ (m : Message) (heads : eqb (tag_number m.heading) UIH ≡ true) (ends : is_trailer m.trailer ≡ true) where
  abbrev within : List ℕ
  within = map tag_number m.within

  behind_tags : map tag_number (m.within ++ (m.trailer ∷ [])) ≡ within ++ (UIT ∷ [])
  behind_tags = map_last m.within m.trailer ∙ ap (λ x. within ++ (x ∷ [])) (eqb-true (tag_number m.trailer) UIT ends)

  tags_are : tags_in m ≡ UIH ∷ (within ++ (UIT ∷ []))
  tags_are = ap₂ (λ x l. x ∷ l) (eqb-true (tag_number m.heading) UIH heads) behind_tags

  read_are : places_read m ≡ placings (table_for m) (UIH ∷ (within ++ (UIT ∷ [])))
  unfolding placings
  read_are =
      let t = table_for m in
      let r = own_one_way (message_type_of m) in
      let e = uih_first t r.last r.table in
      rw e (ap (λ l. Some start_place ∷ l) (read_walked t (Some start_place) (m.within ++ (m.trailer ∷ [])) ∙ ap (walked t (Some start_place)) behind_tags))

  all_read : all has_place (placed_segments m) ≡ all_placed (table_for m) (UIH ∷ (within ++ (UIT ∷ [])))
  unfolding placings
  all_read =
      let t = table_for m in
      let r = own_one_way (message_type_of m) in
      let e = uih_first t r.last r.table in
      rw e (all_walked t (Some start_place) (m.within ++ (m.trailer ∷ [])) ∙ ap (λ l. all is_some (walked t (Some start_place) l)) behind_tags)

  -- the placing rule places every segment exactly when the message has an arrangement by its table alone
  pub placed_exactly : (all has_place (placed_segments m) ≡ true) ↔ ((a : Arrangement) × (is_arrangement (table_for m) a ≡ true) × (tags_of a ≡ tags_in m))
  placed_exactly =
      let r = own_one_way (message_type_of m) in
      let w = exactly_when (table_for m) r.last r.table within r.one in
      (λ e. let c = w.0 (sym all_read ∙ e) in (c.0, c.1, c.2 ∙ sym tags_are), λ c. all_read ∙ w.1 (c.0, c.1, c.2 ∙ tags_are))

  -- with each segment where the reader places it
  pub placed_arranged : all has_place (placed_segments m) ≡ true
      → (a : Arrangement) × (is_arrangement (table_for m) a ≡ true) × (tags_of a ≡ tags_in m) × (standings (table_for m) a ≡ map (where_of (table_for m)) (places_read m))
  placed_arranged e =
      let r = own_one_way (message_type_of m) in
      let c = arranged_when (table_for m) r.last r.table within (sym all_read ∙ e) in
      (c.0, c.1, c.2 ∙ sym tags_are, c.3 ∙ ap (map (where_of (table_for m))) (sym read_are))

-- The group that the reader gives is that of the row in which the segment stands

row_told : (l : ℕ) (t : Table) (p : Place) (row : ℕ) → row_in (where_on l t p row) ≡ row
unfolding where_on
row_told zero t p row = refl
row_told (suc l) t p row = refl

module _ (t : Table) (free : group_at t 0 ≡ 0) where
  group_told : (s : Option Place) → group_in t s ≡ group_standing t (where_of t s)
  group_told (Some p) = ap (group_at t) (sym (row_told (level_of t p.row) t p p.row))
  group_told None = sym free

  groups_told : (l : List (List ℕ × Option Place)) → map (λ e. e.1) (map (with_group t) l) ≡ map (group_standing t) (map (where_of t) (map (λ e. e.1) l))
  groups_told [] = refl
  groups_told (e ∷ l) = ap₂ (λ x y. x ∷ y) (group_told e.1) (groups_told l)

-- Each message has it

pub message_one_way : (wish : Bool) (m : Message) → is_message wish m ≡ true → OneArrangement m
message_one_way wish m h =
    let t = table_for m in
    let p = to_parts wish m h in
    let r = own_one_way (message_type_of m) in
    let free = uih_free t r.last r.table in
    let c = placed_arranged m p.tag p.rest.trailer p.rest.placed in
    record {
      drawn = c.0;
      arranged = c.1;
      message = c.2;
      places = c.3;
      groups = ap (map (group_standing t)) c.3
          ∙ ap₂ (λ x y. x ∷ y) (sym (group_told t free (Some start_place)) ∙ free) (sym (groups_told t free (placed_segments m)));
      only = λ a v e. at_most_one t r.table.well r.one a c.0 v c.1 (e ∙ sym c.2);
    }

each_one_way : (wish : Bool) (ms : List Message) → all (is_message wish) ms ≡ true → EachOneWay ms
each_one_way wish [] h = tt
each_one_way wish (m ∷ ms) h =
    let p = both_parts (is_message wish m) (all (is_message wish) ms) h in
    (message_one_way wish m p.0, each_one_way wish ms p.1)

rules_messages : (wish : Bool) (x : Interchange) → rules_hold wish x ≡ true → all (is_message wish) x.messages ≡ true
unfolding rules_hold
rules_messages wish x h =
    let closing = good_closing x.closing (reference_in x.opening) (length x.messages) in
    let a = both_parts (good_opening x.opening) (both (ltb 0 (length x.messages)) (both (all (is_message wish) x.messages) closing)) h in
    let b = both_parts (ltb 0 (length x.messages)) (both (all (is_message wish) x.messages) closing) a.1 in
    (both_parts (all (is_message wish) x.messages) closing b.1).0

pub interchange_one_way : (wish : Bool) (s : List ℕ) (i : IsInterchange wish s) → EachOneWay i.parts.messages
interchange_one_way wish s i = each_one_way wish i.parts.messages (rules_messages wish i.parts i.rules)

-- and so whatever is accepted is read in one way only
pub accepted_one_way : (wish : Bool) (s : List ℕ) → (reading_of wish s).verdict ≡ accepted → (i : IsInterchange wish s) × EachOneWay i.parts.messages
accepted_one_way wish s e = let i = only_when wish s e in (i, interchange_one_way wish s i)
