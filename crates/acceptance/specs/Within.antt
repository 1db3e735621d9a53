-- The segments of a message after its UIH, one taken from the front or put there.
-- Assumes nothing.
use Rattle.std.specs.Prelude.{◌≡◌, refl, Bool, false, not, List, [], ◌∷◌, ◌++◌, ℕ, ◌+◌, eqb, Option, Some, None, is_some}
use Rattle.std.proofs.Common.{sym, ◌∙◌}
use Rattle.std.proofs.Math.Path.{ap}
use Rattle.std.proofs.Math.Bool.{true}
use native.Mathlib.Omega.{arith}
use Rattle.std.proofs.Math.ListN.{length}
use borrow.Author.Tests.{not-true}
use Rattle.laws.specs.Choice.{both, all, both_parts, false≢true}
use Rattle.syntax.specs.Segment.{tag_number}
use Rattle.placing.specs.declared.Place.{Place}
use Rattle.messages.specs.declared.MessageType.{MessageType}
use Rattle.placing.specs.Tables.{table_of}
use Rattle.messages.specs.Tags.{UIH}
use Rattle.placing.specs.Place.{start_place}
use Rattle.placing.specs.Rule.{step_of}
use Rattle.envelope.specs.Envelope.{uih_of, uit_of}
use Rattle.acceptance.specs.Interchange.{is_segment, Message, segments_in, known, message_type_of, reference_in, places_from, has_place, good_contents, is_trailer, goes_before, placed_segments, good_heading, good_places, good_periods, good_trailer, is_message}

placed_is : (x : Option Place) → is_some x ≡ true → (q : Place) × (x ≡ Some q)
placed_is (Some q) e = (q, refl)
placed_is None e = absurd (false≢true e)

-- segments of a message of type k that come after the place p, c segments having come; r is the reference of the UIH
pub record Within (wish : Bool) (k : MessageType) (p : Place) (c : ℕ) (r : List ℕ) (gs : List (List ℕ)) (last : List ℕ) : Type 0 where
  pub segments : all is_segment (gs ++ (last ∷ [])) ≡ true
  pub inner : all goes_before gs ≡ true
  pub placed : all has_place (places_from (table_of k) (Some p) (gs ++ (last ∷ []))) ≡ true
  pub contents : all (good_contents wish k) (places_from (table_of k) (Some p) gs) ≡ true
  pub trailer : is_trailer last ≡ true
  pub counted : uit_of last r (c + length gs + 1) ≡ true

module _ (wish : Bool) (k : MessageType) (p : Place) (c : ℕ) (r : List ℕ) (last : List ℕ) where
  -- the UIT alone
  pub record Last : Type 0 where
    pub segment : is_segment last ≡ true
    pub place : Place
    pub fits : step_of (table_of k) p (tag_number last) ≡ Some place
    pub trailer : is_trailer last ≡ true
    pub counted : uit_of last r (c + 1) ≡ true

  pub to_last : Within wish k p c r [] last → Last
  unfolding places_from
  to_last w =
      let q = placed_is (step_of (table_of k) p (tag_number last)) (both_parts (is_some (step_of (table_of k) p (tag_number last))) true w.placed).0 in
      let n : c + 0 + 1 ≡ c + 1 = omega arith in
      record {
        segment = (both_parts (is_segment last) true w.segments).0;
        place = q.0;
        fits = q.1;
        trailer = w.trailer;
        counted = ap (uit_of last r) (sym n) ∙ w.counted;
      }

  pub from_last : Last → Within wish k p c r [] last
  unfolding places_from
  from_last w =
      let n : c + 0 + 1 ≡ c + 1 = omega arith in
      record {
        segments = rw w.segment;
        inner = refl;
        placed = rw w.fits;
        contents = refl;
        trailer = w.trailer;
        counted = ap (uit_of last r) n ∙ w.counted;
      }

  -- one before others
  module _ (g : List ℕ) (gs : List (List ℕ)) where
    pub record Front : Type 0 where
      pub segment : is_segment g ≡ true
      pub place : Place
      pub fits : step_of (table_of k) p (tag_number g) ≡ Some place
      pub inner : is_trailer g ≡ false
      pub contents : good_contents wish k (g, Some place) ≡ true
      pub rest : Within wish k place (c + 1) r gs last

    pub to_front : Within wish k p c r (g ∷ gs) last → Front
    unfolding places_from
    to_front w =
        let x = step_of (table_of k) p (tag_number g) in
        let a = both_parts (is_some x) (all has_place (places_from (table_of k) x (gs ++ (last ∷ [])))) w.placed in
        let q = placed_is x a.0 in
        let b = both_parts (good_contents wish k (g, x)) (all (good_contents wish k) (places_from (table_of k) x gs)) w.contents in
        let d = both_parts (is_segment g) (all is_segment (gs ++ (last ∷ []))) w.segments in
        let e = both_parts (not (is_trailer g)) (all goes_before gs) w.inner in
        let n : c + 1 + length gs + 1 ≡ c + length (g ∷ gs) + 1 = omega arith in
        record {
          segment = d.0;
          place = q.0;
          fits = q.1;
          inner = not-true (is_trailer g) e.0;
          contents = rw q.1 at b.0;
          rest = record {
            segments = d.1;
            inner = e.1;
            placed = rw q.1 at a.1;
            contents = rw q.1 at b.1;
            trailer = w.trailer;
            counted = ap (uit_of last r) n ∙ w.counted;
          };
        }

    pub from_front : Front → Within wish k p c r (g ∷ gs) last
    unfolding places_from
    from_front w =
        let n : c + length (g ∷ gs) + 1 ≡ c + 1 + length gs + 1 = omega arith in
        record {
          segments = rw w.segment w.rest.segments;
          inner = rw w.inner w.rest.inner;
          placed = rw w.fits w.rest.placed;
          contents = rw (w.fits, w.contents) w.rest.contents;
          trailer = w.rest.trailer;
          counted = ap (uit_of last r) n ∙ w.rest.counted;
        }

-- a message is its UIH and what is within
pub record Parts (wish : Bool) (m : Message) : Type 0 where
  pub segment : is_segment m.heading ≡ true
  pub tag : eqb (tag_number m.heading) UIH ≡ true
  pub named : known (uih_of m.heading) ≡ true
  pub rest : Within wish (message_type_of m) start_place 1 (reference_in m.heading) m.within m.trailer

module _ (wish : Bool) (m : Message) where
  pub to_parts : is_message wish m ≡ true → Parts wish m
  unfolding is_message
  to_parts h =
      let a = both_parts (all is_segment (segments_in m)) (both (good_heading m) (both (good_places m) (both (good_periods wish m) (good_trailer m)))) h in
      let b = both_parts (good_heading m) (both (good_places m) (both (good_periods wish m) (good_trailer m))) a.1 in
      let c = both_parts (good_places m) (both (good_periods wish m) (good_trailer m)) b.1 in
      let d = both_parts (good_periods wish m) (good_trailer m) c.1 in
      let s = both_parts (is_segment m.heading) (all is_segment (m.within ++ (m.trailer ∷ []))) a.0 in
      let u = both_parts (eqb (tag_number m.heading) UIH) (known (uih_of m.heading)) b.0 in
      let p = both_parts (all goes_before m.within) (all has_place (placed_segments m)) c.0 in
      let t = both_parts (is_trailer m.trailer) (uit_of m.trailer (reference_in m.heading) (length m.within + 2)) d.1 in
      let n : 1 + length m.within + 1 ≡ length m.within + 2 = omega arith in
      record {
        segment = s.0;
        tag = u.0;
        named = u.1;
        rest = record {
          segments = s.1;
          inner = p.0;
          placed = p.1;
          contents = d.0;
          trailer = t.0;
          counted = ap (uit_of m.trailer (reference_in m.heading)) n ∙ t.1;
        };
      }

  pub from_parts : Parts wish m → is_message wish m ≡ true
  unfolding is_message
  from_parts h =
      let w = h.rest in
      let n : length m.within + 2 ≡ 1 + length m.within + 1 = omega arith in
      let c = ap (uit_of m.trailer (reference_in m.heading)) n ∙ w.counted in
      rw (h.segment, w.segments, h.tag, h.named, w.inner, w.placed, w.contents, w.trailer) c
