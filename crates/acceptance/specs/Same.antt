-- A text is an interchange in one way at most: its segments, and what they are in it, are determined.
-- Assumes nothing.
use Rattle.std.specs.Prelude.{◌≡◌, refl, Bool, true, false, not, ℕ, ◌+◌, eqb, length, drop}
use Rattle.std.proofs.Math.Path.{sym, ap}
use Rattle.std.proofs.Common.{◌∙◌, arith, eqb-true}
use mathlib.Core.List.{List, [], ◌∷◌, ◌++◌}
use Rattle.std.proofs.lemmas.Bool.{not-true}
use Rattle.laws.specs.Choice.{both, all, both_parts, all_append, false≢true}
use Rattle.syntax.specs.Pieces.{first_piece}
use Rattle.syntax.specs.Segment.{tag_number}
use Rattle.messages.specs.Tags.{UIH, UIZ}
use Rattle.envelope.specs.Envelope.{uiz_of}
use Rattle.acceptance.specs.Interchange.{segments_written, is_segment, Message, segments_in, Interchange, each_of, segments_of, is_trailer, goes_before, is_message, reference_in, rules_hold}
use Rattle.acceptance.specs.Segments.{segment_parts, first_whole, segment_fits, after_segment}
use Rattle.acceptance.specs.Within.{to_parts}
use Rattle.acceptance.specs.When.{regroup, to_rules}

-- the first and the rest of a list
module _ {A : Type 0} where
  pub first_same : (a b : A) (l m : List A) → a ∷ l ≡ b ∷ m → a ≡ b
  first_same a b l m e = cc

  pub rest_same : (a b : A) (l m : List A) → a ∷ l ≡ b ∷ m → l ≡ m
  rest_same a b l m e = cc

  none≢some : (a : A) (l : List A) → [] ≡ a ∷ l → ⊥
  none≢some a l e = let n = ap length e in omega arith

-- the same text has the same segments
pub same_segments : (gs hs : List (List ℕ)) → all is_segment gs ≡ true → all is_segment hs ≡ true → segments_written gs ≡ segments_written hs → gs ≡ hs
unfolding segments_written
same_segments [] [] p q e = refl
same_segments [] (h ∷ hs) p q e =
    let n = segment_fits [] 0 h (segments_written hs) e in
    absurd (omega arith)
same_segments (g ∷ gs) [] p q e =
    let n = segment_fits [] 0 g (segments_written gs) (sym e) in
    absurd (omega arith)
same_segments (g ∷ gs) (h ∷ hs) p q e =
    let u = both_parts (is_segment g) (all is_segment gs) p in
    let v = both_parts (is_segment h) (all is_segment hs) q in
    let a : g ≡ h =
    sym (first_whole false g (segments_written gs) (segment_parts g u.0).0) ∙ ap (first_piece 39 false) e ∙ first_whole false h (segments_written hs) (segment_parts h v.0).0 in
    let n : 0 + length g + 1 ≡ 0 + length h + 1 = ap (λ (x : List ℕ). 0 + length x + 1) a in
    let b : segments_written gs ≡ segments_written hs =
    sym (after_segment (g ++ (39 ∷ segments_written gs)) 0 g (segments_written gs) refl)
    ∙ ap (λ (x : ℕ). drop x (g ++ (39 ∷ segments_written gs))) n
    ∙ after_segment (g ++ (39 ∷ segments_written gs)) 0 h (segments_written hs) e in
    ap (λ (x : List ℕ). x ∷ gs) a ∙ ap (λ (x : List (List ℕ)). h ∷ x) (same_segments gs hs u.1 v.1 b)

-- the same segments have the same UIT at the end of a message
abbrev Same : List (List ℕ) → List ℕ → List (List ℕ) → List (List ℕ) → List ℕ → List (List ℕ) → Type 0
Same gs t l hs u m = (gs ≡ hs) × (t ≡ u) × (l ≡ m)

no_trailer : (g : List ℕ) → not (is_trailer g) ≡ true → is_trailer g ≡ true → ⊥
no_trailer g p q = false≢true (sym (not-true (is_trailer g) p) ∙ q)

same_within : (gs hs : List (List ℕ)) (t u : List ℕ) (l m : List (List ℕ)) → all goes_before gs ≡ true → all goes_before hs ≡ true
    → is_trailer t ≡ true → is_trailer u ≡ true → gs ++ (t ∷ l) ≡ hs ++ (u ∷ m) → Same gs t l hs u m
same_within [] [] t u l m p q a b e = (refl, first_same t u l m e, rest_same t u l m e)
same_within [] (h ∷ hs) t u l m p q a b e =
    let v = both_parts (not (is_trailer h)) (all goes_before hs) q in
    absurd (no_trailer h v.0 (ap is_trailer (sym (first_same t h l (hs ++ (u ∷ m)) e)) ∙ a))
same_within (g ∷ gs) [] t u l m p q a b e =
    let v = both_parts (not (is_trailer g)) (all goes_before gs) p in
    absurd (no_trailer g v.0 (ap is_trailer (first_same g u (gs ++ (t ∷ l)) m e) ∙ b))
same_within (g ∷ gs) (h ∷ hs) t u l m p q a b e =
    let v = both_parts (not (is_trailer g)) (all goes_before gs) p in
    let w = both_parts (not (is_trailer h)) (all goes_before hs) q in
    let x = same_within gs hs t u l m v.1 w.1 a b (rest_same g h (gs ++ (t ∷ l)) (hs ++ (u ∷ m)) e) in (
      ap (λ (y : List ℕ). y ∷ gs) (first_same g h (gs ++ (t ∷ l)) (hs ++ (u ∷ m)) e) ∙ ap (λ (y : List (List ℕ)). h ∷ y) x.0,
      x.1,
      x.2,
    )

-- and the same messages before the UIZ
uiz≢uih : (g h : List ℕ) → g ≡ h → eqb (tag_number g) UIZ ≡ true → eqb (tag_number h) UIH ≡ true → ⊥
uiz≢uih g h e p q =
    let a = eqb-true (tag_number g) UIZ p in
    let b = eqb-true (tag_number h) UIH q in
    let c = ap tag_number e in
    omega arith

message_same : (m k : Message) → m.heading ≡ k.heading → m.within ≡ k.within → m.trailer ≡ k.trailer → m ≡ k
message_same m k a b c =
    ap (λ (x : List ℕ). record { heading = x; within = m.within; trailer = m.trailer }) a
    ∙ ap (λ (x : List (List ℕ)). record { heading = k.heading; within = x; trailer = m.trailer }) b
    ∙ ap (λ (x : List ℕ). record { heading = k.heading; within = k.within; trailer = x }) c

module _ (c d : List ℕ) (tc : eqb (tag_number c) UIZ ≡ true) (td : eqb (tag_number d) UIZ ≡ true) where
  abbrev all_of : List Message → List ℕ → List (List ℕ)
  all_of ms g = each_of segments_in ms ++ (g ∷ [])

  tail_of : Message → List Message → List ℕ → List (List ℕ)
  tail_of m ms g = m.within ++ (m.trailer ∷ all_of ms g)

  all_first : (m : Message) (ms : List Message) (g : List ℕ) → all_of (m ∷ ms) g ≡ m.heading ∷ tail_of m ms g
  unfolding tail_of
  all_first m ms g = ap (λ (x : List (List ℕ)). m.heading ∷ x) (regroup m.within m.trailer (each_of segments_in ms) (g ∷ []))

  same_messages : (wish : Bool) (ms ks : List Message) → all (is_message wish) ms ≡ true → all (is_message wish) ks ≡ true → all_of ms c ≡ all_of ks d → (ms ≡ ks) × (c ≡ d)
  unfolding tail_of
  same_messages wish [] [] p q e = (refl, first_same c d [] [] e)
  same_messages wish [] (k ∷ ks) p q e =
      let v = both_parts (is_message wish k) (all (is_message wish) ks) q in
      absurd (uiz≢uih c k.heading (first_same c k.heading [] (tail_of k ks d) (e ∙ all_first k ks d)) tc (to_parts wish k v.0).tag)
  same_messages wish (m ∷ ms) [] p q e =
      let v = both_parts (is_message wish m) (all (is_message wish) ms) p in
      absurd (uiz≢uih d m.heading (first_same d m.heading [] (tail_of m ms c) (sym e ∙ all_first m ms c)) td (to_parts wish m v.0).tag)
  same_messages wish (m ∷ ms) (k ∷ ks) p q e =
      let v = both_parts (is_message wish m) (all (is_message wish) ms) p in
      let w = both_parts (is_message wish k) (all (is_message wish) ks) q in
      let a = to_parts wish m v.0 in
      let b = to_parts wish k w.0 in
      let s = sym (all_first m ms c) ∙ e ∙ all_first k ks d in
      let x = same_within m.within k.within m.trailer k.trailer (all_of ms c) (all_of ks d) a.rest.inner b.rest.inner a.rest.trailer b.rest.trailer
      (rest_same m.heading k.heading (tail_of m ms c) (tail_of k ks d) s) in
      let y = same_messages wish ms ks v.1 w.1 x.2 in
      let z = message_same m k (first_same m.heading k.heading (tail_of m ms c) (tail_of k ks d) s) x.0 x.1 in
      (ap (λ (l : Message). l ∷ ms) z ∙ ap (λ (l : List Message). k ∷ l) y.0, y.1)

-- every segment of an interchange is one
messages_segments : (wish : Bool) (ms : List Message) → all (is_message wish) ms ≡ true → all is_segment (each_of segments_in ms) ≡ true
messages_segments wish [] p = refl
messages_segments wish (m ∷ ms) p =
    let u = both_parts (is_message wish m) (all (is_message wish) ms) p in
    let a = to_parts wish m u.0 in
    all_append is_segment (segments_in m) (each_of segments_in ms) (rw a.segment a.rest.segments) (messages_segments wish ms u.1)

module _ (wish : Bool) (x : Interchange) (h : rules_hold wish x ≡ true) where
  abbrev n : ℕ
  n = length x.messages

  closing_parts : (is_segment x.closing ≡ true) × (eqb (tag_number x.closing) UIZ ≡ true)
  closing_parts =
      let r = to_rules wish x h in
      let u = both_parts (is_segment x.closing) (both (eqb (tag_number x.closing) UIZ) (uiz_of x.closing (reference_in x.opening) n)) r.closing in
      let v = both_parts (eqb (tag_number x.closing) UIZ) (uiz_of x.closing (reference_in x.opening) n) u.1 in
      (u.0, v.0)

  all_segments : all is_segment (segments_of x) ≡ true
  all_segments =
      let r = to_rules wish x h in
      rw r.segment (all_append is_segment (each_of segments_in x.messages) (x.closing ∷ []) (messages_segments wish x.messages r.messages) (rw closing_parts.0))

pub same_parts : (wish : Bool) (x y : Interchange) → rules_hold wish x ≡ true → rules_hold wish y ≡ true → segments_written (segments_of x) ≡ segments_written (segments_of y) → x ≡ y
same_parts wish x y h k e =
    let s = same_segments (segments_of x) (segments_of y) (all_segments wish x h) (all_segments wish y k) e in
    let o = first_same x.opening y.opening (each_of segments_in x.messages ++ (x.closing ∷ [])) (each_of segments_in y.messages ++ (y.closing ∷ [])) s in
    let t = rest_same x.opening y.opening (each_of segments_in x.messages ++ (x.closing ∷ [])) (each_of segments_in y.messages ++ (y.closing ∷ [])) s in
    let m = same_messages x.closing y.closing (closing_parts wish x h).1 (closing_parts wish y k).1 wish x.messages y.messages (to_rules wish x h).messages (to_rules wish y k).messages t in
    ap (λ (z : List ℕ). record { opening = z; messages = x.messages; closing = x.closing }) o
    ∙ ap (λ (z : List Message). record { opening = y.opening; messages = z; closing = x.closing }) m.0
    ∙ ap (λ (z : List ℕ). record { opening = y.opening; messages = y.messages; closing = z }) m.1
