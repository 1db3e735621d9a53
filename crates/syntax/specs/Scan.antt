-- The steps of a scan at an index of the input.
-- Assumes nothing.
use Rattle.std.specs.Prelude.{◌≡◌, Bool, true, not, ℕ, suc, ◌+◌, ◌-◌, ◌≤◌, ◌<◌, leb, ltb, eqb, length, drop, get_or, Result, Ok, Err}
use Rattle.std.proofs.Math.Path.{sym}
use Rattle.std.proofs.Common.{ap, ◌∙◌, zero-add, add-zero, not-suc-le-zero, length-drop, drop-drop, get_or-drop}
use Rattle.std.proofs.Math.Bool.{false}
use mathlib.Core.List.{List, [], ◌∷◌}
use native.Mathlib.Omega.{arith}
use borrow.Author.Tests.{leb-true, ltb-true, eqb-true}
use Rattle.laws.specs.Choice.{pick, both, choose, both_parts, false≢true}
use Rattle.syntax.specs.declared.limits.Counts.{Counts}
use Rattle.syntax.specs.declared.segment.ScanError.{ScanError}
use Rattle.syntax.specs.declared.segment.ScanError.TheVariants.{NotPermitted, Unended, Malformed}
use Rattle.syntax.specs.Bytes.{permitted_of, plain_text, plain_on, is_mark}
use Rattle.syntax.specs.Pieces.{first_piece, later_pieces, tag_text}
use Rattle.syntax.specs.Segment.{capital, three_capitals, tagged, within_limits, well_formed, body_at, scan_of, segment_at}
use Rattle.syntax.specs.Counts.{none, passed_of, text_of, element_of, occurrence_of, component_of, mark_of}
use Rattle.syntax.specs.Limits.{segment_left, element_left, occurrence_left}
use Rattle.syntax.specs.Runs.{text_run}
use Rattle.syntax.specs.Tags.{tag_ahead, tag_ahead_lem, capital_other}
use Rattle.syntax.specs.Onward.{onward, more, Text, text_facts, Within, onward_text, onward_counted, onward_end, onward_bad, onward_question, onward_released, onward_released_bad, onward_element, onward_occurrence, onward_component, onward_none, no_text}
use Rattle.laws.specs.Lists.{drop_here, drop_past}

first_text : (b : ℕ) (l : List ℕ) → Text b → first_piece 39 false (b ∷ l) ≡ b ∷ first_piece 39 false l
unfolding first_piece
first_text b l t = rw (t.quote, t.question)

-- a run of plain text is passed at once
run : (n : ℕ) (tag : Bool) (l : List ℕ) (i : ℕ) (k : Counts)
    → onward n tag i k (first_piece 39 false l) ≡ onward n tag (i + text_run l) (more k (text_run l)) (first_piece 39 false (drop (text_run l) l))
unfolding text_run
run n tag [] i k = simp add-zero
run n tag (b ∷ l) i k =
    choose (plain_text b)
    (λ q.
    let t = text_facts b q in
    let e : i + suc (text_run l) ≡ i + 1 + text_run l = omega arith in
    let f : k.characters + suc (text_run l) ≡ k.characters + 1 + text_run l = omega arith in
    rw (q, first_text b l t, e, f) (onward_text n tag i k b (first_piece 39 false l) t ∙ run n tag l (i + 1) (more k 1)))
    (λ q. rw q (simp add-zero))

-- where a run ends there is no plain text
stop : (l : List ℕ) → text_run l < length l → plain_text (get_or l (text_run l) 0) ≡ false
unfolding text_run
stop [] h = absurd (not-suc-le-zero h)
stop (b ∷ l) h =
    choose (plain_text b) (λ q. rw q (stop l (let g = rw q at h in omega arith))) (λ q. rw q q)

-- the tag of a well-tagged segment is within the limits, though it is no element
letters : (x : List ℕ) → three_capitals x ≡ true → element_left 0 0 0 false x ≡ true
unfolding element_left occurrence_left first_piece later_pieces plain_on
letters [] q = absurd (false≢true q)
letters (a ∷ []) q = absurd (false≢true q)
letters (a ∷ b ∷ []) q = absurd (false≢true q)
letters (a ∷ b ∷ c ∷ d ∷ l) q = absurd (false≢true q)
letters (a ∷ b ∷ c ∷ []) q =
    let u = both_parts (capital a) (both (capital b) (capital c)) q in
    let v = both_parts (capital b) (capital c) u.1 in
    let other : (k : ℕ) → k ≤ 64 → (eqb a k ≡ false) × (eqb b k ≡ false) × (eqb c k ≡ false) =
    λ k h. (capital_other a k h u.0, capital_other b k h v.0, capital_other c k h v.1) in
    let x = other 42 (omega arith) in
    let y = other 58 (omega arith) in
    let z = other 63 (omega arith) in
    simp (x.0, x.1, x.2, y.0, y.1, y.2, z.0, z.1, z.2)

start_limits : (g : List ℕ) → tagged g ≡ true → segment_left 0 0 0 0 false g ≡ within_limits g
unfolding segment_left within_limits tagged
start_limits g q = simp (zero-add, letters (tag_text g) q)

start_formed : (tag : Bool) (g : List ℕ) → tagged g ≡ tag → both tag (segment_left 0 0 0 0 false g) ≡ well_formed g
unfolding well_formed
start_formed true g q = rw (start_limits g q, q)
start_formed false g q = rw q

-- before the first byte all is left
pub scan_start : (s : List ℕ) (at : ℕ) → onward (length s) (tag_ahead (drop at s)) at none (body_at s at) ≡ segment_at s at
unfolding onward scan_of
scan_start s at =
    choose (ltb (at + length (body_at s at)) (length s))
    (λ q.
    let h = ltb-true (at + length (body_at s at)) (length s) q in
    let d = length-drop at s in
    simp (q, start_formed (tag_ahead (drop at s)) (body_at s at) (tag_ahead_lem (drop at s) (omega arith))))
    (λ q. rw q)

-- one run of plain text, up to index j
pub scan_run : (s : List ℕ) (tag : Bool) (i j : ℕ) (k : Counts) → j ≡ i + text_run (drop i s)
    → onward (length s) tag i k (first_piece 39 false (drop i s)) ≡ onward (length s) tag j (text_of k (j - i)) (first_piece 39 false (drop j s))
scan_run s tag i j k h =
    let e : j - i ≡ text_run (drop i s) = omega arith in
    run (length s) tag (drop i s) i k ∙ rw (drop-drop, e, h) (sym (onward_counted (length s) tag (i + text_run (drop i s)) k (text_run (drop i s)) (first_piece 39 false (drop (i + text_run (drop i s)) s))))

-- the byte at which it stops is no plain text
pub scan_stop : (s : List ℕ) (i j : ℕ) → j ≡ i + text_run (drop i s) → j < length s → plain_text (get_or s j 0) ≡ false
scan_stop s i j h g =
    let d = length-drop i s in
    ap (λ (x : ℕ). plain_text (get_or s x 0)) h ∙ ap plain_text (sym (get_or-drop i s (text_run (drop i s)) 0)) ∙ stop (drop i s) (omega arith)

-- counts stay within the limits
pub within_none : Within none
within_none = record { elements = omega arith; occurrences = omega arith; components = omega arith; characters = omega arith }

module _ (k : Counts) (w : Within k) where
  within_passed : Within (passed_of k)
  within_passed = record { elements = w.elements; occurrences = w.occurrences; components = w.components; characters = w.characters }

  pub within_text : (m : ℕ) → Within (text_of k m)
  unfolding text_of
  within_text m =
      choose (leb (k.characters + m) 512)
      (λ q. rw q record { elements = w.elements; occurrences = w.occurrences; components = w.components; characters = leb-true (k.characters + m) 512 q })
      (λ q. rw q within_passed)

  within_element : Within (element_of k)
  unfolding element_of
  within_element =
      choose (ltb k.elements 64)
      (λ q. let l = ltb-true k.elements 64 q in rw q record { elements = omega arith; occurrences = omega arith; components = omega arith; characters = omega arith })
      (λ q. rw q (within_passed))

  within_occurrence : Within (occurrence_of k)
  unfolding occurrence_of
  within_occurrence =
      choose (ltb k.occurrences 98)
      (λ q. let l = ltb-true k.occurrences 98 q in rw q record { elements = w.elements; occurrences = omega arith; components = omega arith; characters = omega arith })
      (λ q. rw q (within_passed))

  within_component : Within (component_of k)
  unfolding component_of
  within_component =
      choose (ltb k.components 31)
      (λ q. let l = ltb-true k.components 31 q in rw q record { elements = w.elements; occurrences = w.occurrences; components = omega arith; characters = omega arith })
      (λ q. rw q (within_passed))

  pub within_mark : (b : ℕ) → Within (mark_of k b)
  within_mark b =
      choose (eqb b 43) (λ p. rw p within_element)
      (λ p. rw p (choose (eqb b 42) (λ q. rw q within_occurrence) (λ q. rw q within_component)))

module _ (s : List ℕ) (tag : Bool) (j : ℕ) (k : Counts) (h : j < length s) where
  abbrev here : Result ℕ ScanError
  here = onward (length s) tag j k (first_piece 39 false (drop j s))

  pub scan_end : Within k → get_or s j 0 ≡ 39 → here ≡ pick (both tag (not k.over)) (Ok j) (Err Malformed)
  unfolding first_piece
  scan_end w e = rw (drop_here s j h, e) (onward_end (length s) tag j k w [] h)

  pub scan_bad : plain_text (get_or s j 0) ≡ false → eqb (get_or s j 0) 39 ≡ false → eqb (get_or s j 0) 63 ≡ false → is_mark (get_or s j 0) ≡ false
      → here ≡ Err (NotPermitted j)
  unfolding first_piece
  scan_bad t p q m =
      rw (drop_here s j h, p) (onward_bad (length s) tag j k (get_or s j 0) (first_piece 39 (eqb (get_or s j 0) 63) (drop (j + 1) s)) (no_text (get_or s j 0) t p q m))

  plus : Within k → get_or s j 0 ≡ 43 → here ≡ onward (length s) tag (j + 1) (mark_of k (get_or s j 0)) (first_piece 39 false (drop (j + 1) s))
  unfolding first_piece
  plus w e = rw (drop_here s j h, e) (onward_element (length s) tag j k w (first_piece 39 false (drop (j + 1) s)))

  star : Within k → get_or s j 0 ≡ 42 → here ≡ onward (length s) tag (j + 1) (mark_of k (get_or s j 0)) (first_piece 39 false (drop (j + 1) s))
  unfolding first_piece
  star w e = rw (drop_here s j h, e) (onward_occurrence (length s) tag j k w (first_piece 39 false (drop (j + 1) s)))

  colon : Within k → get_or s j 0 ≡ 58 → here ≡ onward (length s) tag (j + 1) (mark_of k (get_or s j 0)) (first_piece 39 false (drop (j + 1) s))
  unfolding first_piece
  colon w e = rw (drop_here s j h, e) (onward_component (length s) tag j k w (first_piece 39 false (drop (j + 1) s)))

  pub scan_mark : Within k → is_mark (get_or s j 0) ≡ true → here ≡ onward (length s) tag (j + 1) (mark_of k (get_or s j 0)) (first_piece 39 false (drop (j + 1) s))
  unfolding is_mark
  scan_mark w m =
      choose (eqb (get_or s j 0) 43) (λ p. plus w (eqb-true (get_or s j 0) 43 p))
      (λ p. choose (eqb (get_or s j 0) 42) (λ q. star w (eqb-true (get_or s j 0) 42 q)) (λ q. colon w (eqb-true (get_or s j 0) 58 (rw (p, q) at m))))

  -- a `?` at the input's end
  pub scan_question : get_or s j 0 ≡ 63 → length s ≤ j + 1 → here ≡ Err Unended
  unfolding first_piece
  scan_question e g = rw (drop_here s j h, e, drop_past s (j + 1) g) (onward_question (length s) tag j k g)

  module _ (e : get_or s j 0 ≡ 63) (g : j + 1 < length s) where
    two : drop j s ≡ 63 ∷ get_or s (j + 1) 0 ∷ drop (j + 1 + 1) s
    two = drop_here s j h ∙ rw (e, drop_here s (j + 1) g)

    pub scan_released_bad : permitted_of (get_or s (j + 1) 0) ≡ false → here ≡ Err (NotPermitted (j + 1))
    unfolding first_piece
    scan_released_bad p = rw two (onward_released_bad (length s) tag j k (get_or s (j + 1) 0) (first_piece 39 false (drop (j + 1 + 1) s)) p)

    pub scan_released : permitted_of (get_or s (j + 1) 0) ≡ true
        → here ≡ onward (length s) tag (j + 1 + 1) (text_of k 1) (first_piece 39 false (drop (j + 1 + 1) s))
    unfolding first_piece
    scan_released p =
        rw two (onward_released (length s) tag j k (get_or s (j + 1) 0) (first_piece 39 false (drop (j + 1 + 1) s)) p)
        ∙ sym (onward_counted (length s) tag (j + 1 + 1) k 1 (first_piece 39 false (drop (j + 1 + 1) s)))

-- past the input's end
pub scan_none : (s : List ℕ) (tag : Bool) (j : ℕ) (k : Counts) → length s ≤ j → onward (length s) tag j k (first_piece 39 false (drop j s)) ≡ Err Unended
unfolding first_piece
scan_none s tag j k h = rw (drop_past s j h) (onward_none (length s) tag j k h)
