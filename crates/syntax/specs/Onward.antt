-- What the rest of a segment leads to, given what stood before it: the work that a scan has left.
-- Assumes nothing.
use Rattle.std.specs.Prelude.{◌≡◌, refl, Bool, true, not, List, [], ◌∷◌, leb, ltb, eqb, length, Result, Ok, Err}
use Rattle.std.proofs.Common.{sym, ◌∙◌, add-zero}
use Rattle.std.proofs.Math.Bool.{false}
use Prim.Native.Nat.{ℕ, suc, ◌+◌, ◌≤◌, ◌<◌}
use native.Mathlib.Omega.{arith}
use borrow.Author.Tests.{le-ltb, lt-ltb, leb-false, ltb-false, not-true}
use Rattle.laws.specs.Choice.{pick, both, either, all, among, choose, both_parts, either_parts, both_true, both_false}
use Rattle.syntax.specs.declared.limits.Counts.{Counts}
use Rattle.syntax.specs.declared.segment.ScanError.{ScanError}
use Rattle.syntax.specs.declared.segment.ScanError.TheVariants.{NotPermitted, Unended, Malformed}
use Rattle.syntax.specs.Bytes.{permitted_of, plain_text, is_mark}
use Rattle.syntax.specs.Segment.{permitted_run}
use Rattle.syntax.specs.Counts.{text_of, element_of, occurrence_of, component_of, passed_of}
use Rattle.syntax.specs.Limits.{segment_left, left_text, left_released, left_component, left_occurrence, left_element, left_ends, over_elements, over_occurrences, over_components, over_characters}

-- the answer where g is what is left of the segment from index i on, in an input of n bytes; `tag` is whether the segment is tagged
unfoldable pub onward : ℕ → Bool → ℕ → Counts → List ℕ → Result ℕ ScanError
onward n tag i k g =
    pick (all permitted_of g)
    (pick (ltb (i + length g) n)
    (pick (both tag (both (not k.over) (segment_left k.elements k.occurrences k.components k.characters false g))) (Ok (i + length g)) (Err Malformed))
    (Err Unended))
    (Err (NotPermitted (i + permitted_run g)))

-- the counts with a number of characters, whether or not it is within the limit
abbrev pub more : Counts → ℕ → Counts
more k m =
    record {
      elements = k.elements;
      occurrences = k.occurrences;
      components = k.components;
      characters = k.characters + m;
      over = k.over;
    }

-- a byte of plain text is permitted and is no service character
pub record Text (b : ℕ) : Type 0 where
  pub fine : permitted_of b ≡ true
  pub colon : eqb b 58 ≡ false
  pub plus : eqb b 43 ≡ false
  pub star : eqb b 42 ≡ false
  pub question : eqb b 63 ≡ false
  pub quote : eqb b 39 ≡ false

pub text_facts : (b : ℕ) → plain_text b ≡ true → Text b
unfolding plain_text
text_facts b q =
    let w = both_parts (permitted_of b) (not (among b (58 ∷ 43 ∷ 42 ∷ 63 ∷ 39 ∷ []))) q in
    let a = either_parts (eqb b 58) (among b (43 ∷ 42 ∷ 63 ∷ 39 ∷ [])) (not-true _ w.1) in
    let d = either_parts (eqb b 43) (among b (42 ∷ 63 ∷ 39 ∷ [])) a.1 in
    let e = either_parts (eqb b 42) (among b (63 ∷ 39 ∷ [])) d.1 in
    let f = either_parts (eqb b 63) (among b (39 ∷ [])) e.1 in
    let g = either_parts (eqb b 39) false f.1 in
    record { fine = w.0; colon = a.0; plus = d.0; star = e.0; question = f.0; quote = g.0 }

-- what is neither plain text nor a service character is not permitted
pub no_text : (b : ℕ) → plain_text b ≡ false → eqb b 39 ≡ false → eqb b 63 ≡ false → is_mark b ≡ false → permitted_of b ≡ false
unfolding plain_text is_mark
no_text b t p q m =
    let u = either_parts (eqb b 43) (either (eqb b 42) (eqb b 58)) m in
    let v = either_parts (eqb b 42) (eqb b 58) u.1 in
    sym (both_true (permitted_of b)) ∙ (rw (v.1, u.0, v.0, q, p) at t)

fine_question : permitted_of 63 ≡ true
unfolding permitted_of
fine_question = refl

fine_plus : permitted_of 43 ≡ true
unfolding permitted_of
fine_plus = refl

fine_star : permitted_of 42 ≡ true
unfolding permitted_of
fine_star = refl

fine_colon : permitted_of 58 ≡ true
unfolding permitted_of
fine_colon = refl

module _ (n : ℕ) (tag : Bool) (i : ℕ) (k : Counts) where
  -- a permitted byte after which the counts are these
  onward_byte : (b : ℕ) (g : List ℕ) (e o c m : ℕ) → permitted_of b ≡ true
      → segment_left k.elements k.occurrences k.components k.characters false (b ∷ g) ≡ segment_left e o c m false g
      → onward n tag i k (b ∷ g) ≡ onward n tag (i + 1) (record { elements = e; occurrences = o; components = c; characters = m; over = k.over }) g
  unfolding onward permitted_run
  onward_byte b g e o c m p q =
      let next : (x : ℕ) → i + suc x ≡ i + 1 + x = λ x. omega arith in
      simp (p, next, q)

  pub onward_text : (b : ℕ) (g : List ℕ) → Text b → onward n tag i k (b ∷ g) ≡ onward n tag (i + 1) (more k 1) g
  onward_text b g t =
      onward_byte b g k.elements k.occurrences k.components (k.characters + 1) t.fine
      (left_text b t.plus t.star t.colon t.question k.elements k.occurrences k.components k.characters g)

  pub onward_released : (b : ℕ) (g : List ℕ) → permitted_of b ≡ true → onward n tag i k (63 ∷ b ∷ g) ≡ onward n tag (i + 1 + 1) (more k 1) g
  unfolding onward permitted_run
  onward_released b g p =
      let two : (x : ℕ) → i + suc (suc x) ≡ i + 1 + 1 + x = λ x. omega arith in
      simp (fine_question, p, two, left_released)

  -- a byte that is not permitted, bare or released
  pub onward_bad : (b : ℕ) (g : List ℕ) → permitted_of b ≡ false → onward n tag i k (b ∷ g) ≡ Err (NotPermitted i)
  unfolding onward permitted_run
  onward_bad b g p = simp (p, add-zero)

  pub onward_released_bad : (b : ℕ) (g : List ℕ) → permitted_of b ≡ false → onward n tag i k (63 ∷ b ∷ g) ≡ Err (NotPermitted (i + 1))
  unfolding onward permitted_run
  onward_released_bad b g p = simp (fine_question, p)

  -- the input's end, and a `?` that is its last byte
  pub onward_none : n ≤ i → onward n tag i k [] ≡ Err Unended
  unfolding onward
  onward_none h = simp (add-zero, le-ltb i n h)

  pub onward_question : n ≤ i + 1 → onward n tag i k (63 ∷ []) ≡ Err Unended
  unfolding onward
  onward_question h = simp (fine_question, le-ltb (i + 1) n h)

  -- counts that go on past a limit no longer matter
  module _ (e o c m : ℕ) (g : List ℕ) (h : segment_left e o c m false g ≡ false) where
    passed : onward n tag i (passed_of k) g ≡ onward n tag i (record { elements = e; occurrences = o; components = c; characters = m; over = k.over }) g
    unfolding onward
    passed = simp (h, both_false)

  pub onward_counted : (m : ℕ) (g : List ℕ) → onward n tag i (text_of k m) g ≡ onward n tag i (more k m) g
  unfolding text_of
  onward_counted m g =
      choose (leb (k.characters + m) 512) (λ q. rw q)
      (λ q. rw q (passed k.elements k.occurrences k.components (k.characters + m) g
      (over_characters k.elements k.occurrences k.components (k.characters + m) false g (leb-false (k.characters + m) 512 q))))

past : (x y : ℕ) → ltb x y ≡ false → y < x + 1
past x y q = let h = ltb-false x y q in omega arith

-- all counts within the limits
pub record Within (k : Counts) : Type 0 where
  pub elements : k.elements ≤ 64
  pub occurrences : k.occurrences ≤ 98
  pub components : k.components ≤ 31
  pub characters : k.characters ≤ 512

module _ (n : ℕ) (tag : Bool) (i : ℕ) (k : Counts) (w : Within k) (g : List ℕ) where
  pub onward_element : onward n tag i k (43 ∷ g) ≡ onward n tag (i + 1) (element_of k) g
  unfolding element_of
  onward_element =
      onward_byte n tag i k 43 g (k.elements + 1) 0 0 0 fine_plus
      (left_element k.elements k.occurrences k.components k.characters g w.occurrences w.components w.characters)
      ∙ choose (ltb k.elements 64) (λ q. rw q)
      (λ q. rw q (sym (passed n tag (i + 1) k (k.elements + 1) 0 0 0 g
      (over_elements (k.elements + 1) 0 0 0 false g (past k.elements 64 q)))))

  pub onward_occurrence : onward n tag i k (42 ∷ g) ≡ onward n tag (i + 1) (occurrence_of k) g
  unfolding occurrence_of
  onward_occurrence =
      onward_byte n tag i k 42 g k.elements (k.occurrences + 1) 0 0 fine_star
      (left_occurrence k.elements k.occurrences k.components k.characters g w.components w.characters)
      ∙ choose (ltb k.occurrences 98) (λ q. rw q)
      (λ q. rw q (sym (passed n tag (i + 1) k k.elements (k.occurrences + 1) 0 0 g
      (over_occurrences k.elements (k.occurrences + 1) 0 0 false g (past k.occurrences 98 q)))))

  pub onward_component : onward n tag i k (58 ∷ g) ≡ onward n tag (i + 1) (component_of k) g
  unfolding component_of
  onward_component =
      onward_byte n tag i k 58 g k.elements k.occurrences (k.components + 1) 0 fine_colon
      (left_component k.elements k.occurrences k.components k.characters g w.characters)
      ∙ choose (ltb k.components 31) (λ q. rw q)
      (λ q. rw q (sym (passed n tag (i + 1) k k.elements k.occurrences (k.components + 1) 0 g
      (over_components k.elements k.occurrences (k.components + 1) 0 false g (past k.components 31 q)))))

  -- at the terminator nothing is left
  pub onward_end : i < n → onward n tag i k [] ≡ pick (both tag (not k.over)) (Ok i) (Err Malformed)
  unfolding onward
  onward_end h =
      simp (add-zero, lt-ltb i n h, left_ends k.elements k.occurrences k.components k.characters w.elements w.occurrences w.components w.characters, both_true)
