-- What callers cite of the service segments' contents: where a part stands, and what is known of a reference that is handed out.
-- Assumes nothing.
use Rattle.std.specs.Prelude.{ℕ, suc, ◌-◌, ◌≤◌, ◌<◌, ◌≡◌, refl, true, false, not, List, [], ◌∷◌, leb, ltb, drop, Some, None, Err}
use Rattle.std.proofs.Common.{sym, subst, ◌∙◌, arith, lt-ltb, le-leb, leb-false, length-drop, take_all}
use Rattle.std.proofs.Math.Path.{ap}
use Rattle.std.proofs.Math.Logic.{⊎_elim}
use Rattle.std.proofs.Math.Decide.{dec_lt}
use Rattle.std.proofs.lemmas.Bool.{lt-leb, not-true}
use Rattle.std.proofs.Math.ListN.{length}
use Rattle.laws.specs.Choice.{both, choose, both_parts}
use Rattle.laws.specs.Lists.{between}
use Rattle.syntax.specs.Pieces.{part_of}
use Rattle.parts.specs.declared.Part.{Part}
use Rattle.parts.specs.Places.{present, bytes_of, element_at, occurrence_at}
use Rattle.parts.specs.Located.{Inside, part_bytes, part_inside, absent_bytes, bytes_present}
use Rattle.messages.specs.declared.MessageType.{MessageType}
use Rattle.messages.specs.declared.MessageType.TheVariants.{Skdupd, Tsdupd, Tsdupd12B}
use Rattle.envelope.specs.Envelope.{says, value_of, place_of, complete, directory, directory_12b, typed, typed_12b, type_of, version_of, release_number_of, agency_of, sub_function_of, reference_of, UNOB, version4, SKDUPD, TSDUPD, uib_of, uih_of, heading}
use Rattle.envelope.specs.declared.HeadError.TheVariants.{Missing, Unknown}
use Rattle.std.specs.Prelude.{Result, Ok}
use Rattle.envelope.specs.declared.Head.{Head}
use Rattle.envelope.specs.declared.HeadError.{HeadError}

-- what stands up to a list's end; the parts of the whole segment are the segment's
pub between_end : (g : List ℕ) (a : ℕ) → between g a (length g) ≡ drop a g
between_end g a =
    let d = length-drop a g in
    take_all (length g - a) (drop a g) (omega arith)

pub whole_bytes : (g : List ℕ) → between g 0 (length g) ≡ g
whole_bytes g = between_end g 0

pub value_at : (g : List ℕ) (e c : ℕ) → bytes_of g (place_of g e c) ≡ value_of g e c
value_at g e c = part_bytes g (record { from = 0; to = length g }) e 1 c ∙ ap (λ (x : List ℕ). part_of x e 1 c) (whole_bytes g)

-- where the first occurrence of an element stands
abbrev pub occurrence_found : List ℕ → ℕ → Part
occurrence_found g e = occurrence_at g (element_at g (record { from = 0; to = length g }) e) 1

-- a part that is present has a byte, and the other way round
pub present_length : (l : List ℕ) → present l ≡ ltb 0 (length l)
present_length [] = refl
present_length (b ∷ l) = sym (lt-ltb 0 (suc (length l)) (omega arith))

-- a component's place has a byte exactly where the component is present; it then lies in the segment
module _ (g : List ℕ) (e c : ℕ) where
  place_inside : ((place_of g e c).from < (place_of g e c).to) → (place_of g e c).to ≤ length g
  unfolding Inside
  place_inside h =
      ⊎_elim
      (λ q.
      let f = ap (λ (x : Part). x.from) q in
      let t = ap (λ (x : Part). x.to) q in
      omega arith)
      (λ i. i.2)
      (part_inside g (record { from = 0; to = length g }) (omega arith) e 1 c)

  pub present_place : present (value_of g e c) ≡ not (leb (place_of g e c).to (place_of g e c).from)
  present_place =
      elim (dec_lt (place_of g e c).from (place_of g e c).to) [
        | yes l ↦
            ap present (sym (value_at g e c))
            ∙ present_length (bytes_of g (place_of g e c))
            ∙ lt-ltb 0 (length (bytes_of g (place_of g e c))) (bytes_present g (place_of g e c) l (place_inside l))
            ∙ sym (ap not (lt-leb (place_of g e c).to (place_of g e c).from l))
        | no l ↦
            let h : (place_of g e c).to ≤ (place_of g e c).from = omega arith in
            ap present (sym (value_at g e c) ∙ absent_bytes g (place_of g e c) h) ∙ sym (ap not (le-leb (place_of g e c).to (place_of g e c).from h))
      ]

  -- the same from the test of the place
  pub place_absent : leb (place_of g e c).to (place_of g e c).from ≡ true → present (value_of g e c) ≡ false
  place_absent q = present_place ∙ ap not q

  pub place_present : leb (place_of g e c).to (place_of g e c).from ≡ false → present (value_of g e c) ≡ true
  place_present q = present_place ∙ ap not q

-- A reference that is handed out is present, lies in the segment, and is the first component of its second element.
pub record Reference (g : List ℕ) (p : Part) : Type 0 where
  pub some : p.from < p.to
  pub inside : p.to ≤ length g
  pub bytes : bytes_of g p ≡ value_of g 2 1

reference_at : (g : List ℕ) (p : Part) → place_of g 2 1 ≡ p → present (value_of g 2 1) ≡ true → Reference g p
reference_at g p q h =
    let l : (place_of g 2 1).from < (place_of g 2 1).to = leb-false (place_of g 2 1).to (place_of g 2 1).from (not-true (leb (place_of g 2 1).to (place_of g 2 1).from) (sym (present_place g 2 1) ∙ h)) in
    subst (Reference g) q (record { some = l; inside = place_inside g 2 1 l; bytes = value_at g 2 1 })

wrong≢dialogue : (p : Part) → None ≡ Some p → ⊥
wrong≢dialogue p q = let z : ◌≡◌ {A = ℕ} 0 1 = cc in omega arith

dialogue_is : (a b : Part) → Some a ≡ Some b → a ≡ b
dialogue_is a b q = cc

pub uib_reference : (g : List ℕ) (p : Part) → uib_of g ≡ Some p → Reference g p
unfolding uib_of
uib_reference g p q =
    choose (both (says (value_of g 1 1) UNOB) (both (says (value_of g 1 2) version4) (present (value_of g 2 1))))
    (λ t.
    reference_at g p (dialogue_is (place_of g 2 1) p (rw t at q))
    (both_parts (says (value_of g 1 2) version4) (present (value_of g 2 1)) (both_parts (says (value_of g 1 1) UNOB) (both (says (value_of g 1 2) version4) (present (value_of g 2 1))) t).1).1)
    (λ t. absurd (wrong≢dialogue p (rw t at q)))

missing≢message : (m : MessageType) (p : Part) → Err Missing ≡ heading m p → ⊥
missing≢message m p q = let z : ◌≡◌ {A = ℕ} 0 1 = cc in omega arith

unknown≢message : (m : MessageType) (p : Part) → Err Unknown ≡ heading m p → ⊥
unknown≢message m p q = let z : ◌≡◌ {A = ℕ} 0 1 = cc in omega arith

reference_in : Result Head HeadError → Part
reference_in (Ok h) = h.reference
reference_in (Err error) = record { from = 0; to = 0 }

message_place : (m n : MessageType) (a b : Part) → heading m a ≡ heading n b → a ≡ b
unfolding reference_in
message_place m n a b q = ap reference_in q

-- the place handed out is the one that was given
typed_place : (l : List ℕ) (a p : Part) (m : MessageType) → typed l a ≡ heading m p → a ≡ p
typed_place l a p m q =
    choose (says l SKDUPD) (λ k. message_place Skdupd m a p (rw k at q))
    (λ k.
    choose (says l TSDUPD) (λ t. message_place Tsdupd m a p (rw (k, t) at q))
    (λ t. absurd (unknown≢message m p (rw (k, t) at q))))

typed_12b_place : (l : List ℕ) (a p : Part) (m : MessageType) → typed_12b l a ≡ heading m p → a ≡ p
typed_12b_place l a p m q = choose (says l TSDUPD) (λ t. message_place Tsdupd12B m a p (rw t at q)) (λ t. absurd (unknown≢message m p (rw t at q)))

complete_reference : (a b d e r : List ℕ) → complete a b d e r ≡ true → present r ≡ true
complete_reference a b d e r q =
    let w = (both_parts (present a) (both (present b) (both (present d) (both (present e) (both (present r) true)))) q).1 in
    let x = (both_parts (present b) (both (present d) (both (present e) (both (present r) true))) w).1 in
    let y = (both_parts (present d) (both (present e) (both (present r) true)) x).1 in
    let z = (both_parts (present e) (both (present r) true) y).1 in
    (both_parts (present r) true z).0

-- a UIH that is good has every part
module _ (g : List ℕ) (m : MessageType) (p : Part) where
  good_head : uih_of g ≡ heading m p → (present (reference_of g) ≡ true) × (place_of g 2 1 ≡ p)
  unfolding uih_of
  good_head q =
      choose (complete (type_of g) (version_of g) (release_number_of g) (agency_of g) (reference_of g))
      (λ k. (
        complete_reference (type_of g) (version_of g) (release_number_of g) (agency_of g) (reference_of g) k,
        choose (directory (version_of g) (release_number_of g) (sub_function_of g) (agency_of g))
            (λ d. typed_place (type_of g) (place_of g 2 1) p m (rw (k, d) at q))
            (λ d.
            choose (directory_12b (version_of g) (release_number_of g) (sub_function_of g) (agency_of g))
            (λ e. typed_12b_place (type_of g) (place_of g 2 1) p m (rw (k, d, e) at q))
            (λ e. absurd (unknown≢message m p (rw (k, d, e) at q)))),
      ))
      (λ k. absurd (missing≢message m p (rw k at q)))

  pub uih_place : uih_of g ≡ heading m p → p ≡ place_of g 2 1
  uih_place q = sym (good_head q).1

  pub uih_reference : uih_of g ≡ heading m p → Reference g p
  uih_reference q = let w = good_head q in reference_at g p w.1 w.0
