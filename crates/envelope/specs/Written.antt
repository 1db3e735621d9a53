-- A UIB and a UIH as they are mostly written, known by their first bytes.
-- Assumes nothing.
use Rattle.std.specs.Prelude.{ℕ, ◌+◌, ◌≤◌, ◌<◌, ◌≡◌, refl, Bool, true, false, List, [], ◌∷◌, ◌++◌, eqb, leb, length, drop, get_or, Option, Some, None, Result, Err}
use Rattle.std.proofs.Common.{sym, subst, ◌∙◌, arith}
use Rattle.std.proofs.Math.Path.{ap}
use borrow.Author.Tests.{eqb-true, eq-eqb, ne_eqb}
use Rattle.laws.specs.Choice.{pick, both, both_true, both_false, both_parts, false≢true, choose}
use Rattle.laws.specs.Lists.{drop_here, drop_past}
use Rattle.laws.specs.Text.{bytes}
use Rattle.syntax.specs.Bytes.{plain_on}
use Rattle.syntax.specs.Pieces.{first_piece, later_pieces, part_of}
use Rattle.values.specs.Values.{same_text}
use Rattle.parts.specs.declared.Part.{Part}
use Rattle.parts.specs.Places.{part_at, element_at, occurrence_at, component_at, span_of, present}
use Rattle.parts.specs.Next.{behind_component}
use Rattle.messages.specs.declared.MessageType.{MessageType}
use Rattle.messages.specs.declared.MessageType.TheVariants.{Skdupd, Tsdupd, Tsdupd12B}
use Rattle.envelope.specs.Laws.{whole_bytes, between_end, present_place}
use Rattle.envelope.specs.Envelope.{place_of, reference_of, uib_of, uih_of, heading}
use Rattle.envelope.specs.declared.Head.{Head}
use Rattle.envelope.specs.declared.HeadError.{HeadError}
use Rattle.envelope.specs.declared.HeadError.TheVariants.{Missing}

-- whether a text begins with another
unfoldable pub begins_with : List ℕ → List ℕ → Bool
begins_with g [] = true
begins_with [] (t ∷ text) = false
begins_with (b ∷ g) (t ∷ text) = both (eqb b t) (begins_with g text)

pub begins_split : (g text : List ℕ) → begins_with g text ≡ true → g ≡ text ++ drop (length text) g
unfolding begins_with
begins_split g [] q = refl
begins_split [] (t ∷ text) q = absurd (false≢true q)
begins_split (b ∷ g) (t ∷ text) q =
    let w = both_parts (eqb b t) (begins_with g text) q in
    rw (eqb-true b t w.0) (ap (λ (x : List ℕ). t ∷ x) (begins_split g text w.1))

-- a UIB and the types of a UIH, as they are mostly written
abbrev pub head_unob : List ℕ
head_unob = bytes "UIB+UNOB:4+"

abbrev pub head_skdupd : List ℕ
head_skdupd = bytes "UIH+SKDUPD:D:04A::UN+"

abbrev pub head_tsdupd : List ℕ
head_tsdupd = bytes "UIH+TSDUPD:D:04A::UN+"

abbrev pub head_tsdupd_12b : List ℕ
head_tsdupd_12b = bytes "UIH+TSDUPD:D:12B::UN+"

-- From the `+` at the end of such a text on, the second element is the first: a reference's place is found without passing what is known.
unfoldable pub besides : ℕ → List ℕ → Part
besides at g = part_at g (record { from = at; to = length g }) 1 1 1

-- what a segment says of which all but a reference is known to be good
abbrev pub found_of : {A : Type 0} → A → (Part → A) → Part → A
found_of missing found p = pick (leb p.to p.from) missing (found p)

abbrev pub opened_of : List ℕ → Option Part
opened_of g = found_of None Some (besides 10 g)

abbrev pub written_of : MessageType → List ℕ → Result Head HeadError
written_of message g = found_of (Err Missing) (heading message) (besides 20 g)

module _ {A : Type 0} (missing : A) (found : Part → A) {p q : Part} (e : p ≡ q) where
  pub found_absent : leb p.to p.from ≡ true → missing ≡ found_of missing found q
  found_absent t = rw (sym (ap (λ (x : Part). leb x.to x.from) e) ∙ t)

  pub found_good : leb p.to p.from ≡ false → found p ≡ found_of missing found q
  found_good t = rw (sym (ap (λ (x : Part). leb x.to x.from) e) ∙ t) (ap found e)

-- what a text must be for that: where the second element stands behind it, and that nothing but the reference can be wrong
record Known {A : Type 0} (text : List ℕ) (at : ℕ) (of : List ℕ → A) (missing : A) (found : Part → A) : Type 0 where
  pub element : (rest : List ℕ) → element_at (text ++ rest) (record { from = at; to = length (text ++ rest) }) 1 ≡ element_at (text ++ rest) (record { from = 0; to = length (text ++ rest) }) 2
  pub good : (rest : List ℕ) → of (text ++ rest) ≡ pick (present (reference_of (text ++ rest))) (found (place_of (text ++ rest) 2 1)) missing

opening : Known head_unob 10 uib_of None Some
unfolding uib_of part_of first_piece later_pieces plain_on same_text element_at span_of
opening =
    record {
      element = λ rest. rw (between_end (head_unob ++ rest) 10, whole_bytes (head_unob ++ rest));
      good = λ rest. refl;
    }

skdupd : Known head_skdupd 20 uih_of (Err Missing) (heading Skdupd)
unfolding uih_of part_of first_piece later_pieces plain_on same_text element_at span_of
skdupd =
    record {
      element = λ rest. rw (between_end (head_skdupd ++ rest) 20, whole_bytes (head_skdupd ++ rest));
      good = λ rest. rw (both_true (present (reference_of (head_skdupd ++ rest))));
    }

tsdupd : Known head_tsdupd 20 uih_of (Err Missing) (heading Tsdupd)
unfolding uih_of part_of first_piece later_pieces plain_on same_text element_at span_of
tsdupd =
    record {
      element = λ rest. rw (between_end (head_tsdupd ++ rest) 20, whole_bytes (head_tsdupd ++ rest));
      good = λ rest. rw (both_true (present (reference_of (head_tsdupd ++ rest))));
    }

tsdupd_12b : Known head_tsdupd_12b 20 uih_of (Err Missing) (heading Tsdupd12B)
unfolding uih_of part_of first_piece later_pieces plain_on same_text element_at span_of
tsdupd_12b =
    record {
      element = λ rest. rw (between_end (head_tsdupd_12b ++ rest) 20, whole_bytes (head_tsdupd_12b ++ rest));
      good = λ rest. rw (both_true (present (reference_of (head_tsdupd_12b ++ rest))));
    }

module _ {A : Type 0} (text : List ℕ) (at : ℕ) (of : List ℕ → A) (missing : A) (found : Part → A) (k : Known text at of missing found) where
  behind : (rest : List ℕ) → besides at (text ++ rest) ≡ place_of (text ++ rest) 2 1
  unfolding besides
  behind rest = ap (λ (x : Part). component_at (text ++ rest) (occurrence_at (text ++ rest) x 1) 1) (k.element rest)

  written_rest : (rest : List ℕ) → found_of missing found (besides at (text ++ rest)) ≡ of (text ++ rest)
  written_rest rest =
      rw (behind rest, k.good rest, present_place (text ++ rest) 2 1)
      (choose (leb (place_of (text ++ rest) 2 1).to (place_of (text ++ rest) 2 1).from) (λ q. rw q) (λ q. rw q))

  written : (g : List ℕ) → begins_with g text ≡ true → found_of missing found (besides at g) ≡ of g
  written g q =
      subst (λ (x : List ℕ). found_of missing found (besides at x) ≡ of x) (sym (begins_split g text q)) (written_rest (drop (length text) g))

-- a trailer's tag, known by its first bytes
record Tagged (text : List ℕ) : Type 0 where
  pub first : (rest : List ℕ) → element_at (text ++ rest) (record { from = 3; to = length (text ++ rest) }) 1 ≡ element_at (text ++ rest) (record { from = 0; to = length (text ++ rest) }) 1

uit : Tagged (bytes "UIT+")
unfolding first_piece later_pieces element_at span_of
uit = record { first = λ rest. rw (between_end (bytes "UIT+" ++ rest) 3, whole_bytes (bytes "UIT+" ++ rest)) }

uiz : Tagged (bytes "UIZ+")
unfolding first_piece later_pieces element_at span_of
uiz = record { first = λ rest. rw (between_end (bytes "UIZ+" ++ rest) 3, whole_bytes (bytes "UIZ+" ++ rest)) }

tagged : (text : List ℕ) → Tagged text → (g : List ℕ) → begins_with g text ≡ true → besides 3 g ≡ place_of g 1 1
unfolding besides
tagged text k g q =
    subst (λ (x : List ℕ). besides 3 x ≡ place_of x 1 1) (sym (begins_split g text q))
    (let x = text ++ drop (length text) g in ap (λ (e : Part). component_at x (occurrence_at x e 1) 1) (k.first (drop (length text) g)))

pub uit_tag : (g : List ℕ) → begins_with g (bytes "UIT+") ≡ true → besides 3 g ≡ place_of g 1 1
uit_tag = tagged (bytes "UIT+") uit

pub uiz_tag : (g : List ℕ) → begins_with g (bytes "UIZ+") ≡ true → besides 3 g ≡ place_of g 1 1
uiz_tag = tagged (bytes "UIZ+") uiz

-- the second element from where the first component of the first ends
pub second_place : (g : List ℕ) {p q : Part} → p ≡ place_of g 1 1 → p.from < p.to → q ≡ besides p.to g → q ≡ place_of g 2 1
unfolding besides
second_place g {p} e h r = r ∙ behind_component g 0 (length g) p e h

pub opening_head : (g : List ℕ) → begins_with g head_unob ≡ true → opened_of g ≡ uib_of g
opening_head g q = written head_unob 10 uib_of None Some opening g q

pub skdupd_head : (g : List ℕ) → begins_with g head_skdupd ≡ true → written_of Skdupd g ≡ uih_of g
skdupd_head g q = written head_skdupd 20 uih_of (Err Missing) (heading Skdupd) skdupd g q

pub tsdupd_head : (g : List ℕ) → begins_with g head_tsdupd ≡ true → written_of Tsdupd g ≡ uih_of g
tsdupd_head g q = written head_tsdupd 20 uih_of (Err Missing) (heading Tsdupd) tsdupd g q

pub tsdupd_12b_head : (g : List ℕ) → begins_with g head_tsdupd_12b ≡ true → written_of Tsdupd12B g ≡ uih_of g
tsdupd_12b_head g q = written head_tsdupd_12b 20 uih_of (Err Missing) (heading Tsdupd12B) tsdupd_12b g q
