-- A POP as it is written, wherever it stands with its terminator behind it, is one whole segment.
-- Assumes nothing.
use Rattle.std.specs.Prelude.{◌≡◌, Bool, true, false, List, [], ◌∷◌, ◌++◌, ℕ, ◌+◌, ◌≤◌, leb, drop, Ok}
use Rattle.std.proofs.Math.Path.{refl, sym, ap}
use Rattle.std.proofs.Common.{◌∙◌, arith, length-drop}
use Rattle.std.proofs.Math.ListN.{length, length-append}
use borrow.Author.Tests.{le-leb, lt-ltb}
use Rattle.laws.specs.Choice.{both, all, all_append}
use Rattle.syntax.specs.Bytes.{permitted_of, plain_on}
use Rattle.syntax.specs.Pieces.{first_piece, elements, occurrences, components}
use Rattle.syntax.specs.Segment.{body_at, tagged, component_fits, occurrence_fits, element_fits, within_limits, well_formed, scan_of, segment_at}
use Rattle.free_texts.specs.Free.{quiet, first_cut, plain_all, numeric, no_quote, no_release, all_permitted}
use Rattle.free_texts.specs.Parts.{code, one_element, two_elements, with_string, without_string, Cut, string_quiet, string_components, string_elements, string_once, string_cut, dates_quiet, week_components, week_elements, week_once, named_once, named_components, week_cut, alone_elements, alone_cut}

-- where a text goes on from an offset with these bytes and a terminator, they are the body of a whole segment
abbrev pub Stands : List ℕ → Type 0
Stands g = (t : List ℕ) (at : ℕ) (rest : List ℕ) → drop at t ≡ g ++ (39 ∷ rest) → (body_at t at ≡ g) × (segment_at t at ≡ Ok (at + length g))

-- and so they are by themselves
pub stands_alone : {g : List ℕ} → Stands g → (body_at (g ++ (39 ∷ [])) 0 ≡ g) × (segment_at (g ++ (39 ∷ [])) 0 ≡ Ok (length g))
stands_alone {g} s =
    let z : 0 + length g ≡ length g = omega arith in
    let p = s (g ++ (39 ∷ [])) 0 [] refl in
    (p.0, p.1 ∙ ap Ok z)

-- a segment cut into its elements is whole where each of them is within the limits
module _ (g : List ℕ) (es : List (List ℕ)) (tag : first_piece 43 false g ≡ 80 ∷ 79 ∷ 80 ∷ []) (cut : elements g ≡ es) where
  formed : leb (length es) 64 ≡ true → all element_fits es ≡ true → well_formed g ≡ true
  unfolding well_formed tagged within_limits
  formed h f = rw (tag, cut, h, f)

  pub whole_segment : leb (length es) 64 ≡ true → all element_fits es ≡ true → all permitted_of g ≡ true → all (quiet 39) g ≡ true → Stands g
  unfolding scan_of
  whole_segment h f p q t at rest e =
      let b = ap (first_piece 39 false) e ∙ first_cut 39 g rest q in
      let l = sym (length-drop at t) ∙ ap length e ∙ length-append g (39 ∷ rest) in
      (b, ap (scan_of (length t) at) b ∙ rw (p, formed h f, lt-ltb (at + length g) (length t) (omega arith)))

-- an element with one occurrence, and its components
component_fits_lem : (p : List ℕ) → all numeric p ≡ true → length p ≤ 512 → component_fits p ≡ true
unfolding component_fits
component_fits_lem p n h = rw (plain_all p (no_release p n)) (le-leb (length p) 512 h)

occurrence_fits_lem : (e : List ℕ) (cs : List (List ℕ)) → components e ≡ cs → leb (length cs) 32 ≡ true → all component_fits cs ≡ true → occurrence_fits e ≡ true
unfolding occurrence_fits
occurrence_fits_lem e cs c h f = ap (λ (x : List (List ℕ)). both (leb (length x) 32) (all component_fits x)) c ∙ rw (h, f)

element_fits_lem : (e : List ℕ) (cs : List (List ℕ)) → occurrences e ≡ e ∷ [] → components e ≡ cs → leb (length cs) 32 ≡ true → all component_fits cs ≡ true → element_fits e ≡ true
unfolding element_fits
element_fits_lem e cs o c h f =
    ap (λ (x : List (List ℕ)). both (leb (length x) 99) (all occurrence_fits x)) o
    ∙ ap (λ (x : Bool). both x true) (occurrence_fits_lem e cs c h f)

-- what is known of a written POP: that it is a whole segment, and its parts
pub record Parts (g d s w : List ℕ) : Type 0 where
  pub whole : Stands g
  pub cut : Cut g d s w

code_fits : component_fits code ≡ true
unfolding component_fits plain_on
code_fits = refl

none_fits : component_fits [] ≡ true
unfolding component_fits plain_on
none_fits = refl

module _ (d s : List ℕ) (pd : all numeric d ≡ true) (ps : all numeric s ≡ true) (ld : length d ≤ 512) (ls : length s ≤ 512) where
  abbrev e₁ : List ℕ
  e₁ = with_string d s

  string_permitted : all permitted_of (one_element e₁) ≡ true
  unfolding permitted_of
  string_permitted =
      all_append permitted_of (80 ∷ 79 ∷ 80 ∷ 43 ∷ 50 ∷ 55 ∷ 51 ∷ 58 ∷ []) (d ++ (58 ∷ 58 ∷ s)) refl
      (all_append permitted_of d (58 ∷ 58 ∷ s) (all_permitted d pd) (all_append permitted_of (58 ∷ 58 ∷ []) s refl (all_permitted s ps)))

  pub string_parts : Parts (one_element e₁) d s []
  string_parts =
      let f : all component_fits (code ∷ d ∷ [] ∷ s ∷ []) ≡ true = rw (code_fits, component_fits_lem d pd ld, none_fits, component_fits_lem s ps ls) in
      let q : all (quiet 39) (one_element e₁) ≡ true = string_quiet d s pd ps 39 refl refl (no_quote d pd) (no_quote s ps) in
      let w = whole_segment (one_element e₁) (e₁ ∷ []) (first_cut 43 (80 ∷ 79 ∷ 80 ∷ []) e₁ refl) (string_elements d s pd ps) refl (rw (element_fits_lem e₁ (code ∷ d ∷ [] ∷ s ∷ []) (string_once d s pd ps) (string_components d s pd ps) refl f)) string_permitted q in
      record { whole = w; cut = string_cut d s pd ps }

module _ (d w : List ℕ) (pd : all numeric d ≡ true) (pw : all numeric w ≡ true) (ld : length d ≤ 512) (lw : length w ≤ 512) where
  abbrev e₂ : List ℕ
  e₂ = without_string d

  week_permitted : all permitted_of (two_elements e₂ w) ≡ true
  unfolding permitted_of
  week_permitted =
      all_append permitted_of (80 ∷ 79 ∷ 80 ∷ 43 ∷ 50 ∷ 55 ∷ 51 ∷ 58 ∷ []) (d ++ (43 ∷ w)) refl
      (all_append permitted_of d (43 ∷ w) (all_permitted d pd) (all_append permitted_of (43 ∷ []) w refl (all_permitted w pw)))

  pub week_parts : Parts (two_elements e₂ w) d [] w
  week_parts =
      let f : all component_fits (code ∷ d ∷ []) ≡ true = rw (code_fits, component_fits_lem d pd ld) in
      let k : all component_fits (w ∷ []) ≡ true = rw (component_fits_lem w pw lw) in
      let q : all (quiet 39) (two_elements e₂ w) ≡ true = all_append (quiet 39) e₂ (43 ∷ w) (dates_quiet d pd 39 refl refl (no_quote d pd)) (all_append (quiet 39) (43 ∷ []) w refl (no_quote w pw)) in
      let v =
      whole_segment (two_elements e₂ w) (e₂ ∷ w ∷ []) (first_cut 43 (80 ∷ 79 ∷ 80 ∷ []) (e₂ ++ (43 ∷ w)) refl) (week_elements d pd w pw) refl
      (rw (element_fits_lem e₂ (code ∷ d ∷ []) (week_once d pd) (week_components d pd) refl f, element_fits_lem w (w ∷ []) (named_once d pd w pw) (named_components d pd w pw) refl k))
      week_permitted q in
      record { whole = v; cut = week_cut d pd w pw }

module _ (d : List ℕ) (pd : all numeric d ≡ true) (ld : length d ≤ 512) where
  abbrev e₃ : List ℕ
  e₃ = without_string d

  alone_permitted : all permitted_of (one_element e₃) ≡ true
  unfolding permitted_of
  alone_permitted = all_append permitted_of (80 ∷ 79 ∷ 80 ∷ 43 ∷ 50 ∷ 55 ∷ 51 ∷ 58 ∷ []) d refl (all_permitted d pd)

  pub alone_parts : Parts (one_element e₃) d [] []
  alone_parts =
      let f : all component_fits (code ∷ d ∷ []) ≡ true = rw (code_fits, component_fits_lem d pd ld) in
      let q : all (quiet 39) (one_element e₃) ≡ true = dates_quiet d pd 39 refl refl (no_quote d pd) in
      let v =
      whole_segment (one_element e₃) (e₃ ∷ []) (first_cut 43 (80 ∷ 79 ∷ 80 ∷ []) e₃ refl) (alone_elements d pd) refl
      (rw (element_fits_lem e₃ (code ∷ d ∷ []) (week_once d pd) (week_components d pd) refl f))
      alone_permitted q in
      record { whole = v; cut = alone_cut d pd }
