-- The parts of a POP as it is written: `POP+273:`, the dates, and a day string, weekdays or neither.
-- Assumes nothing.
use Rattle.std.specs.Prelude.{◌≡◌, refl, true, false, List, [], ◌∷◌, ◌++◌, ℕ, ltb, length}
use Rattle.std.proofs.Common.{ap, ◌∙◌}
use Rattle.laws.specs.Choice.{all, all_append}
use Rattle.laws.specs.Text.{bytes}
use Rattle.syntax.specs.Pieces.{first_piece, later_pieces, pieces, nth, elements, occurrences, components, part_of}
use Rattle.parts.specs.Places.{repeats}
use Rattle.free_texts.specs.Free.{quiet, later_cut, one_piece, more_pieces, numeric, no_plus, no_star, no_colon}

abbrev pub code : List ℕ
code = bytes "273"

-- an element; with a second element
abbrev pub one_element : List ℕ → List ℕ
one_element e = bytes "POP+" ++ e

abbrev pub two_elements : List ℕ → List ℕ → List ℕ
two_elements e w = bytes "POP+" ++ (e ++ (bytes "+" ++ w))

-- the first element with a day string, and without
abbrev pub with_string : List ℕ → List ℕ → List ℕ
with_string d s = bytes "273:" ++ (d ++ (bytes "::" ++ s))

abbrev pub without_string : List ℕ → List ℕ
without_string d = bytes "273:" ++ d

-- a part of an element that is found so
part_found : (g e : List ℕ) (es cs : List (List ℕ)) (i : ℕ) → elements g ≡ es → nth es i ≡ e → occurrences e ≡ e ∷ [] → components e ≡ cs
    → (c : ℕ) → part_of g i 1 c ≡ nth cs c
unfolding part_of
part_found g e es cs i a b o k c =
    ap (λ (x : List (List ℕ)). nth (components (nth (occurrences (nth x i)) 1)) c) a
    ∙ ap (λ (x : List ℕ). nth (components (nth (occurrences x) 1)) c) b
    ∙ ap (λ (x : List (List ℕ)). nth (components (nth x 1)) c) o
    ∙ ap (λ (x : List (List ℕ)). nth x c) k

not_repeated : (g e : List ℕ) (es : List (List ℕ)) (i : ℕ) → elements g ≡ es → nth es i ≡ e → occurrences e ≡ e ∷ [] → repeats g i ≡ false
not_repeated g e es i a b o =
    ap (λ (x : List (List ℕ)). ltb 1 (length (occurrences (nth x i)))) a
    ∙ ap (λ (x : List ℕ). ltb 1 (length (occurrences x))) b
    ∙ ap (λ (x : List (List ℕ)). ltb 1 (length x)) o

-- what is not there is one empty piece
pub empty_cut : (c : ℕ) → pieces c [] ≡ [] ∷ []
unfolding first_piece later_pieces
empty_cut c = refl

-- what is known of a written POP: its dates, its day string and its weekdays, and that none of them is repeated
pub record Cut (g d s w : List ℕ) : Type 0 where
  pub qualifier_is : part_of g 1 1 1 ≡ code
  pub dates_are : part_of g 1 1 2 ≡ d
  pub string_is : part_of g 1 1 4 ≡ s
  pub weekdays_are : part_of g 2 1 1 ≡ w
  pub first_once : repeats g 1 ≡ false
  pub second_once : repeats g 2 ≡ false

module _ (d s : List ℕ) (pd : all numeric d ≡ true) (ps : all numeric s ≡ true) where
  abbrev e₁ : List ℕ
  e₁ = with_string d s

  pub string_quiet : (c : ℕ) → all (quiet c) code ≡ true → all (quiet c) (58 ∷ []) ≡ true → all (quiet c) d ≡ true → all (quiet c) s ≡ true → all (quiet c) (with_string d s) ≡ true
  string_quiet c a b p q =
      all_append (quiet c) code (58 ∷ (d ++ (58 ∷ 58 ∷ s))) a
      (all_append (quiet c) (58 ∷ []) (d ++ (58 ∷ 58 ∷ s)) b
      (all_append (quiet c) d (58 ∷ 58 ∷ s) p (all_append (quiet c) (58 ∷ []) (58 ∷ s) b (all_append (quiet c) (58 ∷ []) s b q))))

  pub string_components : components (with_string d s) ≡ code ∷ d ∷ [] ∷ s ∷ []
  string_components =
      more_pieces 58 code (d ++ (58 ∷ 58 ∷ s)) refl refl
      ∙ ap (λ (x : List (List ℕ)). code ∷ x) (more_pieces 58 d (58 ∷ s) refl (no_colon d pd))
      ∙ ap (λ (x : List (List ℕ)). code ∷ d ∷ x) (more_pieces 58 [] s refl refl)
      ∙ ap (λ (x : List (List ℕ)). code ∷ d ∷ [] ∷ x) (one_piece 58 s (no_colon s ps))

  pub string_elements : elements (one_element (with_string d s)) ≡ with_string d s ∷ []
  string_elements = later_cut 43 (80 ∷ 79 ∷ 80 ∷ []) e₁ refl refl ∙ one_piece 43 e₁ (string_quiet 43 refl refl (no_plus d pd) (no_plus s ps))

  pub string_once : occurrences (with_string d s) ≡ with_string d s ∷ []
  string_once = one_piece 42 e₁ (string_quiet 42 refl refl (no_star d pd) (no_star s ps))

  pub string_cut : Cut (one_element (with_string d s)) d s []
  string_cut =
      let part = part_found (one_element e₁) e₁ (e₁ ∷ []) (code ∷ d ∷ [] ∷ s ∷ []) 1 string_elements refl string_once string_components in
      record {
        qualifier_is = part 1;
        dates_are = part 2;
        string_is = part 4;
        weekdays_are = part_found (one_element e₁) [] (e₁ ∷ []) ([] ∷ []) 2 string_elements refl (empty_cut 42) (empty_cut 58) 1;
        first_once = not_repeated (one_element e₁) e₁ (e₁ ∷ []) 1 string_elements refl string_once;
        second_once = not_repeated (one_element e₁) [] (e₁ ∷ []) 2 string_elements refl (empty_cut 42);
      }

-- without a day string, whatever the elements after the first
module _ (d : List ℕ) (pd : all numeric d ≡ true) where
  abbrev e₂ : List ℕ
  e₂ = without_string d

  pub dates_quiet : (c : ℕ) → all (quiet c) code ≡ true → all (quiet c) (58 ∷ []) ≡ true → all (quiet c) d ≡ true → all (quiet c) (without_string d) ≡ true
  dates_quiet c a b p = all_append (quiet c) code (58 ∷ d) a (all_append (quiet c) (58 ∷ []) d b p)

  pub week_components : components (without_string d) ≡ code ∷ d ∷ []
  week_components =
      more_pieces 58 code d refl refl ∙ ap (λ (x : List (List ℕ)). code ∷ x) (one_piece 58 d (no_colon d pd))

  pub week_once : occurrences (without_string d) ≡ without_string d ∷ []
  week_once = one_piece 42 e₂ (dates_quiet 42 refl refl (no_star d pd))

  -- two elements or more: the second is w
  further : (g w : List ℕ) (more : List (List ℕ)) → elements g ≡ e₂ ∷ w ∷ more → occurrences w ≡ w ∷ [] → components w ≡ w ∷ [] → Cut g d [] w
  further g w more e o k =
      let part = part_found g e₂ (e₂ ∷ w ∷ more) (code ∷ d ∷ []) 1 e refl week_once week_components in
      record {
        qualifier_is = part 1;
        dates_are = part 2;
        string_is = part 4;
        weekdays_are = part_found g w (e₂ ∷ w ∷ more) (w ∷ []) 2 e refl o k 1;
        first_once = not_repeated g e₂ (e₂ ∷ w ∷ more) 1 e refl week_once;
        second_once = not_repeated g w (e₂ ∷ w ∷ more) 2 e refl o;
      }

  two_elements_lem : (w : List ℕ) → elements (two_elements (without_string d) w) ≡ without_string d ∷ pieces 43 w
  two_elements_lem w =
      later_cut 43 (80 ∷ 79 ∷ 80 ∷ []) (e₂ ++ (43 ∷ w)) refl refl
      ∙ more_pieces 43 e₂ w refl (dates_quiet 43 refl refl (no_plus d pd))

  module _ (w : List ℕ) (pw : all numeric w ≡ true) where
    pub week_elements : elements (two_elements (without_string d) w) ≡ without_string d ∷ w ∷ []
    week_elements = two_elements_lem w ∙ ap (λ (x : List (List ℕ)). e₂ ∷ x) (one_piece 43 w (no_plus w pw))

    pub named_once : occurrences w ≡ w ∷ []
    named_once = one_piece 42 w (no_star w pw)

    pub named_components : components w ≡ w ∷ []
    named_components = one_piece 58 w (no_colon w pw)

    pub week_cut : Cut (two_elements (without_string d) w) d [] w
    week_cut = further (two_elements e₂ w) w [] week_elements named_once named_components

  -- an empty second element, whatever follows it
  pub passed_cut : (rest : List ℕ) → Cut (two_elements (without_string d) (43 ∷ rest)) d [] []
  passed_cut rest =
      further (two_elements e₂ (43 ∷ rest)) [] (pieces 43 rest)
      (two_elements_lem (43 ∷ rest) ∙ ap (λ (x : List (List ℕ)). e₂ ∷ x) (more_pieces 43 [] rest refl refl))
      (empty_cut 42) (empty_cut 58)

  -- the dates and nothing more
  pub alone_elements : elements (one_element (without_string d)) ≡ without_string d ∷ []
  alone_elements = later_cut 43 (80 ∷ 79 ∷ 80 ∷ []) e₂ refl refl ∙ one_piece 43 e₂ (dates_quiet 43 refl refl (no_plus d pd))

  pub alone_cut : Cut (one_element (without_string d)) d [] []
  alone_cut =
      let part = part_found (one_element e₂) e₂ (e₂ ∷ []) (code ∷ d ∷ []) 1 alone_elements refl week_once week_components in
      record {
        qualifier_is = part 1;
        dates_are = part 2;
        string_is = part 4;
        weekdays_are = part_found (one_element e₂) [] (e₂ ∷ []) ([] ∷ []) 2 alone_elements refl (empty_cut 42) (empty_cut 58) 1;
        first_once = not_repeated (one_element e₂) e₂ (e₂ ∷ []) 1 alone_elements refl week_once;
        second_once = not_repeated (one_element e₂) [] (e₂ ∷ []) 2 alone_elements refl (empty_cut 42);
      }
