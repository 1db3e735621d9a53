-- Where the day string of a good period stands: the parts before it have so many bytes that it may be the rest of the POP.
-- Assumes nothing.
use Rattle.std.proofs.Math.Path.{◌≡◌}
use Rattle.std.specs.Prelude.{refl, Bool, false, List, [], ◌∷◌, ◌++◌, ℕ, suc, ◌+◌, ◌-◌, ◌≤◌, ◌<◌, eqb, leb, length, get_or, drop, Err}
use Rattle.std.proofs.Common.{sym, ap, ◌∙◌, arith, length-drop, drop-drop, get_or-drop, take_all, eqb-true, ne_eqb, leb-true}
use Rattle.std.proofs.Math.Bool.{true}
use Rattle.std.proofs.Math.Decide.{dec_lt, ℕ_discrete}
use Rattle.laws.specs.Lists.{drop_here}
use Rattle.laws.specs.Text.{bytes}
use Rattle.laws.specs.Choice.{all, both_parts, choose, false≢true}
use Rattle.syntax.specs.Bytes.{releases}
use Rattle.syntax.specs.Few.{plain_length}
use Rattle.syntax.specs.Firsts.{first_take, first_length}
use Rattle.syntax.specs.Pieces.{first_piece, later_pieces, pieces, nth, components, part_of}
use Rattle.parts.specs.Places.{bytes_of}
use Rattle.parts.specs.Cuts.{later_split, later_none}
use Rattle.values.specs.Values.{same_text}
use Rattle.period.specs.declared.Form.{Form}
use Rattle.period.specs.declared.Form.TheVariants.{ByString}
use Rattle.period.specs.declared.Fault.TheVariants.{BadDates}
use Rattle.period.specs.Period.{qualifier, first_last, day_text, week_text, span_in, zero_or_one, day_string, fits_days, form_of, rest_good, period_of, period_from}
use Rattle.period.specs.Facts.{good_told, form_told}
use Rattle.joining.specs.Gathered.{all_drop}

-- a piece that ends before its text does ends at its mark
ends_at : (c : ℕ) (r : Bool) (l : List ℕ) → length (first_piece c r l) < length l → get_or l (length (first_piece c r l)) 0 ≡ c
unfolding first_piece
ends_at c r [] h = absurd (omega arith)
ends_at c true (b ∷ l) h = ends_at c false l (omega arith)
ends_at c false (b ∷ l) h =
    choose (eqb b c)
    (λ q. rw q (eqb-true b c q))
    (λ q. let k = rw q at h in rw q (ends_at c (releases false b) l (omega arith)))

-- where from an index on only characters of days stand, one of them stands at each index behind it
day_at : (l : List ℕ) (i j : ℕ) → all zero_or_one (drop i l) ≡ true → i ≤ j → j < length l → zero_or_one (get_or l j 0) ≡ true
day_at l i j p h k =
    let e : i + (j - i) ≡ j = omega arith in
    let q = sym (ap (λ (x : List ℕ). all zero_or_one x) (drop-drop (j - i) i l ∙ ap (λ (x : ℕ). drop x l) e)) ∙ all_drop zero_or_one (j - i) (drop i l) p in
    (both_parts (zero_or_one (get_or l j 0)) (all zero_or_one (drop (j + 1) l)) (sym (ap (all zero_or_one) (drop_here l j k)) ∙ q)).0

-- so no mark does, and a piece that reaches so far is the rest
no_mark : (c : ℕ) (l : List ℕ) (i j : ℕ) → zero_or_one c ≡ false → all zero_or_one (drop i l) ≡ true → j < length l → get_or l j 0 ≡ c → j < i
no_mark c l i j m p k e =
    elim (dec_lt j i) [
      | yes h ↦ h
      | no h ↦ absurd (false≢true (sym m ∙ sym (ap zero_or_one e) ∙ day_at l i j p (omega arith) k))
    ]

whole_first : (c : ℕ) (l : List ℕ) → length l ≤ length (first_piece c false l) → first_piece c false l ≡ l
whole_first c l h = first_take c false l ∙ take_all (length (first_piece c false l)) l h

whole_from : (c : ℕ) (l : List ℕ) (i : ℕ) → zero_or_one c ≡ false → all zero_or_one (drop i l) ≡ true → i ≤ length (first_piece c false l) → first_piece c false l ≡ l
whole_from c l i m p h =
    elim (dec_lt (length (first_piece c false l)) (length l)) [
      | yes k ↦ let n = no_mark c l i (length (first_piece c false l)) m p k (ends_at c false l k) in absurd (omega arith)
      | no k ↦ whole_first c l (omega arith)
    ]

-- a piece after the first that has bytes: the first ends before the text does, and the others are those of what follows it
pub there : (l : List ℕ) (k : ℕ) → 1 ≤ length (get_or (later_pieces 58 false l) k [])
    → (length (first_piece 58 false l) < length l) × (later_pieces 58 false l ≡ pieces 58 (drop (length (first_piece 58 false l) + 1) l))
there l k h =
    elim (dec_lt (length (first_piece 58 false l)) (length l)) [
      | yes u ↦ (u, later_split 58 false l refl u)
      | no u ↦
          let e = later_none 58 false l (omega arith) in
          let f : length (get_or (later_pieces 58 false l) k []) ≡ 0 = ap (λ (x : List (List ℕ)). length (get_or x k [])) e in
          absurd (omega arith)
    ]

-- a fourth component that has bytes stands behind the three before it
record Fourth (l : List ℕ) : Type 0 where
  pub start : ℕ
  pub is : nth (components l) 4 ≡ first_piece 58 false (drop start l)
  pub behind : length (nth (components l) 1) + length (nth (components l) 2) + 3 ≤ start
  pub inside : start ≤ length l
  pub mark : get_or l (start - 1) 0 ≡ 58

fourth : (l : List ℕ) → 1 ≤ length (nth (components l) 4) → Fourth l
fourth l h =
    let l₁ = drop (length (first_piece 58 false l) + 1) l in
    let l₂ = drop (length (first_piece 58 false l₁) + 1) l₁ in
    let l₃ = drop (length (first_piece 58 false l₂) + 1) l₂ in
    let t₁ = there l 2 h in
    let e₁ : get_or (later_pieces 58 false l) 2 [] ≡ get_or (later_pieces 58 false l₁) 1 [] = ap (λ (x : List (List ℕ)). get_or x 2 []) t₁.1 in
    let t₂ = there l₁ 1 (rw e₁ at h) in
    let e₂ : get_or (later_pieces 58 false l₁) 1 [] ≡ get_or (later_pieces 58 false l₂) 0 [] = ap (λ (x : List (List ℕ)). get_or x 1 []) t₂.1 in
    let t₃ = there l₂ 0 (rw (e₁, e₂) at h) in
    let e₃ : get_or (later_pieces 58 false l₂) 0 [] ≡ first_piece 58 false l₃ = ap (λ (x : List (List ℕ)). get_or x 0 []) t₃.1 in
    let s : get_or (later_pieces 58 false l) 0 [] ≡ first_piece 58 false l₁ = ap (λ (x : List (List ℕ)). get_or x 0 []) t₁.1 in
    let n₁ = length-drop (length (first_piece 58 false l) + 1) l in
    let n₂ = length-drop (length (first_piece 58 false l₁) + 1) l₁ in
    let n₃ = length-drop (length (first_piece 58 false l₂) + 1) l₂ in
    let m : length (get_or (later_pieces 58 false l) 0 []) ≡ length (first_piece 58 false l₁) = ap length s in
    let u₁ = t₁.0 in
    let u₂ = t₂.0 in
    let u₃ = t₃.0 in
    let a = length (first_piece 58 false l) + 1 in
    let b = length (first_piece 58 false l₁) + 1 in
    let c = length (first_piece 58 false l₂) + 1 in
    let k : a + (b + c) ≡ a + b + c = omega arith in
    let j : a + (b + length (first_piece 58 false l₂)) ≡ a + b + c - 1 = omega arith in
    record {
      start = a + b + c;
      is = e₁ ∙ e₂ ∙ e₃ ∙ ap (first_piece 58 false) (drop-drop c b l₁ ∙ drop-drop (b + c) a l ∙ ap (λ (x : ℕ). drop x l) k);
      behind = omega arith;
      inside = omega arith;
      mark =
          ap (λ (x : ℕ). get_or l x 0) (sym j) ∙ sym (get_or-drop a l (b + length (first_piece 58 false l₂)) 0) ∙ sym (get_or-drop b l₁ (length (first_piece 58 false l₂)) 0)
          ∙ ends_at 58 false l₂ u₃;
    }

-- what is known of the first element's parts, counted in bytes
pub record Dated (g : List ℕ) : Type 0 where
  pub qualified : 3 ≤ length (part_of g 1 1 1)
  pub dated : 21 ≤ length (part_of g 1 1 2)

-- a POP that begins with its tag and a mark
abbrev pub Tagged : List ℕ → Type 0
Tagged g = g ≡ bytes "POP+" ++ drop 4 g

pub tag_begins : (g : List ℕ) → 4 ≤ length g → get_or g 0 0 ≡ 80 → get_or g 1 0 ≡ 79 → get_or g 2 0 ≡ 80 → get_or g 3 0 ≡ 43 → Tagged g
tag_begins g h a b c d =
    drop_here g 0 (omega arith) ∙ ap (λ (l : List ℕ). get_or g 0 0 ∷ l) (drop_here g 1 (omega arith) ∙ ap (λ (l : List ℕ). get_or g 1 0 ∷ l) (drop_here g 2 (omega arith) ∙ ap (λ (l : List ℕ). get_or g 2 0 ∷ l) (drop_here g 3 (omega arith))))
    ∙ rw (a, b, c, d)

module _ (r : List ℕ) where
  -- the first occurrence of the first element behind a tag and its mark
  abbrev pub element : List ℕ
  element = first_piece 42 false (first_piece 43 false r)

  place_in : 3 ≤ length (nth (components element) 1) → 21 ≤ length (nth (components element) 2) → 1 ≤ length (nth (components element) 4)
      → all zero_or_one (drop 27 r) ≡ true → drop 27 r ≡ nth (components element) 4
  place_in q d t p =
      let o = fourth element t in
      let j = o.behind in
      let i = o.inside in
      let u = first_length 42 false (first_piece 43 false r) in
      let f = whole_from 43 r 27 refl p (omega arith) in
      let z : element ≡ r = whole_from 42 (first_piece 43 false r) 27 refl (ap (λ (x : List ℕ). all zero_or_one (drop 27 x)) f ∙ p) (omega arith) ∙ f in
      let e = ap (λ (x : List ℕ). all zero_or_one (drop 27 x)) z ∙ p in
      let n = no_mark 58 element 27 (o.start - 1) refl e (omega arith) o.mark in
      let k : o.start ≡ 27 = omega arith in
      sym (o.is ∙ whole_from 58 (drop o.start element) 0 refl (ap (λ (x : ℕ). all zero_or_one (drop x element)) k ∙ e) (omega arith) ∙ ap (λ (x : ℕ). drop x element) k ∙ ap (drop 27) z)

pub element_cut : (r : List ℕ) (m : ℕ) → part_of (bytes "POP+" ++ r) 1 1 m ≡ nth (components (element r)) m
unfolding part_of later_pieces
element_cut r m = refl

-- behind `POP+` and 27 bytes more only characters of days stand
pub record Bare (g : List ℕ) : Type 0 where
  pub tagged : Tagged g
  pub long : 31 ≤ length g
  pub days : all zero_or_one (drop 31 g) ≡ true

-- so they are the day string
pub string_place : (g : List ℕ) → Dated g → 1 ≤ length (day_text g) → Bare g → drop 31 g ≡ part_of g 1 1 4
string_place g s c o =
    let a = s.qualified in
    let b = s.dated in
    let d = plain_length false (part_of g 1 1 4) in
    let i : length (part_of g 1 1 1) ≡ length (nth (components (element (drop 4 g))) 1) = ap length (inside 1) in
    let j : length (part_of g 1 1 2) ≡ length (nth (components (element (drop 4 g))) 2) = ap length (inside 2) in
    let k : length (part_of g 1 1 4) ≡ length (nth (components (element (drop 4 g))) 4) = ap length (inside 4) in
    sym (drop-drop 27 4 g) ∙ place_in (drop 4 g) (omega arith) (omega arith) (omega arith) (ap (all zero_or_one) (drop-drop 27 4 g) ∙ o.days) ∙ sym (inside 4)
  where
    inside : (m : ℕ) → part_of g 1 1 m ≡ nth (components (element (drop 4 g))) m
    inside m = ap (λ (x : List ℕ). part_of x 1 1 m) o.tagged ∙ element_cut (drop 4 g) m

-- a good period with a day string
same_length : (a b : List ℕ) → same_text a b ≡ true → length a ≡ length b
unfolding same_text
same_length [] [] e = refl
same_length [] (y ∷ b) e = absurd (false≢true e)
same_length (x ∷ a) [] e = absurd (false≢true e)
same_length (x ∷ a) (y ∷ b) e = ap suc (same_length a b (both_parts (eqb x y) (same_text a b) e).1)

string_given : (n : ℕ) (d w : List ℕ) → form_of d w ≡ ByString → fits_days n d ≡ true → (1 ≤ length d) × (day_string n d ≡ true)
string_given n [] [] e p = let z : ◌≡◌ {A = ℕ} 0 1 = cc in absurd (omega arith)
string_given n [] (b ∷ w) e p = let z : ◌≡◌ {A = ℕ} 0 1 = cc in absurd (omega arith)
string_given n (b ∷ d) w e p = (omega arith, p)

-- a day string has at most a character for each day
string_few : (n : ℕ) (t : List ℕ) → day_string n t ≡ true → length t ≤ n
unfolding day_string
string_few n t e = leb-true (length t) n (both_parts (leb (length t) n) (all zero_or_one t) e).0

-- what is known of a POP with a day string of at most n characters
pub record Spoken (g : List ℕ) (n : ℕ) : Type 0 where
  pub dates : Dated g
  pub some : 1 ≤ length (day_text g)
  pub few : length (day_text g) ≤ n

module _ (g : List ℕ) (f n : ℕ) {form : Form} (e : period_of true g ≡ period_from f n form) where
  dates_length : length (first_last g) ≡ 21
  unfolding period_of span_in
  dates_length =
      elim (ℕ_discrete (length (first_last g)) 21) [
        | yes q ↦ q
        | no q ↦
            let w : Err BadDates ≡ period_from f n form = rw (ne_eqb (length (first_last g)) 21 q) at e in
            let z : ◌≡◌ {A = ℕ} 0 1 = cc in
            absurd (omega arith)
      ]

  qualifier_length : length (qualifier g) ≡ 3
  unfolding rest_good
  qualifier_length = same_length (qualifier g) (50 ∷ 55 ∷ 51 ∷ []) (both_parts _ _ (good_told true g f n form e).rest).0

  pub dated : Dated g
  dated =
      record {
        qualified = omega (arith, qualifier_length, plain_length false (part_of g 1 1 1));
        dated = omega (arith, dates_length, plain_length false (part_of g 1 1 2));
      }

  pub spoken : form ≡ ByString → Spoken g n
  spoken b =
      let o = form_told true n (day_text g) (week_text g) form (good_told true g f n form e).told in
      let s = string_given n (day_text g) (week_text g) (o.is ∙ b) o.fits in
      record { dates = dated; some = s.0; few = string_few n (day_text g) s.1 }

-- all of a list
pub bytes_all : (g : List ℕ) → bytes_of g (record { from = 0; to = length g }) ≡ g
bytes_all g =
    let e : length g - 0 ≡ length g = omega arith in
    rw e (take_all (length g) g (omega arith))
