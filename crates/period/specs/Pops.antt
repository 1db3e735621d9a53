-- Laws of the POP at an offset of an input. As most are written, `POP+273:first/last` and then a form of days or neither, it is read straight through:
-- what it says tells where it ends.
-- Assumes nothing.
use Rattle.std.specs.Prelude.{◌≡◌, Bool, true, false, ℕ, suc, ◌+◌, ◌-◌, ◌≤◌, ◌<◌, eqb, leb, ltb, length, get_or, take, Some, Option, None, Result, Ok, Err}
use Rattle.std.proofs.Math.Path.{refl, ap}
use Rattle.std.proofs.Common.{sym, subst, ◌∙◌, take-append-drop, length-append, drop-drop, get_or-drop}
use mathlib.Core.List.{List, [], ◌∷◌, ◌++◌, append_assoc}
use native.Mathlib.Omega.{arith}
use Rattle.std.proofs.Math.ListN.{drop}
use borrow.Author.Tests.{le-leb, leb-true, ltb-true, eqb-true}
use Rattle.laws.specs.Choice.{pick, both, all, both_parts, all_weaker, choose}
use Rattle.laws.specs.Lists.{between, drop_here, drop_past, length_between}
use Rattle.parts.specs.Places.{present}
use Rattle.syntax.specs.Pieces.{first_piece}
use Rattle.syntax.specs.Segment.{body_at, segment_at}
use Rattle.syntax.specs.Tags.{tag_ahead}
use Rattle.syntax.specs.declared.segment.ScanError.{ScanError}
use Rattle.syntax.specs.declared.segment.ScanError.TheVariants.{NotPermitted, Unended, Malformed}
use Rattle.free_texts.specs.Free.{numeric, no_quote, first_front}
use Rattle.free_texts.specs.Parts.{one_element, two_elements, with_string, without_string, dates_quiet, passed_cut}
use Rattle.free_texts.specs.Whole.{Parts, string_parts, week_parts, alone_parts}
use Rattle.period.specs.declared.Form.{Form}
use Rattle.period.specs.declared.Form.TheVariants.{Every, ByString, ByWeekdays}
use Rattle.period.specs.Period.{span_in, zero_or_one, day_string, rising_days, formed_of, period_of, pop_of, pop_at, period_from, pop_from}
use Rattle.period.specs.Facts.{span_told_lem}
use Rattle.period.specs.Written.{cut_good, Begins}
use Rattle.calendar.specs.Written.{span_of}
use Rattle.period.specs.declared.Period.{Period}
use Rattle.period.specs.declared.Pop.{Pop}
use Rattle.period.specs.declared.Fault.{Fault}

-- by what stands there
pub pop_is : (wish : Bool) (s : List ℕ) (at : ℕ) {x : Result ℕ ScanError} {p : Result Period Fault} → segment_at s at ≡ x → period_of wish (body_at s at) ≡ p → pop_at wish s at ≡ pop_of x p
unfolding pop_at
pop_is wish s at a b = rw (a, b)

-- and what is known where there is one
pub record PopKnown (wish : Bool) (s : List ℕ) (at e f n : ℕ) (form : Form) : Type 0 where
  pub segment : segment_at s at ≡ Ok e
  pub period : period_of wish (body_at s at) ≡ period_from f n form

pop_by_lem : (wish : Bool) (s : List ℕ) (at : ℕ) (x : Result ℕ ScanError) (p : Result Period Fault) {e f n : ℕ} {form : Form} → segment_at s at ≡ x → period_of wish (body_at s at) ≡ p → pop_of x p ≡ pop_from e f n form → PopKnown wish s at e f n form
pop_by_lem wish s at (Ok e) (Ok v) {e = e₂} {f} {n} {form} a b q =
    let s : ◌≡◌ {A = Pop} (record { end = e; period = v }) (record { end = e₂; period = record { days = span_of f n; form = form } }) = cc in
    record { segment = a ∙ ap (λ (x : Pop). Ok x.end) s; period = b ∙ ap (λ (x : Pop). Ok x.period) s }
pop_by_lem wish s at (Ok e) (Err x) a b q = let z : ◌≡◌ {A = ℕ} 0 1 = cc in absurd (omega arith)
pop_by_lem wish s at (Err error) p a b q = let z : ◌≡◌ {A = ℕ} 0 1 = cc in absurd (omega arith)

pub pop_told_lem : (wish : Bool) (s : List ℕ) (at : ℕ) {e f n : ℕ} {form : Form} → pop_at wish s at ≡ pop_from e f n form → PopKnown wish s at e f n form
unfolding pop_at
pop_told_lem wish s at q = pop_by_lem wish s at (segment_at s at) (period_of wish (body_at s at)) refl refl q

-- where a POP was found it is the one at the offset in the old reading; where none was found nothing is said
abbrev pub pop_told : List ℕ → ℕ → Option Pop → Type 0
pop_told s at (Some p) = Some p ≡ pop_at true s at
pop_told s at None = Unit

pub pop_known : (s : List ℕ) (at : ℕ) {r : Option Pop} {e f n : ℕ} {form : Form} → pop_told s at r → r ≡ pop_from e f n form → pop_from e f n form ≡ pop_at true s at
pop_known s at t q = subst (pop_told s at) q t

-- the characters of the forms
pub day_numeric : (b : ℕ) → zero_or_one b ≡ true → numeric b ≡ true
day_numeric b p =
    choose (eqb b 48) (λ q. rw (eqb-true b 48 q)) (λ q. rw (eqb-true b 49 (rw q at p)))

rising_numeric : (low : ℕ) (l : List ℕ) → 45 ≤ low → rising_days low l ≡ true → all numeric l ≡ true
unfolding rising_days
rising_numeric low [] h p = refl
rising_numeric low (b ∷ l) h p =
    let u = both_parts (both (ltb low b) (leb b 55)) (rising_days b l) p in
    let v = both_parts (ltb low b) (leb b 55) u.0 in
    let k = ltb-true low b v.0 in
    let m = leb-true b 55 v.1 in
    rw (le-leb 45 b (omega arith), le-leb b 57 (omega arith)) (rising_numeric b l (omega arith) u.1)

rising_few : (low : ℕ) (l : List ℕ) → low ≤ 55 → rising_days low l ≡ true → low + length l ≤ 55
unfolding rising_days
rising_few low [] h p = omega arith
rising_few low (b ∷ l) h p =
    let u = both_parts (both (ltb low b) (leb b 55)) (rising_days b l) p in
    let v = both_parts (ltb low b) (leb b 55) u.0 in
    let k = ltb-true low b v.0 in
    let m = rising_few b l (leb-true b 55 v.1) u.1 in
    omega arith

-- with how many weekdays that rise a text begins
unfoldable pub rising_run : ℕ → List ℕ → ℕ
rising_run before [] = 0
rising_run before (b ∷ l) = pick (both (ltb before b) (leb b 55)) (suc (rising_run b l)) 0

run_rises : (before : ℕ) (l : List ℕ) → rising_days before (take (rising_run before l) l) ≡ true
unfolding rising_run rising_days
run_rises before [] = refl
run_rises before (b ∷ l) =
    choose (both (ltb before b) (leb b 55)) (λ p. rw (p, p) (run_rises b l)) (λ p. rw p)

module _ (g : List ℕ) (i before : ℕ) where
  module _ (h : i < length g) where
    pub run_stops : both (ltb before (get_or g i 0)) (leb (get_or g i 0) 55) ≡ false → i ≡ i + rising_run before (drop i g)
    unfolding rising_run
    run_stops p = let e : i + 0 ≡ i = omega arith in rw (drop_here g i h, p, e)

    pub run_goes : both (ltb before (get_or g i 0)) (leb (get_or g i 0) 55) ≡ true → i + 1 + rising_run (get_or g i 0) (drop (i + 1) g) ≡ i + rising_run before (drop i g)
    unfolding rising_run
    run_goes p = rw (drop_here g i h, p) (omega arith)

  pub run_ends : length g ≤ i → i ≡ i + rising_run before (drop i g)
  unfolding rising_run
  run_ends h = let e : i + 0 ≡ i = omega arith in rw (drop_past g i h, e)

some_text : (l : List ℕ) → 1 ≤ length l → present l ≡ true
some_text [] h = absurd (omega arith)
some_text (b ∷ l) h = refl

module _ (n : ℕ) (l : List ℕ) (k : present l ≡ true) where
  told_weekdays : rising_days 48 l ≡ true → formed_of true n [] l ≡ Ok ByWeekdays
  unfolding formed_of
  told_weekdays r = rw (r, k)

  told_string : length l ≤ n → all zero_or_one l ≡ true → formed_of true n l [] ≡ Ok ByString
  unfolding formed_of rising_days day_string
  told_string e z = rw (k, le-leb (length l) n e, z)

told_every : (n : ℕ) → formed_of true n [] [] ≡ Ok Every
unfolding formed_of rising_days
told_every n = refl

-- what stands from an index on, cut before a later one
cut_at : (g : List ℕ) (a e : ℕ) → a ≤ e → e < length g → get_or g e 0 ≡ 39 → drop a g ≡ between g a e ++ (39 ∷ drop (e + 1) g)
cut_at g a e h k q =
    let z : a + (e - a) ≡ e = omega arith in
    sym (take-append-drop (e - a) (drop a g))
    ∙ ap (λ (x : List ℕ). between g a e ++ x) (drop-drop (e - a) a g ∙ rw z (drop_here g e k ∙ rw q))

-- a written POP with its terminator behind it, at an offset of a text
module _ (t : List ℕ) (at : ℕ) (g d s w rest : List ℕ) (p : Parts g d s w) (pd : all numeric d ≡ true) (ps : all numeric s ≡ true) (pw : all numeric w ≡ true) where
  pub whole_pop : drop at t ≡ g ++ (39 ∷ rest) → {f n : ℕ} {form : Form} → span_in d ≡ Some (span_of f n) → formed_of true n s w ≡ Ok form → pop_from (at + length g) f n form ≡ pop_at true t at
  whole_pop e a b =
      let v = p.whole t at rest e in
      sym (pop_is true t at v.1 (ap (period_of true) v.0 ∙ sym (cut_good g d s w p.cut pd ps pw true a b)))

-- weekdays, and a day string of at most n characters, behind the dates and before a terminator
pub record WeekIn (g : List ℕ) (e : ℕ) : Type 0 where
  pub is : e ≡ 30 + rising_run 48 (drop 30 g)
  pub some : 30 < e
  pub inside : e < length g
  pub quote : get_or g e 0 ≡ 39

pub record StringIn (g : List ℕ) (n e : ℕ) : Type 0 where
  pub some : 31 < e
  pub few : e ≤ 31 + n
  pub inside : e < length g
  pub colon : get_or g 29 0 ≡ 58
  pub second_colon : get_or g 30 0 ≡ 58
  pub quote : get_or g e 0 ≡ 39
  pub days : all zero_or_one (between g 31 e) ≡ true

-- what stands behind the dates tells the form and the end; g is what stands from an offset on
module _ (t : List ℕ) (at : ℕ) (g : List ℕ) (here : drop at t ≡ g) {f n : ℕ} (b : Begins g f n) where
  abbrev dates : List ℕ
  dates = b.dates

  behind : (x : List ℕ) → drop 29 g ≡ x → drop at t ≡ one_element (without_string (b.dates ++ x))
  behind x e = here ∙ b.split ∙ ap (λ (y : List ℕ). one_element (without_string (b.dates ++ y))) e

  few : length b.dates ≤ 512
  few = let l = b.counted in omega arith

  pub alone_pop : 29 < length g → get_or g 29 0 ≡ 39 → pop_from (at + 29) f n Every ≡ pop_at true t at
  alone_pop h q =
      ap (λ (k : ℕ). pop_from (at + k) f n Every) (sym (ap (λ (k : ℕ). suc (suc (suc (suc (suc (suc (suc (suc k)))))))) b.counted))
      ∙ whole_pop t at (one_element (without_string dates)) dates [] [] (drop 30 g) (alone_parts dates b.numerics few) b.numerics refl refl
      (behind (39 ∷ drop 30 g) (drop_here g 29 h ∙ rw q)) b.span (told_every n)

  pub weekdays_pop : (e : ℕ) → WeekIn g e → get_or g 29 0 ≡ 43 → pop_from (at + e) f n ByWeekdays ≡ pop_at true t at
  weekdays_pop e i p =
      let r = i.is in
      let h = i.some in
      let k = i.inside in
      let l = length_between g 30 e (omega arith) in
      let z : e - 30 ≡ rising_run 48 (drop 30 g) = omega arith in
      let u : rising_days 48 (between g 30 e) ≡ true = ap (λ (x : ℕ). rising_days 48 (take x (drop 30 g))) z ∙ run_rises 48 (drop 30 g) in
      let v = rising_numeric 48 (between g 30 e) (omega arith) u in
      let x = rising_few 48 (between g 30 e) (omega arith) u in
      let c = b.counted in
      let m = length-append dates (43 ∷ between g 30 e) in
      let y : e ≡ suc (suc (suc (suc (suc (suc (suc (suc (length (dates ++ (43 ∷ between g 30 e)))))))))) = omega arith in
      ap (λ (j : ℕ). pop_from (at + j) f n ByWeekdays) y
      ∙ whole_pop t at (two_elements (without_string dates) (between g 30 e)) dates [] (between g 30 e) (drop (e + 1) g)
      (week_parts dates (between g 30 e) b.numerics v few (omega arith)) b.numerics refl v
      (behind (43 ∷ (between g 30 e ++ (39 ∷ drop (e + 1) g))) (drop_here g 29 (omega arith) ∙ rw p (ap (λ (j : List ℕ). 43 ∷ j) (cut_at g 30 e (omega arith) k i.quote)))
      ∙ sym (ap (λ (j : List ℕ). 80 ∷ 79 ∷ 80 ∷ 43 ∷ 50 ∷ 55 ∷ 51 ∷ 58 ∷ j) (append_assoc dates (43 ∷ between g 30 e) (39 ∷ drop (e + 1) g))))
      b.span (told_weekdays n (between g 30 e) (some_text (between g 30 e) (omega arith)) u)

  pub string_pop : (e : ℕ) → StringIn g n e → pop_from (at + e) f n ByString ≡ pop_at true t at
  string_pop e i =
      let r = i.some in
      let o = i.few in
      let k = i.inside in
      let l = length_between g 31 e (omega arith) in
      let v = all_weaker zero_or_one numeric (between g 31 e) day_numeric i.days in
      let y = span_told_lem dates f n b.span in
      let few-days = y.not_long in
      let some-day = y.count in
      let c = b.counted in
      let m = length-append dates (58 ∷ 58 ∷ between g 31 e) in
      let x : e ≡ suc (suc (suc (suc (suc (suc (suc (suc (length (dates ++ (58 ∷ 58 ∷ between g 31 e)))))))))) = omega arith in
      ap (λ (j : ℕ). pop_from (at + j) f n ByString) x
      ∙ whole_pop t at (one_element (with_string dates (between g 31 e))) dates (between g 31 e) [] (drop (e + 1) g)
      (string_parts dates (between g 31 e) b.numerics v few (omega arith)) b.numerics v refl
      (behind (58 ∷ 58 ∷ (between g 31 e ++ (39 ∷ drop (e + 1) g)))
      (drop_here g 29 (omega arith)
      ∙ rw i.colon (ap (λ (j : List ℕ). 58 ∷ j) (drop_here g 30 (omega arith) ∙ rw i.second_colon (ap (λ (j : List ℕ). 58 ∷ j) (cut_at g 31 e (omega arith) k i.quote)))))
      ∙ sym (ap (λ (j : List ℕ). 80 ∷ 79 ∷ 80 ∷ 43 ∷ 50 ∷ 55 ∷ 51 ∷ 58 ∷ j) (append_assoc dates (58 ∷ 58 ∷ between g 31 e) (39 ∷ drop (e + 1) g))))
      b.span (told_string n (between g 31 e) (some_text (between g 31 e) (omega arith)) (omega arith) i.days)

  -- an empty second element, whatever follows it, where the end is known
  module _ (p : get_or g 29 0 ≡ 43) (q : get_or g 30 0 ≡ 43) (h : 30 < length g) where
    passed_body : body_at t at ≡ two_elements (without_string b.dates) (43 ∷ first_piece 39 false (drop 31 g))
    unfolding first_piece
    passed_body =
        ap (first_piece 39 false) (behind (43 ∷ 43 ∷ drop 31 g) (drop_here g 29 (omega arith) ∙ rw p (ap (λ (j : List ℕ). 43 ∷ j) (drop_here g 30 h ∙ rw q))))
        ∙ first_front 39 (one_element (without_string dates)) (43 ∷ 43 ∷ drop 31 g) (dates_quiet dates b.numerics 39 refl refl (no_quote dates b.numerics))

    pub passed_pop : (e : ℕ) → segment_at t at ≡ Ok e → pop_from e f n Every ≡ pop_at true t at
    passed_pop e w =
        sym (pop_is true t at w (ap (period_of true) passed_body
        ∙ sym (cut_good (two_elements (without_string dates) (43 ∷ first_piece 39 false (drop 31 g))) dates [] [] (passed_cut dates b.numerics (first_piece 39 false (drop 31 g))) b.numerics refl refl true b.span (told_every n))))

    -- it begins with a tag and a mark
    pub passed_tag : tag_ahead (drop at t) ≡ true
    unfolding tag_ahead
    passed_tag = ap tag_ahead (behind (drop 29 g) refl)

    pub passed_plus : get_or t (at + 3) 0 ≡ 43
    passed_plus = sym (get_or-drop at t 3 0) ∙ ap (λ (l : List ℕ). get_or l 3 0) (behind (drop 29 g) refl)
