-- The written forms put into the lent bytes part by part, and what the writers answer.
-- Assumes nothing.
use Rattle.std.specs.Prelude.{◌≡◌, Bool, List, ◌++◌, ℕ, ◌+◌, ◌<◌, ◌≤◌, Some, None}
use Rattle.std.proofs.Math.Path.{refl, sym, ap}
use Rattle.std.proofs.Common.{◌∙◌, arith, zero-add, length-append, le-leb}
use Rattle.std.proofs.Math.Bool.{true, false}
use Rattle.std.proofs.Math.ListN.{length}
use Rattle.std.proofs.lemmas.Bool.{lt-leb}
use Rattle.laws.specs.Text.{bytes}
use Rattle.answers.specs.Answers.{Answer, done, output_too_short, bad_calendar, no_weekday_form}
use Rattle.dates.specs.Laws.{number_below}
use Rattle.laws.specs.Put.{put_at, put_behind, put_no_room}
use Rattle.dates.specs.Text.{date_text}
use Rattle.dates.specs.Again.{length_text}
use Rattle.dates.specs.declared.Date.{Date}
use Rattle.calendar.specs.Written.{any_day, checked_of, start, day_characters, character_count, day_string_text, text_answer, day_string_answer, day_string_bytes, named, all_on, weekday_form, digits_from, named_text, weekday_answer, weekday_bytes}
use Rattle.calendar.specs.Days.{has_bit}
use Rattle.calendar.specs.Week.{week_of}
use Rattle.calendar.specs.WeekLaws.{week_named, on_same, digits_same}
use Rattle.calendar.specs.Check.{checked_good, checked_bad}
use Rattle.calendar.specs.Good.{good_facts}
use Rattle.calendar.specs.Empty.{week_none, week_some}
use Rattle.calendar.specs.Steps.{length_characters}
use Rattle.calendar.specs.declared.Span.{Span}

pub length_start : (first last : Date) → length (start first last) ≡ 29
unfolding start
length_start first last = simp (length-append, length_text)

pub start_refused : (first last : Date) (o : List ℕ) → length o < 29 → o ≡ put_at o 0 (start first last)
start_refused first last o h = sym (put_no_room o 0 (start first last) (rw length_start (omega arith)))

pub start_put : (first last : Date) (o : List ℕ) {p q r s f t : List ℕ} → 29 ≤ length o
    → p ≡ put_at o 0 (bytes "POP+273:") → f ≡ date_text first → q ≡ put_at p 8 f
    → r ≡ put_at q 18 (bytes "/") → t ≡ date_text last → s ≡ put_at r 19 t → s ≡ put_at o 0 (start first last)
unfolding start
start_put first last o h e₁ f e₂ e₃ t e₄ =
    let a = put_behind o 0 (bytes "POP+273:") (date_text first) 8 e₁ e₂ f refl (rw length_text (omega arith)) in
    let b = put_behind o 0 (bytes "POP+273:" ++ date_text first) (bytes "/") 18 a e₃ refl (simp length_text) (simp length_text (omega arith)) in
    put_behind o 0 (bytes "POP+273:" ++ date_text first ++ bytes "/") (date_text last) 19 b e₄ t (simp (length-append, length_text)) (simp (length-append, length_text) (omega arith))

-- a text that fits, and one that does not
pub text_fits : (text o : List ℕ) (m : ℕ) → length text ≡ m → m ≤ length o → done m ≡ text_answer text o
unfolding text_answer
text_fits text o m e h = rw (e, le-leb m (length o) h)

pub text_refused : (text o : List ℕ) → length o < length text → (output_too_short ≡ text_answer text o) × (o ≡ put_at o 0 text)
unfolding text_answer
text_refused text o h = (rw (lt-leb (length text) (length o) h), sym (put_no_room o 0 text (omega arith)))

module _ (c : List ℕ) (first last : Date) (n : ℕ) (o : List ℕ) where
  length_day_string : length (day_string_text c first last n) ≡ 32 + n
  unfolding day_string_text
  length_day_string = simp (length-append, length_start, length_characters) (omega arith)

  pub characters_refused : length o < 32 + n → (output_too_short ≡ text_answer (day_string_text c first last n) o) × (o ≡ put_at o 0 (day_string_text c first last n))
  characters_refused h = text_refused (day_string_text c first last n) o (rw length_day_string h)

  pub characters_put : {p q r s : List ℕ} → 32 + n ≤ length o → p ≡ put_at o 0 (start first last) → q ≡ put_at p 29 (bytes "::")
      → r ≡ put_at q 31 (day_characters c 0 n) → s ≡ put_at r (31 + n) (bytes "'")
      → (done (32 + n) ≡ text_answer (day_string_text c first last n) o) × (s ≡ put_at o 0 (day_string_text c first last n))
  unfolding day_string_text
  characters_put h e₁ e₂ e₃ e₄ =
      let a = put_behind o 0 (start first last) (bytes "::") 29 e₁ e₂ refl (simp length_start) (simp length_start (omega arith)) in
      let b = put_behind o 0 (start first last ++ bytes "::") (day_characters c 0 n) 31 a e₃ refl (simp (length-append, length_start)) (simp (length-append, length_start, length_characters) (omega arith)) in (
        text_fits (day_string_text c first last n) o (32 + n) length_day_string h,
        put_behind o 0 (start first last ++ bytes "::" ++ day_characters c 0 n) (bytes "'") (31 + n) b e₄ refl (simp (length-append, length_start, length_characters, zero-add)) (simp (length-append, length_start, length_characters) (omega arith)),
      )

module _ (short : Bool) (c : List ℕ) (first last : Date) (o : List ℕ) where
  pub day_string_bad : checked_of c first last ≡ None → (bad_calendar ≡ day_string_answer short c first last o) × (o ≡ day_string_bytes short c first last o)
  unfolding day_string_answer day_string_bytes
  day_string_bad e = let g = checked_bad c first last e in (rw g, rw g)

  pub day_string_good : {s : Span} {m : ℕ} {r : Answer ℕ} {p : List ℕ} → checked_of c first last ≡ Some s → m ≡ character_count short c s.count
      → (r ≡ text_answer (day_string_text c first last m) o) × (p ≡ put_at o 0 (day_string_text c first last m))
      → (r ≡ day_string_answer short c first last o) × (p ≡ day_string_bytes short c first last o)
  unfolding day_string_answer day_string_bytes
  day_string_good e q w =
      let g = checked_good c first last e in
      (rw (g.0, g.2, sym q) w.0, rw (g.0, g.2, sym q) w.1)

-- the weekday form
module _ (first last : Date) (w o : List ℕ) where
  length_named : length (named_text first last w) ≡ 31 + length w
  unfolding named_text
  length_named = simp (length-append, length_start) (omega arith)

  pub named_refused : length o < 31 + length w → (output_too_short ≡ text_answer (named_text first last w) o) × (o ≡ put_at o 0 (named_text first last w))
  named_refused h = text_refused (named_text first last w) o (rw length_named h)

  pub named_put : {p q r s : List ℕ} → 31 + length w ≤ length o → p ≡ put_at o 0 (start first last) → q ≡ put_at p 29 (bytes "+")
      → r ≡ put_at q 30 w → s ≡ put_at r (30 + length w) (bytes "'")
      → (done (31 + length w) ≡ text_answer (named_text first last w) o) × (s ≡ put_at o 0 (named_text first last w))
  unfolding named_text
  named_put h e₁ e₂ e₃ e₄ =
      let a = put_behind o 0 (start first last) (bytes "+") 29 e₁ e₂ refl (simp length_start) (simp length_start (omega arith)) in
      let b = put_behind o 0 (start first last ++ bytes "+") w 30 a e₃ refl (simp (length-append, length_start)) (simp (length-append, length_start) (omega arith)) in (
        text_fits (named_text first last w) o (31 + length w) length_named h,
        put_behind o 0 (start first last ++ bytes "+" ++ w) (bytes "'") (30 + length w) b e₄ refl (simp (length-append, length_start, zero-add)) (simp (length-append, length_start) (omega arith)),
      )

-- a good calendar's numbers are small
module _ (c : List ℕ) (first last : Date) {s : Span} (e : checked_of c first last ≡ Some s) where
  pub checked_small : s.first + s.count ≤ 65536
  checked_small =
      let g = checked_good c first last e in
      let h = good_facts c first last g.0 in
      omega (arith, number_below first h.first_date, g.1, g.2)

  module _ (o : List ℕ) where
    module _ {x : ℕ} (k : x ≡ week_of c s.first s.count) where
      pub no_day : x ≡ 0 → (no_weekday_form ≡ weekday_answer c first last o) × (o ≡ weekday_bytes c first last o)
      unfolding weekday_answer weekday_bytes weekday_form
      no_day h =
          let g = checked_good c first last e in
          let a : any_day c 0 s.count ≡ false = week_none c s.first s.count (sym k ∙ h) in
          (rw (g.0, g.2, g.1, a), rw (g.0, g.2, g.1, a))

      all_same : all_on (has_bit x) c s.first 0 s.count ≡ all_on (named c s.first s.count) c s.first 0 s.count
      all_same = on_same (has_bit x) (named c s.first s.count) (λ w l. ap (λ (y : ℕ). has_bit y w) k ∙ week_named c s.first s.count w l) c s.first 0 s.count

      module _ (h : x ≡ 0 → ⊥) where
        selected : any_day c 0 s.count ≡ true
        selected = week_some c s.first s.count (λ q. h (k ∙ q))

        pub not_whole : all_on (has_bit x) c s.first 0 s.count ≡ false → (no_weekday_form ≡ weekday_answer c first last o) × (o ≡ weekday_bytes c first last o)
        unfolding weekday_answer weekday_bytes weekday_form
        not_whole m =
            let g = checked_good c first last e in
            let b : all_on (named c s.first s.count) c s.first 0 s.count ≡ false = sym all_same ∙ m in
            (rw (g.0, g.2, g.1, selected, b), rw (g.0, g.2, g.1, selected, b))

        pub weekdays_good : {r : Answer ℕ} {p w : List ℕ} → all_on (has_bit x) c s.first 0 s.count ≡ true → w ≡ digits_from (has_bit x) 1 7
            → (r ≡ text_answer (named_text first last w) o) × (p ≡ put_at o 0 (named_text first last w))
            → (r ≡ weekday_answer c first last o) × (p ≡ weekday_bytes c first last o)
        unfolding weekday_answer weekday_bytes weekday_form
        weekdays_good {r} {p} {w} m d z =
            let g = checked_good c first last e in
            let b : all_on (named c s.first s.count) c s.first 0 s.count ≡ true = sym all_same ∙ m in
            let q : w ≡ digits_from (named c s.first s.count) 1 7 = d ∙ digits_same (has_bit x) (named c s.first s.count) (λ v l. ap (λ (y : ℕ). has_bit y v) k ∙ week_named c s.first s.count v l) 1 7 (omega arith) in
            (rw (g.0, g.2, g.1, selected, b) (rw q at z.0), rw (g.0, g.2, g.1, selected, b) (rw q at z.1))

pub weekdays_bad : (c : List ℕ) (first last : Date) (o : List ℕ) → checked_of c first last ≡ None
    → (bad_calendar ≡ weekday_answer c first last o) × (o ≡ weekday_bytes c first last o)
unfolding weekday_answer weekday_bytes
weekdays_bad c first last o e = let g = checked_bad c first last e in (rw g, rw g)
