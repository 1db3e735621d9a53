-- Each written form of a calendar, read back and joined into an empty one, is that calendar: for all calendars and all dates in range.
-- "All three forms of a calendar read back the same." (document 02, A3) Each gives a form of days, so that the caller's wish changes nothing.
-- Assumes nothing.
use Rattle.std.specs.Prelude.{◌≡◌, Bool, true, false, List, ℕ}
use Rattle.std.proofs.Common.{ap, ◌∙◌}
use Rattle.syntax.specs.Segment.{body_at}
use Rattle.dates.specs.Dates.{number}
use Rattle.dates.specs.declared.Date.{Date}
use Rattle.calendar.specs.Written.{good_calendar, WrittenForm, all_characters, short_form, weekdays, form_exists, form_text}
use Rattle.period.specs.declared.Form.{Form}
use Rattle.period.specs.declared.Form.TheVariants.{ByString, ByWeekdays}
use Rattle.joining.specs.Joined.{days_joined}
use Rattle.joining.specs.Union.{no_days}
use Rattle.joining.specs.Bytes.{AreBytes}
use Rattle.read_back.specs.Written.{ReadsBack, day_string_back}
use Rattle.read_back.specs.Week.{weekdays_back}
use Rattle.read_back.specs.Same.{joined_same}

-- what tells the days of a POP that is written in a form
abbrev pub tells : WrittenForm → Form
tells all_characters = ByString
tells short_form = ByString
tells weekdays = ByWeekdays

module _ (wish : Bool) (c : List ℕ) (first last : Date) (good : good_calendar c first last ≡ true) where
  pub written_back : (form : WrittenForm) → form_exists form c first last ≡ true → ReadsBack wish (form_text form c first last) c first last (tells form)
  written_back all_characters e = day_string_back wish false c first last good
  written_back short_form e = day_string_back wish true c first last good
  written_back weekdays e = weekdays_back wish c first last good e

  pub written_same : AreBytes c → (form : WrittenForm) → form_exists form c first last ≡ true
      → days_joined wish (no_days 64) (number first) (body_at (form_text form c first last) 0) ≡ c
  written_same a form e =
      let r = written_back form e in
      ap (days_joined wish (no_days 64) (number first)) r.cut
      ∙ joined_same wish (form_text form c first last) c first last (tells form) r good a
