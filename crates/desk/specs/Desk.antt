-- An answer as C takes it: four numbers.
-- Assumes nothing.
use Rattle.std.specs.Prelude.{ℕ, Option, Some, None}
use Rattle.answers.specs.Answers.{Answer, done, refused}
use Rattle.dates.specs.declared.Date.{Date}
use Rattle.dates.specs.Dates.{date, made_of}
use Rattle.interchange.specs.Reader.{Verdict}
use Rattle.parcels.specs.Calls.{Told}
use Rattle.desk.specs.declared.Reply.{Reply}
use Rattle.desk.specs.declared.calendars.Day.{Day}

-- "0 done", with a value; else the refusal's number, position and part
abbrev pub reply_of : Answer ℕ → Reply
reply_of (done n) = record { number = 0; position = 0; part = 0; value = n }
reply_of (refused x) = record { number = x.number; position = x.position; part = x.part; value = 0 }

-- a parcel: how many rows it brought, beside a refusal too
abbrev pub parcel_reply : ℕ → Verdict → Reply
parcel_reply n (done _) = record { number = 0; position = 0; part = 0; value = n }
parcel_reply n (refused x) = record { number = x.number; position = x.position; part = x.part; value = n }

abbrev pub told_reply : Told → Reply
told_reply t = parcel_reply t.rows t.verdict

-- a date as C gives it: any three numbers; where they are no date, 0000-00-00, which is none either
abbrev pub or_none : Option Date → Date
or_none (Some d) = d
or_none None = date 0 0 0

abbrev pub day_date : Day → Date
day_date d = or_none (made_of d.year d.month d.day)
