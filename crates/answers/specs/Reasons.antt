-- The numbers of the table by the names of its rows.
-- Assumes nothing.
use Rattle.std.specs.Prelude.{ℕ}
use Rattle.answers.specs.declared.Reason.{Reason}
use Rattle.answers.specs.declared.Reason.TheVariants.{NotRegister, BadAccount, BadSize, ByteNotPermitted, InputEnds, WrongSegment, WrongEnvelope, UnknownType, OutOfPlace, WrongPeriod, WrongService, NumberTwice, OutsideWindow, UnknownService, OverQuota, NothingThere, OutputTooShort, BadOpening, BadCalendar, NoWeekdayForm, SegmentTooLong}

-- the first column of the table
abbrev pub number_of : Reason → ℕ
number_of NotRegister = 1
number_of BadAccount = 2
number_of BadSize = 3
number_of ByteNotPermitted = 4
number_of InputEnds = 5
number_of WrongSegment = 6
number_of WrongEnvelope = 7
number_of UnknownType = 8
number_of OutOfPlace = 9
number_of WrongPeriod = 10
number_of WrongService = 11
number_of NumberTwice = 12
number_of OutsideWindow = 13
number_of UnknownService = 14
number_of OverQuota = 15
number_of NothingThere = 16
number_of OutputTooShort = 17
number_of BadOpening = 18
number_of BadCalendar = 19
number_of NoWeekdayForm = 20
number_of SegmentTooLong = 21
