-- Stage (account, interchange, wish): "the groups 2 of its SKDUPD messages are services. .. All services enter, or none. Returns their number."
-- Document 01, "The register", "What each number means". On the account's own view: nothing else of a register is an argument.
-- Assumes nothing.
use Rattle.std.specs.Prelude.{ℕ, Bool, true, false, not, List, [], ◌∷◌, map, leb, length, replicate, Some, None, Result, Ok, Err}
use Rattle.std.proofs.Math.Option.{Option, none, some}
use Rattle.std.specs.declared.option.Option as found
use Rattle.laws.specs.Choice.{pick, both}
use Rattle.answers.specs.Answers.{Answer, done, refused, wrong_service, number_twice, outside_window, unknown_service, over_quota}
use Rattle.syntax.specs.Bytes.{plain}
use Rattle.syntax.specs.Segment.{body_at}
use Rattle.parts.specs.Places.{bytes_of}
use Rattle.period.specs.Period.{period_of}
use Rattle.joining.specs.Joined.{in_window, join_all}
use Rattle.interchange.specs.Reader.{Verdict, reading_of, numbers}
use Rattle.services.specs.declared.Service.{Service}
use Rattle.services.specs.Services.{periods_of, is_wrong, is_twice, services_of}
use Rattle.contents.specs.Contents.{Pending, nothing, put, removal, Record}
use Rattle.contents.specs.Calls.{View, Called, refused_call, lookup, changed}
use Rattle.period.specs.declared.Period.{Period}
use Rattle.period.specs.declared.Fault.{Fault}

-- "The number, 1 to 10 characters after release"
abbrev pub number_in : List ℕ → Service → List ℕ
number_in s v = plain (bytes_of s v.number)

-- 13, "period not wholly in the window": by its dates, whatever days are selected
abbrev pub outside_by : ℕ → Result Period Fault → Bool
outside_by first (Ok v) = not (in_window 512 first v.days.first v.days.count)
outside_by first (Err x) = false

-- the offset of the first of some POPs that is outside
unfoldable pub first_outside : Bool → ℕ → List ℕ → List ℕ → found.Option ℕ
first_outside wish first s [] = None
first_outside wish first s (at ∷ l) = pick (outside_by first (period_of wish (body_at s at))) (Some at) (first_outside wish first s l)

-- "A service's days are those selected by at least one of its periods", over the window
unfoldable pub days_of : Bool → ℕ → List ℕ → List ℕ → List ℕ
days_of wish first s at = join_all wish (replicate 64 0) first (map (body_at s) at)

-- 14: "it is unknown where the account has no record or already a pending removal"
abbrev pub is_removal : Pending → Bool
is_removal nothing = false
is_removal (put c) = false
is_removal removal = true

abbrev pub is_unknown : Option Record → Bool
is_unknown none = true
is_unknown (some r) = is_removal r.pending

-- "A removal sets pending to removal where a live calendar exists, and drops the record where only a put was pending"
abbrev pub removed_by : Record → Option (List ℕ) → Option Record
removed_by r none = none
removed_by r (some c) = some (record { number = r.number; live = some c; pending = removal })

abbrev pub removed : Option Record → Option Record
removed none = none
removed (some r) = removed_by r r.live

-- "A put sets pending."
abbrev pub put_over : List ℕ → List ℕ → Option Record → Option Record
put_over x c none = some (record { number = x; live = none; pending = put c })
put_over x c (some r) = some (record { number = r.number; live = r.live; pending = put c })

-- What a service makes of the record of its number. A POP that a reading has accepted is good, whatever the wish, and then the old reading
-- says the same of it (`good_old`); here and for 13 it is that one.
unfoldable pub entry : ℕ → List ℕ → List ℕ → Service → Option Record → Option Record
entry first s rows v = pick v.removal removed (put_over (number_in s v) (days_of true first s (periods_of rows v)))

-- 14, then the service enters
unfoldable pub enter_known : ℕ → List ℕ → List ℕ → Service → List Record → Answer (List Record)
enter_known first s rows v rs =
    pick (both v.removal (is_unknown (lookup (number_in s v) rs))) (unknown_service v.prd)
    (done (changed (number_in s v) (entry first s rows v) rs))

abbrev pub enter_inside : found.Option ℕ → Answer (List Record) → Answer (List Record)
enter_inside None next = next
enter_inside (Some at) next = outside_window at

-- one service: 11, 12, 13, 14
unfoldable pub enter : ℕ → List ℕ → List ℕ → Service → List Record → Answer (List Record)
enter first s rows v rs =
    pick (is_wrong s rows v) (wrong_service v.prd)
    (pick (is_twice s rows (bytes_of s v.number) v.from) (number_twice v.prd)
    (enter_inside (first_outside true first s (periods_of rows v)) (enter_known first s rows v rs)))

-- "services in order": each finds the records as those before it left them
abbrev pub and_then : (List Record → Answer (List Record)) → Answer (List Record) → Answer (List Record)
and_then more (done rs) = more rs
and_then more (refused refusal) = refused refusal

unfoldable pub enter_all : ℕ → List ℕ → List ℕ → List Service → List Record → Answer (List Record)
enter_all first s rows [] rs = done rs
enter_all first s rows (v ∷ vs) rs = and_then (enter_all first s rows vs) (enter first s rows v rs)

-- "then 15": "more records than the quota at the end", at the interchange's length
abbrev pub close_by : List ℕ → ℕ → View → Answer (List Record) → Called
close_by s count v (refused refusal) = refused_call v (refused refusal)
close_by s count v (done rs) = pick (leb (length rs) v.quota) (record { answer = done count; records = rs }) (refused_call v (over_quota (length s)))

abbrev pub stage_services : List ℕ → List ℕ → List Service → View → Called
stage_services s rows vs v = close_by s (length vs) v (enter_all v.first s rows vs v.records)

-- what the reader says first: 3 to 10
abbrev pub stage_by : List ℕ → List ℕ → ℕ → Verdict → View → Called
stage_by s rows n (done u) v = stage_services s rows (services_of s rows n) v
stage_by s rows n (refused refusal) v = refused_call v (refused refusal)

unfoldable pub stage_of : Bool → List ℕ → View → Called
stage_of wish s v = stage_by s (numbers (reading_of wish s).rows) (length (reading_of wish s).rows) (reading_of wish s).verdict v
