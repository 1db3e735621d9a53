-- What each call does, on the account's own view: the window's first date, its quota and its records. What another account holds is no
-- argument of any definition here. Document 01, "The register"; stage is in the crate `staging`.
-- Assumes nothing.
use Rattle.std.specs.Prelude.{ℕ, zero, suc, ◌+◌, ◌-◌, Bool, true, false, List, [], ◌∷◌, ◌++◌, eqb, leb, length, get_or, set, replicate}
use Rattle.std.proofs.Math.Option.{Option, none, some}
use Rattle.laws.specs.Choice.{pick, both}
use Rattle.laws.specs.Put.{put_at}
use Rattle.laws.specs.Text.{bytes}
use Rattle.answers.specs.Answers.{Answer, done, not_register, bad_account, nothing_pending, no_record, output_too_short, bad_opening}
use Rattle.values.specs.Values.{same_text}
use Rattle.dates.specs.Dates.{valid, number}
use Rattle.dates.specs.declared.Date.{Date}
use Rattle.calendar.specs.Written.{day_characters}
use Rattle.contents.specs.Contents.{Pending, nothing, put, removal, Record, Contents, comes_before, good_window, good_quotas}
use Rattle.contents.specs.Written.{written, held, is_register}

-- what a call is given of a register
pub record View : Type 0 where
  pub first : ℕ
  pub quota : ℕ
  pub records : List Record

-- what comes of it: the answer, and the account's records afterwards
pub record Called : Type 0 where
  pub answer : Answer ℕ
  pub records : List Record

-- a refusal changes nothing
abbrev pub refused_call : View → Answer ℕ → Called
refused_call v a = record { answer = a; records = v.records }

-- the record of a number
unfoldable pub lookup : List ℕ → List Record → Option Record
lookup x [] = none
lookup x (r ∷ rs) = pick (same_text r.number x) (some r) (lookup x rs)

-- the records with that of one number changed: from none or one to none or one, in its place in the order
abbrev pub listed : Option Record → List Record
listed none = []
listed (some r) = r ∷ []

unfoldable pub changed : List ℕ → (Option Record → Option Record) → List Record → List Record
changed x f [] = listed (f none)
changed x f (r ∷ rs) =
    pick (same_text r.number x) (listed (f (some r)) ++ rs)
    (pick (comes_before x r.number) (listed (f none) ++ (r ∷ rs)) (r ∷ changed x f rs))

-- ---- release: "every pending entry becomes live or removes its record. Returns the number of entries, 0 if none."

abbrev pub is_pending : Pending → Bool
is_pending nothing = false
is_pending (put c) = true
is_pending removal = true

unfoldable pub pending_count : List Record → ℕ
pending_count [] = 0
pending_count (r ∷ rs) = pick (is_pending r.pending) 1 0 + pending_count rs

abbrev pub settled_by : Record → Pending → Option Record
settled_by r nothing = some r
settled_by r (put c) = some (record { number = r.number; live = some c; pending = nothing })
settled_by r removal = none

unfoldable pub released : List Record → List Record
released [] = []
released (r ∷ rs) = listed (settled_by r r.pending) ++ released rs

unfoldable pub release_of : View → Called
release_of v = record { answer = done (pending_count v.records); records = released v.records }

-- ---- withdraw: "drops that pending entry, and the record if nothing is live"; else 16

abbrev pub has_pending : Option Record → Bool
has_pending none = false
has_pending (some r) = is_pending r.pending

abbrev pub kept_live : Record → Option (List ℕ) → Option Record
kept_live r none = none
kept_live r (some c) = some (record { number = r.number; live = some c; pending = nothing })

abbrev pub withdrawn : Option Record → Option Record
withdrawn none = none
withdrawn (some r) = kept_live r r.live

unfoldable pub withdraw_of : List ℕ → View → Called
withdraw_of x v =
    pick (has_pending (lookup x v.records)) (record { answer = done 0; records = changed x withdrawn v.records })
    (refused_call v nothing_pending)

-- ---- show: "the account's k-th record, from 0"

-- "fields parted by tabs, each ended by a newline: number, `live`, `put` or `del`, 512 characters of 0 and 1 over the window"
abbrev pub line_of : List ℕ → List ℕ → List ℕ → List ℕ
line_of number word days = number ++ (9 ∷ (word ++ (9 ∷ (days ++ (10 ∷ [])))))

abbrev pub window_text : List ℕ → List ℕ
window_text c = day_characters c 0 512

-- `live`, `put`, `del`
unfoldable pub live_line : List ℕ → Option (List ℕ) → List ℕ
live_line number none = []
live_line number (some c) = line_of number (bytes "live") (window_text c)

-- "(empty for `del`)"
unfoldable pub pending_line : List ℕ → Pending → List ℕ
pending_line number nothing = []
pending_line number (put c) = line_of number (bytes "put") (window_text c)
pending_line number removal = line_of number (bytes "del") []

-- "Live first."
unfoldable pub record_text : Record → List ℕ
record_text r = live_line r.number r.live ++ pending_line r.number r.pending

unfoldable pub record_at : ℕ → List Record → Option Record
record_at k [] = none
record_at zero (r ∷ rs) = some r
record_at (suc k) (r ∷ rs) = record_at k rs

-- "Returns the bytes written." 16, then 17; what stands past the written end stays, and on a refusal all of it
abbrev pub shown_answer : List ℕ → Option Record → Answer ℕ
shown_answer out none = no_record
shown_answer out (some r) = pick (leb (length (record_text r)) (length out)) (done (length (record_text r))) output_too_short

abbrev pub shown_bytes : List ℕ → Option Record → List ℕ
shown_bytes out none = out
shown_bytes out (some r) = put_at out 0 (record_text r)

unfoldable pub show_answer : ℕ → List ℕ → View → Answer ℕ
show_answer k out v = shown_answer out (record_at k v.records)

unfoldable pub show_bytes : ℕ → List ℕ → View → List ℕ
show_bytes k out v = shown_bytes out (record_at k v.records)

-- ---- on a buffer: 1, then 2, then the call on the account's view, and what it leaves, written

-- "account not 1 to 8" is 2
abbrev pub is_account : ℕ → Bool
is_account account = both (leb 1 account) (leb account 8)

unfoldable pub view_of : Contents → ℕ → View
view_of c account =
    record {
      first = c.first;
      quota = get_or c.quotas (account - 1) 0;
      records = get_or c.accounts (account - 1) [];
    }

-- the contents with other records of one account
unfoldable pub with_records : Contents → ℕ → List Record → Contents
with_records c account rs = record { first = c.first; quotas = c.quotas; accounts = set c.accounts (account - 1) rs }

-- what is answered on a buffer where a call's answer on the view is given
unfoldable pub answer_on : List ℕ → ℕ → (View → Answer ℕ) → Answer ℕ
answer_on b account call = pick (is_register b) (pick (is_account account) (call (view_of (held b) account)) bad_account) not_register

-- the buffer afterwards where the account's records then are given
unfoldable pub bytes_after : List ℕ → ℕ → (View → List Record) → List ℕ
bytes_after b account call =
    pick (both (is_register b) (is_account account)) (written (with_records (held b) account (call (view_of (held b) account)))) b

-- an output afterwards
unfoldable pub output_after : List ℕ → ℕ → List ℕ → (View → List ℕ) → List ℕ
output_after b account out call = pick (both (is_register b) (is_account account)) (call (view_of (held b) account)) out

-- ---- open: "window and quotas, no records". 1 for a wrong length, then 18

unfoldable pub opened : Date → List ℕ → Contents
opened first quotas = record { first = number first; quotas = quotas; accounts = replicate 8 [] }

-- "quotas sum over 256, first date invalid, or window outside the dates"
unfoldable pub may_open : Date → List ℕ → Bool
may_open first quotas = both (valid first) (both (good_window (number first)) (good_quotas quotas))

abbrev pub register_length : ℕ
register_length = 35858

unfoldable pub open_answer : List ℕ → Date → List ℕ → Answer ℕ
open_answer b first quotas = pick (eqb (length b) register_length) (pick (may_open first quotas) (done 0) bad_opening) not_register

unfoldable pub open_bytes : List ℕ → Date → List ℕ → List ℕ
open_bytes b first quotas = pick (both (eqb (length b) register_length) (may_open first quotas)) (written (opened first quotas)) b
