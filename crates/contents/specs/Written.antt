-- How a register's contents are written: docs/REGISTER.md has the offsets. "Equal contents are equal bytes."
-- Assumes nothing.
use Rattle.std.specs.Prelude.{ℕ, zero, suc, ◌+◌, ◌-◌, ◌*◌, ◌/◌, ◌%◌, Bool, List, [], ◌∷◌, ◌++◌, map, eqb, length, get_or, take, drop, replicate}
use Rattle.std.proofs.Math.Option.{Option, none, some}
use Rattle.laws.specs.Choice.{pick, both}
use Rattle.laws.specs.Joined.{joined, total}
use Rattle.laws.specs.Filled.{filled_up}
use Rattle.values.specs.Values.{same_text}
use Rattle.contents.specs.Contents.{Pending, nothing, put, removal, Record, Contents, good}

-- a number of two bytes, the lower first
abbrev pub two_bytes : ℕ → List ℕ
two_bytes n = n % 256 ∷ n / 256 ∷ []

-- the window's first date and the quotas: 18 bytes
unfoldable pub head_of : Contents → List ℕ
head_of c = two_bytes c.first ++ joined (map two_bytes c.quotas)

-- a calendar behind a byte that says whether it is there
unfoldable pub live_bytes : Option (List ℕ) → List ℕ
live_bytes none = 0 ∷ replicate 64 0
live_bytes (some c) = 1 ∷ c

unfoldable pub pending_bytes : Pending → List ℕ
pending_bytes nothing = 0 ∷ replicate 64 0
pending_bytes (put c) = 1 ∷ c
pending_bytes removal = 2 ∷ replicate 64 0

-- a record's slot: 10 bytes of number, 65 of what is live, 65 of what is pending
unfoldable pub slot_of : Record → List ℕ
slot_of r = filled_up 10 r.number ++ (live_bytes r.live ++ pending_bytes r.pending)

-- an account's room: a slot for each of its quota, used ones first; "unused room is zero"
unfoldable pub room_bytes : ℕ → List Record → List ℕ
room_bytes quota rs = joined (map slot_of rs) ++ replicate ((quota - length rs) * 140) 0

unfoldable pub rooms_bytes : List ℕ → List (List Record) → List ℕ
rooms_bytes [] l = []
rooms_bytes (q ∷ qs) [] = []
rooms_bytes (q ∷ qs) (rs ∷ l) = room_bytes q rs ++ rooms_bytes qs l

-- "One register fills a lent buffer of one fixed length": head, rooms, and zeros up to 256 slots in all
unfoldable pub written : Contents → List ℕ
written c = head_of c ++ (rooms_bytes c.quotas c.accounts ++ replicate ((256 - total c.quotas) * 140) 0)

-- ---- what bytes hold, read in the same order

-- the bytes of a text before the first zero
unfoldable pub up_to_zero : List ℕ → List ℕ
up_to_zero [] = []
up_to_zero (b ∷ l) = pick (eqb b 0) [] (b ∷ up_to_zero l)

abbrev pub live_in : List ℕ → Option (List ℕ)
live_in slot = pick (eqb (get_or slot 10 0) 0) none (some (take 64 (drop 11 slot)))

abbrev pub pending_in : List ℕ → Pending
pending_in slot = pick (eqb (get_or slot 75 0) 0) nothing (pick (eqb (get_or slot 75 0) 1) (put (take 64 (drop 76 slot))) removal)

unfoldable pub record_in : List ℕ → Record
record_in slot = record { number = up_to_zero (take 10 slot); live = live_in slot; pending = pending_in slot }

-- the used slots of a room of so many slots: one whose first byte is 0 is not used
unfoldable pub records_in : ℕ → List ℕ → List Record
records_in zero b = []
records_in (suc n) b = pick (eqb (get_or b 0 0) 0) [] (record_in (take 140 b) ∷ records_in n (drop 140 b))

unfoldable pub accounts_in : List ℕ → List ℕ → List (List Record)
accounts_in [] b = []
accounts_in (q ∷ qs) b = records_in q b ∷ accounts_in qs (drop (q * 140) b)

-- n numbers of two bytes
unfoldable pub numbers_in : ℕ → List ℕ → List ℕ
numbers_in zero b = []
numbers_in (suc n) b = (get_or b 0 0 + 256 * get_or b 1 0) ∷ numbers_in n (drop 2 b)

unfoldable pub held : List ℕ → Contents
held b =
    record {
      first = get_or b 0 0 + 256 * get_or b 1 0;
      quotas = numbers_in 8 (drop 2 b);
      accounts = accounts_in (numbers_in 8 (drop 2 b)) (drop 18 b);
    }

-- "A buffer is a register exactly when all this holds": what it holds is good, and it is that, written
unfoldable pub is_register : List ℕ → Bool
is_register b = both (good (held b)) (same_text (written (held b)) b)
