-- What a register holds, apart from any byte. Document 01, "The register".
-- Assumes nothing.
use Rattle.std.specs.Prelude.{ℕ, ◌+◌, Bool, true, false, List, [], ◌∷◌, eqb, leb, ltb, length}
use Rattle.std.proofs.Math.Option.{Option, none, some}
use Rattle.laws.specs.Choice.{both, either, all}
use Rattle.laws.specs.Joined.{total}
use Rattle.syntax.specs.Bytes.{permitted_of}

-- "a pending entry or none: a put with its calendar, or a removal"
pub data Pending : Type 0 where
  nothing : Pending
  put : List ℕ → Pending
  removal : Pending

-- a service of an account: its number, "a live calendar or none, and a pending entry or none"
pub record Record : Type 0 where
  pub number : List ℕ
  pub live : Option (List ℕ)
  pub pending : Pending

-- "It holds a window of 512 days from a first date, .. a quota for each of accounts 1 to 8, .. and records in order of account":
-- the number of the first date, counted from 1990-01-01, the quotas, and the records of each account
pub record Contents : Type 0 where
  pub first : ℕ
  pub quotas : List ℕ
  pub accounts : List (List Record)

-- "service number (1 to 10 permitted characters, ..)"
unfoldable pub good_number : List ℕ → Bool
good_number x = both (both (leb 1 (length x)) (leb (length x) 10)) (all permitted_of x)

-- "A calendar is 64 bytes"
unfoldable pub is_calendar : List ℕ → Bool
is_calendar c = both (eqb (length c) 64) (all (λ b. ltb b 256) c)

-- "a removal only beside a live calendar; at least one of the two is there"
unfoldable pub good_entries : Option (List ℕ) → Pending → Bool
good_entries none nothing = false
good_entries none (put c) = is_calendar c
good_entries none removal = false
good_entries (some l) nothing = is_calendar l
good_entries (some l) (put c) = both (is_calendar l) (is_calendar c)
good_entries (some l) removal = is_calendar l

unfoldable pub good_record : Record → Bool
good_record r = both (good_number r.number) (good_entries r.live r.pending)

-- "byte by byte, a shorter number before its extensions"
unfoldable pub comes_before : List ℕ → List ℕ → Bool
comes_before [] [] = false
comes_before [] (y ∷ m) = true
comes_before (x ∷ l) [] = false
comes_before (x ∷ l) (y ∷ m) = either (ltb x y) (both (eqb x y) (comes_before l m))

-- "in order of .. service number", "no two alike in an account": each number comes before the next one
abbrev pub before_next : Record → List Record → Bool
before_next r [] = true
before_next r (q ∷ rs) = comes_before r.number q.number

unfoldable pub in_order : List Record → Bool
in_order [] = true
in_order (r ∷ rs) = both (before_next r rs) (in_order rs)

-- "No account has more records than its quota."
unfoldable pub good_account : ℕ → List Record → Bool
good_account quota rs = both (leb (length rs) quota) (both (all good_record rs) (in_order rs))

-- each account with its quota
unfoldable pub good_accounts : List ℕ → List (List Record) → Bool
good_accounts [] [] = true
good_accounts [] (rs ∷ l) = false
good_accounts (q ∷ qs) [] = false
good_accounts (q ∷ qs) (rs ∷ l) = both (good_account q rs) (good_accounts qs l)

-- "a window of 512 days from a first date, all within the dates above": there are 40,177 of them
abbrev pub good_window : ℕ → Bool
good_window first = leb (first + 512) 40177

-- "a quota for each of accounts 1 to 8, the quotas summing to at most 256"
unfoldable pub good_quotas : List ℕ → Bool
good_quotas qs = both (eqb (length qs) 8) (leb (total qs) 256)

unfoldable pub good : Contents → Bool
good c = both (good_window c.first) (both (good_quotas c.quotas) (good_accounts c.quotas c.accounts))
