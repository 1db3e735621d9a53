-- "The groups 2 of its SKDUPD messages are services": those that are found in the rows of an interchange are these, in order.
-- Assumes nothing.
use Rattle.std.specs.Prelude.{◌≡◌, refl, Bool, true, false, List, [], ◌++◌, map, drop}
use Rattle.std.proofs.Common.{sym, ◌∙◌, append-nil, add-one, length-append, drop_of_length-le}
use Rattle.std.proofs.Math.Path.{ap}
use Prim.Native.Nat.{ℕ, zero, suc, ◌+◌, ◌-◌, ◌*◌, ◌≤◌, ◌<◌}
use native.Mathlib.Omega.{arith}
use Rattle.std.proofs.Math.ListN.{length}
use Rattle.std.proofs.Math.Seq.{drop-cons}
use Rattle.messages.specs.Tags.{PRD}
use Rattle.steps.specs.declared.state.Row.{Row}
use Rattle.interchange.specs.Reader.{Outcome, reading_of, numbers, rows_after}
use Rattle.interchange.specs.Laws.{length_numbers}
use Rattle.acceptance.specs.Interchange.{IsInterchange, rows_of}
use Rattle.acceptance.specs.Theorems.{rows_when, written_when}
use Rattle.services.specs.declared.Service.{Service}
use Rattle.services.specs.Rows.{offset_at, row_count, keep, list_of}
use Rattle.services.specs.Services.{is_service, service_at, services_of}
use Rattle.service_reading.specs.Front.{row_front, offset_front}
use Rattle.service_reading.specs.Reading.{offset_read, row_read}
use Rattle.interchange_services.specs.Groups.{groups_of}
use Rattle.interchange_services.specs.Rows.{prds_of, interchange_begins}

-- the offsets of some services' PRDs
abbrev pub prds : List Service → List ℕ
prds = map (λ (v : Service). v.prd)

keep_prds : (b : Bool) (v : Service) (l : List Service) → prds (keep b v l) ≡ keep b v.prd (prds l)
keep_prds true v l = refl
keep_prds false v l = refl

list_prds : (f : ℕ → Bool) (g : ℕ → Service) (k i : ℕ) → prds (list_of f g k i) ≡ list_of f (λ j. (g j).prd) k i
unfolding list_of
list_prds f g zero i = refl
list_prds f g (suc k) i = keep_prds (f i) (g i) (list_of f g k (i + 1)) ∙ ap (keep (f i) (g i).prd) (list_prds f g k (i + 1))

-- the rows at the front of a buffer
module _ (s : List ℕ) (rs : List Row) (past : List ℕ) where
  abbrev buffer : List ℕ
  buffer = numbers rs ++ past

  enough : 3 * length rs ≤ length (numbers rs)
  enough = let e = length_numbers rs in omega arith

  list_rows : (k i : ℕ) → i + k ≡ length rs → list_of (is_service (numbers rs ++ past)) (offset_at (numbers rs ++ past)) k i ≡ prds_of (drop i rs)
  unfolding list_of prds_of
  list_rows zero i e =
      let h : length rs ≤ i = omega arith in
      rw (drop_of_length-le rs h)
  list_rows (suc k) i e =
      let z : Row = record { offset = 0; group = 0; tag = 0 } in
      let h : i < length rs = omega arith in
      let a = row_front (numbers rs) past (length rs) enough i h 2 PRD ∙ row_read rs i z h 2 PRD in
      let b = offset_front (numbers rs) past (length rs) enough i h ∙ offset_read rs i z h in
      rw (a, b, drop-cons rs i z h, list_rows k (i + 1) (omega arith), add-one)

  count_all : row_count (numbers rs ++ past) (length rs) - 0 ≡ length rs
  count_all =
      let e = length_numbers rs in
      let l = length-append (numbers rs) past in
      omega arith

  services_rows : prds (services_of s (numbers rs ++ past) (length rs)) ≡ prds_of rs
  unfolding service_at
  services_rows =
      list_prds (is_service buffer) (service_at s buffer (row_count buffer (length rs))) (row_count buffer (length rs) - 0) 0
      ∙ ap (λ (n : ℕ). list_of (is_service buffer) (offset_at buffer) n 0) count_all
      ∙ list_rows (length rs) 0 (omega arith)

module _ (wish : Bool) (s : List ℕ) (i : IsInterchange wish s) where
  -- the services of the reading's own rows
  pub services_when : prds (services_of s (numbers (reading_of wish s).rows) (length (reading_of wish s).rows)) ≡ groups_of i.parts
  services_when =
      ap (λ (b : List ℕ). prds (services_of s b (length (reading_of wish s).rows))) (sym (append-nil (numbers (reading_of wish s).rows)))
      ∙ services_rows s (reading_of wish s).rows []
      ∙ ap (λ (o : Outcome). prds_of o.rows) (rows_when wish s i)
      ∙ interchange_begins i.parts

  -- and of the rows that `read` leaves in a buffer that has room for them
  pub services_left : (lent : List ℕ) → 3 * length (rows_of i.parts) ≤ length lent
      → prds (services_of s (rows_after (reading_of wish s) lent) (length (rows_of i.parts))) ≡ groups_of i.parts
  services_left lent h =
      ap (λ (b : List ℕ). prds (services_of s b (length (rows_of i.parts)))) (written_when wish s i lent h)
      ∙ services_rows s (rows_of i.parts) (drop (length (numbers (rows_of i.parts))) lent)
      ∙ interchange_begins i.parts
