-- What stage leaves of a good account is a good account again.
-- Assumes nothing.
use Prim.Native.Nat.{ℕ, zero, suc, ◌+◌, ◌-◌, ◌≤◌}
use Rattle.std.specs.Prelude.{◌≡◌, refl, Bool, leb, length, Some, None}
use Rattle.std.proofs.Math.Path.{subst}
use Rattle.std.proofs.Math.Bool.{true, false}
use mathlib.Core.List.{List, [], ◌∷◌}
use Rattle.std.proofs.Math.Option.{Option, none, some}
use Rattle.std.specs.declared.option.Option as found
use Rattle.std.proofs.Common.{arith, leb-true}
use Rattle.std.proofs.lemmas.Bool.{not-false}
use Rattle.laws.specs.Choice.{pick, both, all, choose, both_parts}
use Rattle.answers.specs.Answers.{Answer, done, refused}
use Rattle.answers.specs.Laws.{refused≢done, done_is}
use Rattle.syntax.specs.Bytes.{permitted_of, plain}
use Rattle.parts.specs.Places.{bytes_of}
use Rattle.interchange.specs.Reader.{Verdict, reading_of, numbers}
use Rattle.interchange.specs.Laws.{length_numbers}
use Rattle.services.specs.declared.Service.{Service}
use Rattle.services.specs.Rows.{row_count, list_of}
use Rattle.services.specs.Services.{is_service, service_at, periods_of, number_fits, periods_fit, has_period, is_wrong, is_twice, services_of}
use Rattle.contents.specs.Contents.{put, Record, good_number, is_calendar, good_entries, good_record, in_order, good_account}
use Rattle.contents.specs.Calls.{View, lookup}
use Rattle.rooms.specs.Slots.{good_live, entries_parts, record_parts, record_number, account_records, account_order, account_good}
use Rattle.rooms.specs.Lookup.{lookup_all}
use Rattle.rooms.specs.Listed.{passes}
use Rattle.rooms.specs.Changed.{changed_good, changed_order}
use Rattle.stages.specs.Stage.{number_in, first_outside, days_of, is_unknown, removed_by, removed, put_over, entry, enter_known, enter_inside, enter, and_then, enter_all, close_by, stage_services, stage_by, stage_of}
use Rattle.stages.specs.Changing.{keeps_found, entry_keeps}
use Rattle.stages.specs.Permitted.{number_permitted, days_calendar}

-- ---- records that a service leaves are good

pub removed_good : (o : Option Record) → passes good_record o ≡ true → passes good_record (removed o) ≡ true
removed_good none q = refl
removed_good (some r) q = go r.live (entries_parts r.live r.pending (record_parts r q).1).0
  where
    go : (l : Option (List ℕ)) → good_live l ≡ true → passes good_record (removed_by r l) ≡ true
    go none e = refl
    go (some c) e = unfold good_record in unfold good_entries in rw (record_number r q, e)

put_entries : (l : Option (List ℕ)) (c : List ℕ) → good_live l ≡ true → is_calendar c ≡ true → good_entries l (put c) ≡ true
unfolding good_entries
put_entries none c q h = h
put_entries (some d) c q h = rw (q, h)

pub put_good : (x c : List ℕ) → good_number x ≡ true → is_calendar c ≡ true → (o : Option Record) → passes good_record o ≡ true → passes good_record (put_over x c o) ≡ true
unfolding good_record
put_good x c g h none q = rw g (put_entries none c refl h)
put_good x c g h (some r) q =
    rw (record_number r q) (put_entries r.live c (entries_parts r.live r.pending (record_parts r q).1).0 h)

pub found_good : (x : List ℕ) (rs : List Record) → all good_record rs ≡ true → passes good_record (lookup x rs) ≡ true
found_good x rs q = go (lookup x rs) refl
  where
    go : (o : Option Record) → lookup x rs ≡ o → passes good_record o ≡ true
    go none e = refl
    go (some r) e = lookup_all good_record x rs r q e

-- ---- the numbers of services that pass 11 are good numbers

abbrev pub Named : List ℕ → List ℕ → List Service → Type 0
Named s rows [] = Unit {0}
Named s rows (v ∷ vs) = (is_wrong s rows v ≡ false → good_number (number_in s v) ≡ true) × Named s rows vs

right_number : (s rows : List ℕ) (v : Service) → all permitted_of (number_in s v) ≡ true → is_wrong s rows v ≡ false → good_number (number_in s v) ≡ true
unfolding is_wrong good_number
right_number s rows v p q =
    let n : ℕ = length (plain (bytes_of s v.number)) in
    let f : Bool = periods_fit v.removal (has_period rows v.from v.to) in
    let w = both_parts (number_fits n) f (not-false (both (number_fits n) f) q) in
    rw (w.0, p)

module _ (wish : Bool) (s : List ℕ) (n : ℕ) where
  abbrev rows : List ℕ
  rows = numbers (reading_of wish s).rows

  named_from : (k i : ℕ) → i + k ≤ length (reading_of wish s).rows → Named s (numbers (reading_of wish s).rows) (list_of (is_service (numbers (reading_of wish s).rows)) (service_at s (numbers (reading_of wish s).rows) n) k i)
  unfolding list_of
  named_from zero i h = tt
  named_from (suc k) i h =
      choose (is_service rows i)
      (λ q. rw q (right_number s rows (service_at s rows n i) (number_permitted wish s n i (omega arith)), named_from k (i + 1) (omega arith)))
      (λ q. rw q (named_from k (i + 1) (omega arith)))

pub reading_named : (wish : Bool) (s : List ℕ) (m : ℕ) → Named s (numbers (reading_of wish s).rows) (services_of s (numbers (reading_of wish s).rows) m)
reading_named wish s m =
    let l = length_numbers (reading_of wish s).rows in
    named_from wish s (row_count (numbers (reading_of wish s).rows) m) (row_count (numbers (reading_of wish s).rows) m - 0) 0 (omega arith)

-- ---- one service after the other: records in order, each good

abbrev Sound : List Record → Type 0
Sound rs = (all good_record rs ≡ true) × (in_order rs ≡ true)

module _ (first : ℕ) (s rows : List ℕ) where
  entry_good : (v : Service) → good_number (number_in s v) ≡ true → (o : Option Record) → passes good_record o ≡ true → passes good_record (entry first s rows v o) ≡ true
  unfolding entry
  entry_good v x o q = by_kind v.removal
    where
      by_kind : (b : Bool) → passes good_record (pick b removed (put_over (number_in s v) (days_of true first s (periods_of rows v))) o) ≡ true
      by_kind true = removed_good o q
      by_kind false = put_good (number_in s v) (days_of true first s (periods_of rows v)) x (days_calendar true first s (periods_of rows v)) o q

  module _ (v : Service) (named : is_wrong s rows v ≡ false → good_number (number_in s v) ≡ true) (rs : List Record) (g : Sound rs) (new : List Record) where
    entered_known : good_number (number_in s v) ≡ true → enter_known first s rows v rs ≡ done new → Sound new
    unfolding enter_known
    entered_known x q =
        choose (both v.removal (is_unknown (lookup (number_in s v) rs)))
        (λ p. absurd (refused≢done (rw p at q)))
        (λ p.
        let k = keeps_found (number_in s v) (entry first s rows v) rs g.1 (entry_keeps first s rows v) in
        subst Sound (done_is (rw p at q)) (
          changed_good (number_in s v) (entry first s rows v) rs g.1 g.0 (entry_good v x (lookup (number_in s v) rs) (found_good (number_in s v) rs g.0)),
          changed_order (number_in s v) (entry first s rows v) rs g.1 k,
        ))

    entered_inside : good_number (number_in s v) ≡ true → (o : found.Option ℕ) → enter_inside o (enter_known first s rows v rs) ≡ done new → Sound new
    entered_inside x None q = entered_known x q
    entered_inside x (Some at) q = absurd (refused≢done q)

    entered_one : enter first s rows v rs ≡ done new → Sound new
    unfolding enter
    entered_one q =
        choose (is_wrong s rows v) (λ p. absurd (refused≢done (rw p at q)))
        (λ p.
        choose (is_twice s rows (bytes_of s v.number) v.from) (λ r. absurd (refused≢done (rw (p, r) at q)))
        (λ r. entered_inside (named p) (first_outside true first s (periods_of rows v)) (rw (p, r) at q)))

  entered_on : (vs : List Service) (new : List Record) → ((mid : List Record) → Sound mid → enter_all first s rows vs mid ≡ done new → Sound new)
      → (x : Answer (List Record)) → ((mid : List Record) → x ≡ done mid → Sound mid) → and_then (enter_all first s rows vs) x ≡ done new → Sound new
  entered_on vs new on (done mid) h q = on mid (h mid refl) q
  entered_on vs new on (refused refusal) h q = absurd (refused≢done q)

  entered_all : (vs : List Service) → Named s rows vs → (rs new : List Record) → Sound rs → enter_all first s rows vs rs ≡ done new → Sound new
  unfolding enter_all
  entered_all [] n rs new g q = subst Sound (done_is q) g
  entered_all (v ∷ vs) n rs new g q =
      entered_on vs new (λ mid h e. entered_all vs n.1 mid new h e) (enter first s rows v rs) (λ mid e. entered_one v n.0 rs g mid e) q

-- "then 15"
pub services_kept : (s rows : List ℕ) (vs : List Service) → Named s rows vs → (v : View) → good_account v.quota v.records ≡ true → good_account v.quota (stage_services s rows vs v).records ≡ true
services_kept s rows vs n v g = go (enter_all v.first s rows vs v.records) refl
  where
    go : (x : Answer (List Record)) → enter_all v.first s rows vs v.records ≡ x → good_account v.quota (close_by s (length vs) v x).records ≡ true
    go (refused refusal) e = g
    go (done rs) e =
        choose (leb (length rs) v.quota)
        (λ p.
        let w = entered_all v.first s rows vs n v.records rs (account_records v.quota v.records g, account_order v.quota v.records g) e in
        rw p (account_good v.quota rs (leb-true (length rs) v.quota p) w.0 w.1))
        (λ p. rw p g)

pub stage_kept : (wish : Bool) (s : List ℕ) (v : View) → good_account v.quota v.records ≡ true → good_account v.quota (stage_of wish s v).records ≡ true
unfolding stage_of
stage_kept wish s v g = go (reading_of wish s).verdict
  where
    go : (a : Verdict) → good_account v.quota (stage_by s (numbers (reading_of wish s).rows) (length (reading_of wish s).rows) a v).records ≡ true
    go (refused refusal) = g
    go (done u) = services_kept s (numbers (reading_of wish s).rows) (services_of s (numbers (reading_of wish s).rows) (length (reading_of wish s).rows)) (reading_named wish s (length (reading_of wish s).rows)) v g
