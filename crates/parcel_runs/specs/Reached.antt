-- A store that `begin` left and calls after it: what the next call finds and leaves there.
-- Assumes nothing.
use Rattle.std.specs.Prelude.{◌≡◌, refl, Bool, true, not, List, [], ◌∷◌, ℕ, ◌+◌, ◌*◌, ◌≤◌, ◌<◌, eqb, leb}
use Rattle.std.proofs.Common.{sym, subst, ◌∙◌, arith, length-append}
use Rattle.std.proofs.Math.Path.{ap}
use Rattle.std.proofs.Math.Bool.{false}
use Rattle.std.proofs.Math.Dec.{ltb}
use Rattle.std.proofs.Math.ListN.{length}
use borrow.Author.Tests.{eq-eqb, le-ltb, ltb-true, leb-false}
use Rattle.laws.specs.Choice.{pick, both, all, choose, both_false}
use Rattle.laws.specs.Lists.{between_none}
use Rattle.laws.specs.Put.{put_at, put_none, put_no_room}
use Rattle.answers.specs.Answers.{Answer, done, refused, bad_size, wrong_envelope, segment_too_long, output_too_short}
use Rattle.syntax.specs.Bytes.{terminator, permitted_of, stands}
use Rattle.syntax.specs.Segment.{permitted_run, body_answer}
use Rattle.placing.specs.Tables.{tables}
use Rattle.steps.specs.Step.{Taken, taken, segment_step}
use Rattle.interchange.specs.Reader.{is_closed, numbers}
use Rattle.interchange.specs.Laws.{length_numbers}
use Rattle.arrival.specs.Arrived.{Final, Stand, Brought, awaited, given, beginning, only, arrived_bytes, answered, longer, arrived_step, arrived_scan, arrived_segment, ending, awaited_byte, byte_by, byte_of, arrived_on, awaited_end, end_by, end_of}
use Rattle.arrival.specs.Folded.{arrived_stays}
use Rattle.parcel_store.specs.declared.Kept.{Kept}
use Rattle.parcel_store.specs.Store.{store_size, dialogue_place, reference_place, body_place, stand_of, held_in, head_of, keep}
use Rattle.parcel_store.specs.Bounds.{FinalFits, Fits}
use Rattle.parcel_store.specs.Numbers.{kept_read}
use Rattle.parcel_store.specs.Laws.{length_keep, held_kept}
use Rattle.parcel_store.specs.Onward.{answered_fits, fits_beginning, fits_on, held_on}
use Rattle.parcels.specs.Calls.{telling, is_store, brought_by, is_crowded, verdict_by, is_open, take_told, take_store, take_rows, finish_answer, finish_store, begin_store}
use Rattle.parcels.specs.CallLaws.{keep_head}

-- No more than 60,000 bytes are counted

abbrev Within : Brought → Type 0
Within x = arrived_bytes x.stand ≤ 60000

picked : (p : Bool) (a b : Brought) → (p ≡ true → Within a) → (p ≡ false → Within b) → Within (pick p a b)
picked true a b t f = t refl
picked false a b t f = f refl

step_within : (x : Stand) (g : List ℕ) → arrived_bytes x < 60000 → (a : Answer Taken) → Within (arrived_step x g a)
step_within x g h (done (taken st r)) = omega arith
step_within x g h (refused refusal) = omega arith

scan_within : (x : Stand) (g : List ℕ) → arrived_bytes x < 60000 → (a : Answer ℕ) → Within (arrived_scan x g a)
scan_within x g h (done e) = step_within x g h (segment_step tables x.state x.offset g x.dialogue x.reference)
scan_within x g h (refused refusal) = omega arith

awaited_within : (x : Stand) (b : ℕ) → arrived_bytes x ≤ 60000 → Within (awaited_byte x b)
unfolding awaited_byte
awaited_within x b h =
    let o = length-append x.body (b ∷ []) in
    let size = only (answered x bad_size) in
    let over = only (answered x (wrong_envelope x.offset)) in
    let long = only (answered x (segment_too_long x.offset)) in
    let last = pick (stands terminator x.released b) (arrived_segment x (ending x)) (only (longer x b)) in
    picked (leb 60000 (arrived_bytes x)) size (pick (is_closed x.state.phase) over (pick (leb 4096 (length x.body)) long last)) (λ q. omega arith)
    (λ q.
    let e = leb-false 60000 (arrived_bytes x) q in
    picked (is_closed x.state.phase) over (pick (leb 4096 (length x.body)) long last) (λ r. omega arith)
    (λ r. picked (leb 4096 (length x.body)) long last (λ t. omega arith)
    (λ t. picked (stands terminator x.released b) (arrived_segment x (ending x)) (only (longer x b))
    (λ u. scan_within x (ending x) e (body_answer (arrived_bytes x + 1) x.offset (ending x)))
    (λ u. omega arith))))

byte_within : (f : Final) (x : Stand) (b : ℕ) → arrived_bytes x ≤ 60000 → Within (byte_by f x b)
byte_within awaited x b h = awaited_within x b h
byte_within (given a) x b h = h

within_on : (x : Stand) (l : List ℕ) → arrived_bytes x ≤ 60000 → Within (arrived_on x l)
unfolding arrived_on
within_on x [] h = h
within_on x (b ∷ l) h = within_on (byte_of x b).stand l (byte_within x.final x b h)

-- a store with a reading that began at the beginning
pub record Reached (b : List ℕ) : Type 0 where
  pub size : length b ≡ store_size
  pub fits : Fits (held_in b)
  pub within : arrived_bytes (held_in b) ≤ 60000

reached_by : (b : List ℕ) (x : Stand) → length b ≡ store_size → held_in b ≡ x → Fits x → arrived_bytes x ≤ 60000 → Reached b
reached_by b x size e fits h =
    record { size = size; fits = subst Fits (sym e) fits; within = subst (λ (y : Stand). arrived_bytes y ≤ 60000) (sym e) h }

-- `begin`

same_beginning : (wish : Bool) {t d r : List ℕ} → t ≡ [] → d ≡ [] → r ≡ []
    → ◌≡◌ {A = Stand}
    (record { state = (beginning wish).state; offset = 0; body = t; released = false; dialogue = d; reference = r; count = 0; final = awaited })
    (beginning wish)
same_beginning wish p q u = rw (p, q, u)

pub held_begun : (wish : Bool) (b : List ℕ) → length b ≡ store_size → held_in (begin_store wish b) ≡ beginning wish
unfolding begin_store
held_begun wish b size =
    let h = put_at b 0 (head_of (beginning wish)) in
    rw (eq-eqb (length b) store_size size, keep_head (beginning wish) b refl)
    (ap (λ (k : Kept). stand_of k h) (kept_read (beginning wish) (fits_beginning wish) b h (omega arith) refl)
    ∙ same_beginning wish (between_none h body_place (body_place + 0) (omega arith)) (between_none h dialogue_place (dialogue_place + 0) (omega arith)) (between_none h reference_place (reference_place + 0) (omega arith)))

length_begun : (wish : Bool) (b : List ℕ) → length (begin_store wish b) ≡ length b
unfolding begin_store
length_begun wish b = choose (is_store b) (λ p. rw p (length_keep (only (beginning wish)) b)) (λ p. rw p)

pub reached_begun : (wish : Bool) (b : List ℕ) → length b ≡ store_size → Reached (begin_store wish b)
reached_begun wish b size = reached_by (begin_store wish b) (beginning wish) (length_begun wish b ∙ size) (held_begun wish b size) (fits_beginning wish) (omega arith)

-- A parcel

-- 17: nothing is taken
pub crowded_leaves : (b parcel lent : List ℕ) → is_crowded b parcel (length lent) ≡ true
    → (take_told b parcel (length lent) ≡ telling 0 output_too_short) × (take_store b parcel (length lent) ≡ b) × (take_rows b parcel lent ≡ lent)
unfolding take_told take_store take_rows
crowded_leaves b parcel lent q =
    let h = ltb-true (length lent) (3 * length (brought_by b parcel).rows) q in
    let n = length_numbers (brought_by b parcel).rows in
    let p = put_no_room lent 0 (numbers (brought_by b parcel).rows) (omega arith) in
    let z = both_false (is_open (held_in b).final) in
    choose (is_store b) (λ s. rw (s, q, z) (refl, refl, p)) (λ s. rw s (refl, refl, refl))

module _ (b parcel : List ℕ) (room : ℕ) (size : length b ≡ store_size) (roomy : is_crowded b parcel room ≡ false) where
  pub told_roomy : take_told b parcel room ≡ telling (length (brought_by b parcel).rows) (verdict_by (brought_by b parcel).stand.final)
  unfolding take_told
  told_roomy = rw (eq-eqb (length b) store_size size, roomy)

  store_open : (held_in b).final ≡ awaited → take_store b parcel room ≡ keep (brought_by b parcel) b
  unfolding take_store
  store_open f = rw (eq-eqb (length b) store_size size, ap is_open f, roomy)

store_given : (b parcel : List ℕ) (room : ℕ) (a : Answer ℕ) → (held_in b).final ≡ given a → take_store b parcel room ≡ b
unfolding take_store
store_given b parcel room a f = rw (ap is_open f, both_false (is_store b))

-- the store holds then where the reading stands after the parcel
pub held_taken : (b parcel : List ℕ) (room : ℕ) → Reached b → is_crowded b parcel room ≡ false → held_in (take_store b parcel room) ≡ (brought_by b parcel).stand
held_taken b parcel room reached roomy = by_final (held_in b).final refl
  where
    by_final : (f : Final) → (held_in b).final ≡ f → held_in (take_store b parcel room) ≡ (brought_by b parcel).stand
    by_final awaited e = ap held_in (store_open b parcel room reached.size roomy e) ∙ held_on b parcel reached.size reached.fits
    by_final (given a) e = ap held_in (store_given b parcel room a e) ∙ ap (λ (x : Brought). x.stand) (sym (arrived_stays (held_in b) a e parcel))

length_taken : (b parcel : List ℕ) (room : ℕ) → length (take_store b parcel room) ≡ length b
unfolding take_store
length_taken b parcel room =
    choose (both (is_store b) (both (is_open (held_in b).final) (not (is_crowded b parcel room)))) (λ p. rw p (length_keep (brought_by b parcel) b)) (λ p. rw p)

pub reached_taken : (b parcel lent : List ℕ) → Reached b → Reached (take_store b parcel (length lent))
reached_taken b parcel lent r =
    choose (is_crowded b parcel (length lent)) (λ q. subst Reached (sym (crowded_leaves b parcel lent q).1) r)
    (λ q.
    reached_by (take_store b parcel (length lent)) (brought_by b parcel).stand (length_taken b parcel (length lent) ∙ r.size) (held_taken b parcel (length lent) r q)
    (fits_on (held_in b) parcel r.fits) (within_on (held_in b) parcel r.within))

-- The final answer is there

module _ (b : List ℕ) (a : Answer ℕ) (size : length b ≡ store_size) (f : (held_in b).final ≡ given a) where
  pub take_repeats : (parcel lent : List ℕ) → (take_told b parcel (length lent) ≡ telling 0 (verdict_by (given a))) × (take_store b parcel (length lent) ≡ b) × (take_rows b parcel lent ≡ lent)
  unfolding take_rows numbers
  take_repeats parcel lent =
      let s = arrived_stays (held_in b) a f parcel in
      let c : is_crowded b parcel (length lent) ≡ false = ap (λ (x : Brought). ltb (length lent) (3 * length x.rows)) s ∙ le-ltb (length lent) 0 (omega arith) in (
        told_roomy b parcel (length lent) size c ∙ ap (λ (x : Brought). telling (length x.rows) (verdict_by x.stand.final)) s ∙ ap (λ (x : Final). telling 0 (verdict_by x)) f,
        store_given b parcel (length lent) a f,
        rw (eq-eqb (length b) store_size size) (ap (λ (x : Brought). put_at lent 0 (numbers x.rows)) s ∙ put_none lent 0),
      )

  pub finish_repeats : (finish_answer b ≡ a) × (finish_store b ≡ b)
  unfolding finish_answer finish_store
  finish_repeats = rw (eq-eqb (length b) store_size size, ap is_open f) (ap (λ (x : Final). end_by x (held_in b)) f, refl)

-- The input is over

run_within : (g : List ℕ) → permitted_run g ≤ length g
unfolding permitted_run
run_within [] = omega arith
run_within (b ∷ l) = choose (permitted_of b) (λ q. rw q (let h = run_within l in omega arith)) (λ q. rw q (omega arith))

-- a segment's body that no terminator ends
cut_fits : (count at : ℕ) (g : List ℕ) → at + length g ≤ 60000 → FinalFits count (given (body_answer (at + length g) at g))
unfolding body_answer
cut_fits count at g h =
    let r = run_within g in
    choose (all permitted_of g) (λ p. rw (p, le-ltb (at + length g) (at + length g) (omega arith)) (omega arith, omega arith, omega arith, refl)) (λ p. rw p (omega arith, omega arith, omega arith, refl))

end_fits : (x : Stand) → arrived_bytes x ≤ 60000 → FinalFits x.count (given (awaited_end x))
unfolding awaited_end
end_fits x h =
    choose (eqb (arrived_bytes x) 0) (λ p. rw p (omega arith, omega arith, omega arith, refl))
    (λ p.
    rw p
    (choose (eqb (length x.body) 0)
    (λ q. rw q (choose (is_closed x.state.phase) (λ r. rw r refl) (λ r. rw r (omega arith, omega arith, omega arith, refl))))
    (λ q. rw q (cut_fits x.count x.offset x.body h))))

-- the store has the final answer then
pub finished : (b : List ℕ) → Reached b → (length (finish_store b) ≡ store_size) × ((held_in (finish_store b)).final ≡ given (finish_answer b))
unfolding finish_answer finish_store
finished b r = by_final (held_in b).final refl
  where
    by_final : (f : Final) → (held_in b).final ≡ f → (length (finish_store b) ≡ store_size) × ((held_in (finish_store b)).final ≡ given (finish_answer b))
    by_final awaited e =
        let x = held_in b in
        let z = end_of x in
        let g : z ≡ awaited_end x = ap (λ (f : Final). end_by f x) e in
        let fits = answered_fits x r.fits z (subst (λ (a : Answer ℕ). FinalFits x.count (given a)) (sym g) (end_fits x r.within)) in
        rw (eq-eqb (length b) store_size r.size, ap is_open e)
        (length_keep (only (answered x z)) b ∙ r.size, ap (λ (s : Stand). s.final) (held_kept (only (answered x z)) b r.size fits (λ _. refl) (λ _. refl)))
    by_final (given a) e =
        rw (eq-eqb (length b) store_size r.size, ap is_open e)
        (r.size, e ∙ ap given (sym (ap (λ (f : Final). end_by f (held_in b)) e)))
