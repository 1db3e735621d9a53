-- Calls of `take` one after the other, on a store that `begin` left, and then `finish` (document 02, A1): the rows given out, their order and the final answer do not depend on the
-- cuts, and where the segments have 4,096 bytes at most they are those of `read`.
-- Assumes nothing.
use Rattle.std.specs.Prelude.{◌≡◌, refl, Bool, true, false, not, List, [], ◌∷◌, ◌++◌, map, ℕ, ◌*◌, ◌≤◌, ltb, length, take}
use Rattle.std.proofs.Common.{sym, ap, ◌∙◌, arith, eq-eqb, le-ltb, ltb-false}
use Rattle.std.proofs.lemmas.Bool.{not-true}
use Rattle.laws.specs.Choice.{pick, both, both_parts, choose}
use Rattle.laws.specs.Put.{put_at, take_put}
use Rattle.answers.specs.declared.Refusal.{Refusal}
use Rattle.answers.specs.Answers.{Answer, done, refused, number, output_too_short}
use Rattle.answers.specs.Laws.{done≢refused, refused_is}
use Rattle.interchange.specs.Reader.{Verdict, accepted, numbers, outcome_answer, reading_of}
use Rattle.interchange.specs.Laws.{length_numbers, numbers_append}
use Rattle.arrival.specs.Arrived.{Final, Stand, Brought, awaited, given, arrived_on, arrived, end_of}
use Rattle.arrival.specs.Folded.{arrived_append}
use Rattle.arrival.specs.Fits.{segments_fit}
use Rattle.arrival.specs.Agreement.{agrees, agrees_read}
use Rattle.parcel_store.specs.Store.{store_size, held_in}
use Rattle.parcels.specs.Calls.{Told, telling, brought_by, is_crowded, verdict_by, take_told, take_store, take_rows, finish_answer, finish_store, begin_store}
use Rattle.parcel_runs.specs.Reached.{Reached, held_begun, reached_begun, crowded_leaves, told_roomy, held_taken, reached_taken, take_repeats, finish_repeats, finished}

-- a call: the parcel, and the buffer lent for its rows
pub record Call : Type 0 where
  pub parcel : List ℕ
  pub lent : List ℕ

-- what a call tells, what it leaves in the buffer and in the store, and whether it has no room
abbrev pub call_told : List ℕ → Call → Told
call_told b x = take_told b x.parcel (length x.lent)

abbrev pub call_rows : List ℕ → Call → List ℕ
call_rows b x = take_rows b x.parcel x.lent

abbrev pub call_store : List ℕ → Call → List ℕ
call_store b x = take_store b x.parcel (length x.lent)

abbrev pub call_crowded : List ℕ → Call → Bool
call_crowded b x = is_crowded b x.parcel (length x.lent)

-- the numbers given out: three for each row told, from the front of the buffer
abbrev pub call_given : List ℕ → Call → List ℕ
call_given b x = take (3 * (call_told b x).rows) (call_rows b x)

-- a run of calls: what each told, the numbers given out, one call after the other, and the store after them
unfoldable pub run_told : List ℕ → List Call → List Told
run_told b [] = []
run_told b (x ∷ l) = call_told b x ∷ run_told (call_store b x) l

unfoldable pub run_given : List ℕ → List Call → List ℕ
run_given b [] = []
run_given b (x ∷ l) = call_given b x ++ run_given (call_store b x) l

unfoldable pub run_store : List ℕ → List Call → List ℕ
run_store b [] = b
run_store b (x ∷ l) = run_store (call_store b x) l

-- the parcels, joined
unfoldable pub joined_parcels : List Call → List ℕ
joined_parcels [] = []
joined_parcels (x ∷ l) = x.parcel ++ joined_parcels l

-- whether each call has room when its turn comes
unfoldable pub roomy : List ℕ → List Call → Bool
roomy b [] = true
roomy b (x ∷ l) = both (not (call_crowded b x)) (roomy (call_store b x) l)

-- the calls of a run that have room when their turn comes
unfoldable pub fitting : List ℕ → List Call → List Call
fitting b [] = []
fitting b (x ∷ l) = pick (call_crowded b x) (fitting b l) (x ∷ fitting (call_store b x) l)

-- the final answer is there: any call, and the end of the input, tell it again, and leave store and buffer as they are
pub record Repeats (b : List ℕ) (v : Verdict) (a : Answer ℕ) : Type 0 where
  pub told : (x : Call) → call_told b x ≡ telling 0 v
  pub store : (x : Call) → call_store b x ≡ b
  pub rows : (x : Call) → call_rows b x ≡ x.lent
  pub answer : finish_answer b ≡ a
  pub left : finish_store b ≡ b

-- ---- the rows, their order and the final answer

-- one call
given_roomy : (b : List ℕ) (x : Call) → length b ≡ store_size → call_crowded b x ≡ false → call_given b x ≡ numbers (brought_by b x.parcel).rows
unfolding take_rows
given_roomy b x size q =
    let y = brought_by b x.parcel in
    let h = ltb-false (length x.lent) (3 * length y.rows) q in
    let n = length_numbers y.rows in
    let t = ap (λ (z : Told). 3 * z.rows) (told_roomy b x.parcel (length x.lent) size q) in
    rw (eq-eqb (length b) store_size size) (take_put x.lent (numbers y.rows) (put_at x.lent 0 (numbers y.rows)) (3 * (call_told b x).rows) refl (t ∙ sym n) (omega arith))

reached_run : (b : List ℕ) (l : List Call) → Reached b → Reached (run_store b l)
unfolding run_store
reached_run b [] r = r
reached_run b (x ∷ l) r = reached_run (call_store b x) l (reached_taken b x.parcel x.lent r)

run_from : (b : List ℕ) (l : List Call) → Reached b → roomy b l ≡ true
    → (run_given b l ≡ numbers (arrived_on (held_in b) (joined_parcels l)).rows) × (held_in (run_store b l) ≡ (arrived_on (held_in b) (joined_parcels l)).stand)
unfolding run_given run_store joined_parcels roomy arrived_on numbers
run_from b [] r q = (refl, refl)
run_from b (x ∷ l) r q =
    let w = both_parts (not (call_crowded b x)) (roomy (call_store b x) l) q in
    let n = not-true (call_crowded b x) w.0 in
    let y = brought_by b x.parcel in
    let c = call_store b x in
    let h = held_taken b x.parcel (length x.lent) r n in
    let rest = run_from c l (reached_taken b x.parcel x.lent r) w.1 in
    let a = arrived_append (held_in b) x.parcel (joined_parcels l) in (
      ap (λ (k : List ℕ). k ++ run_given c l) (given_roomy b x r.size n)
          ∙ ap (λ (k : List ℕ). numbers y.rows ++ k) (rest.0 ∙ ap (λ (s : Stand). numbers (arrived_on s (joined_parcels l)).rows) h)
          ∙ sym (numbers_append y.rows (arrived_on y.stand (joined_parcels l)).rows)
          ∙ ap (λ (z : Brought). numbers z.rows) (sym a),
      rest.1 ∙ ap (λ (s : Stand). (arrived_on s (joined_parcels l)).stand) h ∙ ap (λ (z : Brought). z.stand) (sym a),
    )

end_reached : (b : List ℕ) → length b ≡ store_size → finish_answer b ≡ end_of (held_in b)
unfolding finish_answer
end_reached b size = rw (eq-eqb (length b) store_size size)

-- a run in which each call has room gives out what arrived, and ends with its final answer
pub runs_as_arrived : (wish : Bool) (b : List ℕ) (l : List Call) → length b ≡ store_size → roomy (begin_store wish b) l ≡ true
    → (run_given (begin_store wish b) l ≡ numbers (arrived wish (joined_parcels l)).rows) × (finish_answer (run_store (begin_store wish b) l) ≡ end_of (arrived wish (joined_parcels l)).stand)
runs_as_arrived wish b l size q =
    let r = reached_begun wish b size in
    let w = run_from (begin_store wish b) l r q in
    let e = held_begun wish b size in (
      w.0 ∙ ap (λ (s : Stand). numbers (arrived_on s (joined_parcels l)).rows) e,
      end_reached (run_store (begin_store wish b) l) (reached_run (begin_store wish b) l r).size ∙ ap end_of (w.1 ∙ ap (λ (s : Stand). (arrived_on s (joined_parcels l)).stand) e),
    )

-- "The rows given out, their order and the final answer must not depend on the cuts."
pub cuts_alike : (wish : Bool) (b c : List ℕ) (l m : List Call) → length b ≡ store_size → length c ≡ store_size → roomy (begin_store wish b) l ≡ true → roomy (begin_store wish c) m ≡ true
    → joined_parcels l ≡ joined_parcels m
    → (run_given (begin_store wish b) l ≡ run_given (begin_store wish c) m) × (finish_answer (run_store (begin_store wish b) l) ≡ finish_answer (run_store (begin_store wish c) m))
cuts_alike wish b c l m bs cs p q e =
    let v = runs_as_arrived wish b l bs p in
    let w = runs_as_arrived wish c m cs q in
    (v.0 ∙ ap (λ (s : List ℕ). numbers (arrived wish s).rows) e ∙ sym w.0, v.1 ∙ ap (λ (s : List ℕ). end_of (arrived wish s).stand) e ∙ sym w.1)

-- "an empty parcel being allowed": it adds nothing to what is joined, and has room in any buffer

-- whether each call has room, by what arrived
unfoldable roomy_on : Stand → List Call → Bool
roomy_on s [] = true
roomy_on s (x ∷ l) = both (not (ltb (length x.lent) (3 * length (arrived_on s x.parcel).rows))) (roomy_on (arrived_on s x.parcel).stand l)

roomy_held : (b : List ℕ) (l : List Call) → Reached b → roomy b l ≡ roomy_on (held_in b) l
unfolding roomy roomy_on
roomy_held b [] r = refl
roomy_held b (x ∷ l) r =
    choose (call_crowded b x) (λ q. rw q)
    (λ q.
    rw q
    (roomy_held (call_store b x) l (reached_taken b x.parcel x.lent r)
    ∙ ap (λ (s : Stand). roomy_on s l) (held_taken b x.parcel (length x.lent) r q)))

abbrev pub empty_call : List ℕ → Call
empty_call lent = record { parcel = []; lent = lent }

roomy_empty : (s : Stand) (l m : List Call) (lent : List ℕ) → roomy_on s (l ++ (empty_call lent ∷ m)) ≡ roomy_on s (l ++ m)
unfolding roomy_on arrived_on
roomy_empty s [] m lent = rw (le-ltb (length lent) 0 (omega arith))
roomy_empty s (x ∷ l) m lent =
    ap (λ (p : Bool). both (not (ltb (length x.lent) (3 * length (arrived_on s x.parcel).rows))) p) (roomy_empty (arrived_on s x.parcel).stand l m lent)

joined_empty : (l m : List Call) (lent : List ℕ) → joined_parcels (l ++ (empty_call lent ∷ m)) ≡ joined_parcels (l ++ m)
unfolding joined_parcels
joined_empty [] m lent = refl
joined_empty (x ∷ l) m lent = ap (λ (s : List ℕ). x.parcel ++ s) (joined_empty l m lent)

pub empty_alike : (wish : Bool) (b : List ℕ) (l m : List Call) (lent : List ℕ) → length b ≡ store_size → roomy (begin_store wish b) (l ++ m) ≡ true
    → (run_given (begin_store wish b) (l ++ (empty_call lent ∷ m)) ≡ run_given (begin_store wish b) (l ++ m))
    × (finish_answer (run_store (begin_store wish b) (l ++ (empty_call lent ∷ m))) ≡ finish_answer (run_store (begin_store wish b) (l ++ m)))
empty_alike wish b l m lent size q =
    let r = reached_begun wish b size in
    let more = l ++ (empty_call lent ∷ m) in
    let p = roomy_held (begin_store wish b) more r ∙ roomy_empty (held_in (begin_store wish b)) l m lent ∙ sym (roomy_held (begin_store wish b) (l ++ m) r) ∙ q in
    cuts_alike wish b b more (l ++ m) size size p q (joined_empty l m lent)

-- "Where the whole reader accepts, rows and answer equal its own; where it refuses, so does this one, same number and position, after the rows of the segments before the fault."
-- `room` is the room of the buffer that is lent to `read`.
pub runs_as_read : (wish : Bool) (b : List ℕ) (l : List Call) (s : List ℕ) (room : ℕ) → length b ≡ store_size → roomy (begin_store wish b) l ≡ true → joined_parcels l ≡ s
    → length s ≤ 60000 → segments_fit s ≡ true → 3 * length (reading_of wish s).rows ≤ room
    → (run_given (begin_store wish b) l ≡ numbers (reading_of wish s).rows) × (finish_answer (run_store (begin_store wish b) l) ≡ outcome_answer (reading_of wish s) room)
runs_as_read wish b l s room size q e small fits h =
    let w = runs_as_arrived wish b l size q in
    (w.0 ∙ ap (λ (t : List ℕ). numbers (arrived wish t).rows) e ∙ ap numbers (agrees wish s small fits).0, w.1 ∙ ap (λ (t : List ℕ). end_of (arrived wish t).stand) e ∙ agrees_read wish s small fits room h)

-- ---- "17 where a parcel's rows do not fit, that parcel then not taken"

pub crowded_call : (b : List ℕ) (x : Call) → call_crowded b x ≡ true → (call_told b x ≡ telling 0 output_too_short) × (call_store b x ≡ b) × (call_rows b x ≡ x.lent)
crowded_call b x q = crowded_leaves b x.parcel x.lent q

-- a run goes on as without it
pub crowded_before : (b : List ℕ) (x : Call) (l : List Call) → call_crowded b x ≡ true → (run_given b (x ∷ l) ≡ run_given b l) × (run_store b (x ∷ l) ≡ run_store b l)
unfolding run_given run_store
crowded_before b x l q =
    let w = crowded_call b x q in
    let n : take (3 * (call_told b x).rows) (call_rows b x) ≡ [] = ap (λ (t : Told). take (3 * t.rows) (call_rows b x)) w.0 in
    (ap (λ (k : List ℕ). k ++ run_given (call_store b x) l) n ∙ ap (λ (c : List ℕ). run_given c l) w.1, ap (λ (c : List ℕ). run_store c l) w.1)

-- so any run gives what the run of those calls gives that have room
pub crowded_out : (b : List ℕ) (l : List Call) → (run_given b l ≡ run_given b (fitting b l)) × (run_store b l ≡ run_store b (fitting b l)) × (roomy b (fitting b l) ≡ true)
unfolding run_given run_store roomy fitting
crowded_out b [] = (refl, refl, refl)
crowded_out b (x ∷ l) =
    choose (call_crowded b x)
    (λ q.
    let w = crowded_out b l in
    let v = crowded_before b x l q in
    rw q (v.0 ∙ w.0, v.1 ∙ w.1, w.2))
    (λ q.
    let w = crowded_out (call_store b x) l in
    rw q (ap (λ (k : List ℕ). call_given b x ++ k) w.0, w.1, ap (λ (p : Bool). both (not p) (roomy (call_store b x) (fitting (call_store b x) l))) q ∙ w.2))

-- and ends with the final answer of what they brought
pub taken_as_arrived : (wish : Bool) (b : List ℕ) (l : List Call) → length b ≡ store_size
    → (run_given (begin_store wish b) l ≡ numbers (arrived wish (joined_parcels (fitting (begin_store wish b) l))).rows)
    × (finish_answer (run_store (begin_store wish b) l) ≡ end_of (arrived wish (joined_parcels (fitting (begin_store wish b) l))).stand)
taken_as_arrived wish b l size =
    let w = crowded_out (begin_store wish b) l in
    let v = runs_as_arrived wish b (fitting (begin_store wish b) l) size w.2 in
    (w.0 ∙ v.0, ap finish_answer w.1 ∙ v.1)

-- ---- "later calls repeat the final answer"

repeats_given : (b : List ℕ) (a : Answer ℕ) → length b ≡ store_size → (held_in b).final ≡ given a → Repeats b (verdict_by (given a)) a
repeats_given b a size f =
    record {
      told = λ x. (take_repeats b a size f x.parcel x.lent).0;
      store = λ x. (take_repeats b a size f x.parcel x.lent).1;
      rows = λ x. (take_repeats b a size f x.parcel x.lent).2;
      answer = (finish_repeats b a size f).0;
      left = (finish_repeats b a size f).1;
    }

verdict_final : (f : Final) (refusal : Refusal) → verdict_by f ≡ refused refusal → f ≡ given (refused refusal)
verdict_final awaited refusal e = absurd (done≢refused e)
verdict_final (given (done n)) refusal e = absurd (done≢refused e)
verdict_final (given (refused x)) refusal e = ap (λ (y : Refusal). given (refused y)) (refused_is e)

-- a call that names a fault, after any calls
pub refusal_repeats : (wish : Bool) (b : List ℕ) (l : List Call) (x : Call) (refusal : Refusal) → length b ≡ store_size
    → (call_told (run_store (begin_store wish b) l) x).verdict ≡ refused refusal → (refusal.number ≡ 17 → ⊥)
    → Repeats (call_store (run_store (begin_store wish b) l) x) (refused refusal) (refused refusal)
refusal_repeats wish b l x refusal size v other =
    let c = run_store (begin_store wish b) l in
    let r = reached_run (begin_store wish b) l (reached_begun wish b size) in
    choose (call_crowded c x)
    (λ q. absurd (other (sym (ap number (sym (ap (λ (t : Told). t.verdict) (crowded_call c x q).0) ∙ v)))))
    (λ q.
    let f = verdict_final (brought_by c x.parcel).stand.final refusal (sym (ap (λ (t : Told). t.verdict) (told_roomy c x.parcel (length x.lent) r.size q)) ∙ v) in
    repeats_given (call_store c x) (refused refusal) (reached_taken c x.parcel x.lent r).size
    (ap (λ (s : Stand). s.final) (held_taken c x.parcel (length x.lent) r q) ∙ f))

-- the end of the input, after any calls
pub end_repeats : (wish : Bool) (b : List ℕ) (l : List Call) (a : Answer ℕ) → length b ≡ store_size → finish_answer (run_store (begin_store wish b) l) ≡ a
    → Repeats (finish_store (run_store (begin_store wish b) l)) (verdict_by (given a)) a
end_repeats wish b l a size e =
    let c = run_store (begin_store wish b) l in
    let w = finished c (reached_run (begin_store wish b) l (reached_begun wish b size)) in
    repeats_given (finish_store c) a w.0 (w.1 ∙ ap given e)

-- so that after an accepted one a parcel has neither row nor fault
pub accepted_repeats : (wish : Bool) (b : List ℕ) (l : List Call) (n : ℕ) → length b ≡ store_size → finish_answer (run_store (begin_store wish b) l) ≡ done n
    → Repeats (finish_store (run_store (begin_store wish b) l)) accepted (done n)
accepted_repeats wish b l n size e = end_repeats wish b l (done n) size e

pub refused_repeats : (wish : Bool) (b : List ℕ) (l : List Call) (refusal : Refusal) → length b ≡ store_size → finish_answer (run_store (begin_store wish b) l) ≡ refused refusal
    → Repeats (finish_store (run_store (begin_store wish b) l)) (refused refusal) (refused refusal)
refused_repeats wish b l refusal size e = end_repeats wish b l (refused refusal) size e

-- any calls then
pub repeats_run : (b : List ℕ) (v : Verdict) (a : Answer ℕ) → Repeats b v a → (l : List Call)
    → (run_told b l ≡ map (λ (x : Call). telling 0 v) l) × (run_given b l ≡ []) × (run_store b l ≡ b)
unfolding run_told run_given run_store
repeats_run b v a r [] = (refl, refl, refl)
repeats_run b v a r (x ∷ l) =
    let w = repeats_run b v a r l in
    let s = r.store x in
    let n : take (3 * (call_told b x).rows) (call_rows b x) ≡ [] = ap (λ (t : Told). take (3 * t.rows) (call_rows b x)) (r.told x) in (
      ap (λ (t : Told). t ∷ run_told (call_store b x) l) (r.told x) ∙ ap (λ (c : List ℕ). telling 0 v ∷ run_told c l) s ∙ ap (λ (k : List Told). telling 0 v ∷ k) w.0,
      ap (λ (k : List ℕ). k ++ run_given (call_store b x) l) n ∙ ap (λ (c : List ℕ). run_given c l) s ∙ w.1,
      ap (λ (c : List ℕ). run_store c l) s ∙ w.2,
    )
