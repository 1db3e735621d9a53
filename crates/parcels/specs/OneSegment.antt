-- One segment of a parcel: what is kept after it, and what it brings.
-- Assumes nothing.
use Rattle.std.specs.Prelude.{◌≡◌, refl, Bool, true, false, ℕ, zero, suc, ◌+◌, ◌-◌, ◌%◌, ◌≤◌, ◌<◌, length, take, drop, replicate, Result, Err}
use Rattle.std.proofs.Common.{sym, subst, ◌∙◌, arith, length-take, length-drop, length-append, length-take-le, drop_at}
use Rattle.std.proofs.Math.Path.{ap}
use mathlib.Core.List.{List, [], ◌∷◌, ◌++◌, append_assoc}
use Rattle.std.proofs.Math.Nat.{sub-zero, zero-sub}
use Rattle.std.proofs.lemmas.List.{length-replicate}
use Rattle.std.proofs.Math.Seq.{drop-length}
use Rattle.laws.specs.Choice.{pick, false≢true}
use Rattle.laws.specs.Lists.{between, length_between, between_none}
use Rattle.laws.specs.Put.{put_at, put_front, put_behind, take_put, length_put}
use Rattle.laws.specs.Filled.{filled_up}
use Rattle.answers.specs.Answers.{refused, moved_to}
use Rattle.answers.specs.declared.Refusal.{Refusal}
use Rattle.syntax.specs.Segment.{segment_at}
use Rattle.parts.specs.declared.Part.{Part}
use Rattle.parts.specs.Places.{bytes_of}
use Rattle.placing.specs.Table.{Table}
use Rattle.placing.specs.Tables.{tables}
use Rattle.steps.specs.declared.state.State.{State}
use Rattle.steps.specs.declared.state.Row.{Row}
use Rattle.steps.specs.State.{one_more}
use Rattle.interchange.specs.declared.turn.Turn.{Turn}
use Rattle.interchange.specs.Reader.{turn_with, numbers, goes_on}
use Rattle.arrival.specs.Arrived.{Stand, Brought, awaited, only, answered, bare, opens, heads, followed, arrived_on}
use Rattle.arrival.specs.Passing.{raise, after, one_within, one_on, stop_within, one_stop}
use Rattle.parcel_store.specs.declared.Final.{Final}
use Rattle.parcel_store.specs.declared.Final.TheVariants.{Awaited}
use Rattle.parcel_store.specs.declared.Kept.{Kept}
use Rattle.parcel_store.specs.Store.{part_size, store_size, dialogue_place, reference_place, body_place, final_by, stand_of, put_part, referred}
use Rattle.parcel_store.specs.Puts.{before_kept, behind_kept, length_filled, filled_read}
use Rattle.parcels.specs.declared.passing.Progress.{Progress}
use Rattle.parcels.specs.Rows.{raised}
use Rattle.parcels.specs.Onward.{Sized, Onward, named_at, onward_named, length_part}
use Rattle.parcels.specs.Passing.{passed_kept, passed_store, Ready, ReadyPiece, Faster}

-- A text put over zeros is filled up

drop_replicate : (k n a : ℕ) → drop k (replicate n a) ≡ replicate (n - k) a
drop_replicate zero n a = rw sub-zero
drop_replicate (suc k) zero a = rw zero-sub
drop_replicate (suc k) (suc n) a =
    let e : suc n - suc k ≡ n - k = omega arith in
    rw e (drop_replicate k n a)

pub put_zeros : (n : ℕ) (o t : List ℕ) → o ≡ put_at (replicate n 0) 0 t → length t ≤ n → o ≡ filled_up n t
unfolding filled_up
put_zeros n o t e h =
    let l = length-replicate {A = ℕ} n 0 in
    e ∙ put_front (replicate n 0) t (omega arith) ∙ ap (λ (x : List ℕ). t ++ x) (drop_replicate (length t) n 0)

-- What is kept of a segment

pub length_bytes : (g : List ℕ) (p : Part) → length (bytes_of g p) ≤ length g
length_bytes g p = simp (length-take, length-drop) (omega arith)

-- a reference in its place
pub place_read : (came : Bool) (b : List ℕ) (at : ℕ) (t : List ℕ) (n : ℕ) → length t ≤ part_size → at + part_size ≤ length b
    → between (put_part came b at t) at (at + pick came (length t) n) ≡ pick came t (between b at (at + n))
place_read true b at t n h l = filled_read b at part_size t h l
place_read false b at t n h l = refl

-- and what stands before it and behind it
pub place_before : (came : Bool) (b : List ℕ) (at : ℕ) (t : List ℕ) (from to : ℕ) → to ≤ at → between (put_part came b at t) from to ≡ between b from to
place_before true b at t from to h = before_kept b at (filled_up part_size t) from to h
place_before false b at t from to h = refl

pub place_behind : (came : Bool) (b : List ℕ) (at : ℕ) (t : List ℕ) (from to : ℕ) → length t ≤ part_size → at + part_size ≤ from → between (put_part came b at t) from to ≡ between b from to
place_behind true b at t from to l h =
    let k = length_filled part_size t l in
    behind_kept b at (filled_up part_size t) from to (omega arith)
place_behind false b at t from to l h = refl

-- only what came is put
came_part : (came : Bool) (b : List ℕ) (at : ℕ) (t old : List ℕ) → put_part came b at t ≡ put_part came b at (pick came t old)
came_part true b at t old = refl
came_part false b at t old = refl

picked_small : (came : Bool) (m n limit : ℕ) → m ≤ limit → n ≤ limit → pick came m n ≤ limit
picked_small true m n limit h k = h
picked_small false m n limit h k = k

-- a reference that did not come, and one that came
pub not_kept : (came : Bool) (b : List ℕ) (at : ℕ) (t : List ℕ) (n : ℕ) → came ≡ false → n ≤ part_size → ((n ≡ pick came (length t) n) × (n ≤ part_size)) × (b ≡ put_part came b at t)
not_kept true b at t n e h = absurd (false≢true (sym e))
not_kept false b at t n e h = ((refl, h), refl)

pub kept_now : (came : Bool) (b : List ℕ) (at : ℕ) (g t : List ℕ) (p : Part) (n : ℕ) (c : List ℕ) → came ≡ true → t ≡ bytes_of g p → length g ≤ part_size → c ≡ put_at b at (filled_up part_size t)
    → ((length t ≡ pick came (length (bytes_of g p)) n) × (length t ≤ part_size)) × (c ≡ put_part came b at (bytes_of g p))
kept_now true b at g t p n c e f h o =
    let l = ap length f in
    let m = length_bytes g p in
    ((l, omega arith), o ∙ ap (λ (x : List ℕ). put_at b at (filled_up part_size x)) f)
kept_now false b at g t p n c e f h o = absurd (false≢true e)

pub text_short : (g t : List ℕ) (p : Part) → t ≡ bytes_of g p → length g ≤ part_size → length t ≤ part_size
text_short g t p f h =
    let l = ap length f in
    let m = length_bytes g p in
    omega arith

module _ (k : Kept) (g : List ℕ) (next : State) (n : ℕ) (w : Sized k) (short : length g ≤ part_size) where
  abbrev dialogue : List ℕ
  dialogue = bytes_of g next.dialogue

  abbrev reference : List ℕ
  reference = bytes_of g next.reference

  dialogue_short : length dialogue ≤ part_size
  dialogue_short = let h = length_bytes g next.dialogue in omega arith

  reference_short : length reference ≤ part_size
  reference_short = let h = length_bytes g next.reference in omega arith

  pub passed_sized : k.offset + n < 65536 → Sized (passed_kept k g next n)
  passed_sized h =
      record {
        body = omega arith;
        dialogue = picked_small (opens k.state.phase) (length dialogue) k.dialogue part_size dialogue_short w.dialogue;
        reference = picked_small (heads k.state.phase next.phase) (length reference) k.reference part_size reference_short w.reference;
        offset = h;
      }

  -- the same with the numbers that were answered
  abbrev told : ℕ → ℕ → ℕ → Kept
  told d r c = record { state = next; offset = k.offset + n; body = 0; released = false; dialogue = d; reference = r; count = c; answer = Awaited }

  pub passed_is : (d r c : ℕ) → d ≡ (passed_kept k g next n).dialogue → r ≡ (passed_kept k g next n).reference → c ≡ one_more k.count → k.offset + n < 65536
      → (told d r c ≡ passed_kept k g next n) × Sized (told d r c)
  passed_is d r c e f o h =
      let u : told d r c ≡ passed_kept k g next n =
      ap (λ (m : ℕ). told m r c) e ∙ ap (λ (m : ℕ). told (passed_kept k g next n).dialogue m c) f ∙ ap (told (passed_kept k g next n).dialogue (passed_kept k g next n).reference) o
      in
      (u, subst Sized (sym u) (passed_sized h))

  -- and the store, one reference after the other
  pub passed_left : (b c o : List ℕ) → c ≡ put_part (opens k.state.phase) b dialogue_place dialogue → o ≡ put_part (heads k.state.phase next.phase) c reference_place reference
      → o ≡ passed_store k g next b
  passed_left b c o e f = f ∙ ap (λ (l : List ℕ). put_part (heads k.state.phase next.phase) l reference_place reference) e

  module _ (b : List ℕ) (big : length b ≡ store_size) where
    abbrev opened : Bool
    opened = opens k.state.phase

    abbrev headed : Bool
    headed = heads k.state.phase next.phase

    abbrev first : List ℕ
    first = put_part opened b dialogue_place dialogue

    dialogue_stands : (stand_of (passed_kept k g next n) (passed_store k g next b)).dialogue ≡ (after (stand_of k b) g next n).dialogue
    dialogue_stands =
        let l = picked_small opened (length dialogue) k.dialogue part_size dialogue_short w.dialogue in
        place_before headed first reference_place reference dialogue_place (dialogue_place + pick opened (length dialogue) k.dialogue) (omega arith)
        ∙ place_read opened b dialogue_place dialogue k.dialogue dialogue_short (omega arith)

    reference_stands : (stand_of (passed_kept k g next n) (passed_store k g next b)).reference ≡ (after (stand_of k b) g next n).reference
    reference_stands =
        let l = length_part opened b dialogue_place dialogue in
        place_read headed first reference_place reference k.reference reference_short (omega arith)
        ∙ ap (pick headed reference) (place_behind opened b dialogue_place dialogue reference_place (reference_place + k.reference) dialogue_short (omega arith))

    pub passed_stand : stand_of (passed_kept k g next n) (passed_store k g next b) ≡ after (stand_of k b) g next n
    passed_stand = joined (between_none (passed_store k g next b) body_place (body_place + 0) (omega arith)) dialogue_stands reference_stands
      where
        joined : {t d r t₂ d₂ r₂ : List ℕ} → t ≡ t₂ → d ≡ d₂ → r ≡ r₂
            → ◌≡◌ {A = Stand}
            (record { state = bare next; offset = k.offset + n; body = t; released = false; dialogue = d; reference = r; count = one_more k.count; final = awaited })
            (record { state = bare next; offset = k.offset + n; body = t₂; released = false; dialogue = d₂; reference = r₂; count = one_more k.count; final = awaited })
        joined p q u = rw (p, q, u)

    pub passed_store_lem : (rows : List Row) → passed_store k g next b ≡ referred (record { stand = after (stand_of k b) g next n; rows = rows; opened = opened; headed = headed }) b
    unfolding referred
    passed_store_lem rows =
        ap (λ (l : List ℕ). put_part headed l reference_place reference) (came_part opened b dialogue_place dialogue (stand_of k b).dialogue)
        ∙ came_part headed (put_part opened b dialogue_place (pick opened dialogue (stand_of k b).dialogue)) reference_place reference (stand_of k b).reference

-- What a segment brings

-- a turn with what was lent to it
pub turn_lent : (s : List ℕ) (st : State) (t₁ t₂ : Table) (d₁ d₂ r₁ r₂ : List ℕ) (turn : Result Turn Refusal) → turn ≡ turn_with t₁ s d₁ r₁ st 0 (segment_at s 0) → t₁ ≡ t₂ → d₁ ≡ d₂ → r₁ ≡ r₂
    → turn ≡ turn_with t₂ s d₂ r₂ st 0 (segment_at s 0)
turn_lent s st t₁ t₂ d₁ d₂ r₁ r₂ turn e t d r =
    e
    ∙ ap (λ (x : Table). turn_with x s d₁ r₁ st 0 (segment_at s 0)) t
    ∙ ap (λ (x : List ℕ). turn_with t₂ s x r₁ st 0 (segment_at s 0)) d
    ∙ ap (λ (x : List ℕ). turn_with t₂ s d₂ x st 0 (segment_at s 0)) r

unpicked : (came : Bool) (t old : List ℕ) → came ≡ false → pick came t old ≡ old
unpicked came t old e = ap (λ (p : Bool). pick p t old) e

-- the one row of a segment, its offset counted from where the segment begins
pub row_raised : (base : ℕ) (r : Row) → r.offset ≡ 0 → base < 65536 → raised base (take 3 (0 ∷ r.group ∷ r.tag ∷ [])) ≡ numbers (raise base r ∷ [])
unfolding raised numbers
row_raised base r e h =
    let z : (0 + base) % 4294967296 ≡ base + r.offset = omega arith in
    rw z

module _ (x : Progress) (b s : List ℕ) (ready : Ready x b s) where
  abbrev kept : Kept
  kept = x.kept

  abbrev stand : Stand
  stand = stand_of kept b

  abbrev came : List ℕ
  came = ready.bytes

  length_body : length stand.body ≡ kept.body
  length_body =
      let h = ready.goes.sized.body in
      let l = ready.goes.big in
      length_between b body_place (body_place + kept.body) (omega arith) ∙ omega arith

  pub length_whole : length s ≡ kept.body + length came + 1
  length_whole =
      let n = length-append stand.body (came ++ (39 ∷ [])) in
      let m = length-append came (39 ∷ []) in
      let o = length_body in
      ap length ready.is ∙ omega arith

  next_is : drop kept.body s ≡ came ++ (39 ∷ [])
  next_is = ap (drop kept.body) ready.is ∙ drop_at stand.body (came ++ (39 ∷ [])) kept.body length_body

  final_is : stand.final ≡ awaited
  final_is = ap (λ (a : Final). final_by a kept.count) ready.goes.awaits

  within_all : kept.offset + length stand.body + length came + 1 ≤ 60000
  within_all =
      let h = ready.next.within in
      let o = length_body in
      omega arith

  within_one : length stand.body + length came + 1 ≤ 4096
  within_one =
      let h = ready.next.short in
      let o = length_body in
      omega arith

  module _ (turn : Result Turn Refusal) (took : turn ≡ turn_with tables s stand.dialogue stand.reference kept.state 0 (segment_at s 0)) where
    -- a good one
    module _ (next : State) (r : Row) (then : ℕ) (good : turn ≡ goes_on next r then) where
      pub good_within : (1 ≤ then) × (then ≤ length s) × (r.offset ≡ 0)
      good_within =
          one_within stand came s kept.state final_is ready.goes.opened ready.next.plain ready.next.unreleased within_all within_one refl ready.is turn took next r then good

      abbrev segment : List ℕ
      segment = take (then - 1) s

      abbrev brings : Brought
      brings =
          record {
            stand = after stand segment next (length s);
            rows = raise kept.offset r ∷ [];
            opened = opens kept.state.phase;
            headed = heads kept.state.phase next.phase;
          }

      pub length_good : length segment ≡ then - 1
      length_good = let w = good_within in length-take-le (then - 1) s (omega arith)

      pub short_good : length segment ≤ part_size
      short_good =
          let w = good_within in
          let l = length_good in
          let n = length_whole in
          let h = ready.next.short in
          omega arith

      good_told : (rest : List ℕ) → arrived_on stand (drop kept.body s ++ rest) ≡ followed brings (arrived_on (after stand segment next (length s)) rest)
      good_told rest =
          ap (λ (l : List ℕ). arrived_on stand (l ++ rest)) next_is
          ∙ ap (arrived_on stand) (append_assoc came (39 ∷ []) rest)
          ∙ one_on stand came s kept.state final_is ready.goes.opened ready.next.plain ready.next.unreleased within_all within_one refl ready.is turn took next r then good rest

      module _ (y : Kept) (c lent out : List ℕ) (is : y ≡ passed_kept kept segment next (length s)) (w : Sized y) (left : c ≡ passed_store kept segment next b)
          (put : out ≡ put_at lent x.numbers (raised kept.offset (take 3 (0 ∷ r.group ∷ r.tag ∷ [])))) where
        abbrev goal : Progress
        goal = record { kept = y; at = x.at + (length s - kept.body); numbers = x.numbers + 3; ended = false }

        stands_is : stand_of y c ≡ after stand segment next (length s)
        stands_is =
            ap (λ (z : Kept). stand_of z c) is
            ∙ ap (stand_of (passed_kept kept segment next (length s))) left
            ∙ passed_stand kept segment next (length s) ready.goes.sized short_good b ready.goes.big

        nothing_left : drop (goal.at - x.at) (drop kept.body s) ≡ []
        nothing_left =
            let l = length-drop kept.body s in
            let e : x.at + (length s - kept.body) - x.at ≡ length (drop kept.body s) = omega arith in
            rw e (drop-length (drop kept.body s))

        pub good_onward : Onward (drop kept.body s) x b lent goal c out
        good_onward =
            let l = length-drop kept.body s in
            let n = length_whole in
            let o = ap (λ (z : Kept). z.offset) is in
            record {
              brought = brings;
              told = λ rest.
                  good_told rest
                  ∙ ap (λ (z : Stand). followed brings (arrived_on z rest)) (sym stands_is)
                  ∙ ap (λ (t : List ℕ). followed brings (arrived_on (stand_of y c) (t ++ rest))) (sym nothing_left);
              stands = sym stands_is;
              store = left ∙ passed_store_lem kept segment next (length s) ready.goes.sized short_good b ready.goes.big (raise kept.offset r ∷ []);
              unopened = unpicked (opens kept.state.phase) (bytes_of segment next.dialogue) stand.dialogue;
              unheaded = unpicked (heads kept.state.phase next.phase) (bytes_of segment next.reference) stand.reference;
              count = omega arith;
              put = λ _. put ∙ ap (put_at lent x.numbers) (row_raised kept.offset r good_within.2 ready.goes.sized.offset);
              long = ap length put ∙ length_put lent x.numbers (raised kept.offset (take 3 (0 ∷ r.group ∷ r.tag ∷ [])));
              sized = w;
              from = omega arith;
              to = omega arith;
              paced = λ h. omega arith;
            }

        pub good_faster : Faster x goal
        good_faster =
            let n = length_whole in
            (λ _. omega arith, λ e. absurd (false≢true e), λ _. ap (λ (z : Kept). z.answer) is)

    -- a faulty one
    module _ (z : Refusal) (bad : turn ≡ Err z) where
      pub bad_within : z.position ≤ length s
      bad_within =
          stop_within stand came s kept.state final_is ready.goes.opened ready.next.plain ready.next.unreleased within_all within_one refl ready.is turn took z bad

      bad_told : (rest : List ℕ) → arrived_on stand (drop kept.body s ++ rest) ≡ only (answered stand (refused (moved_to (kept.offset + z.position) z)))
      bad_told rest =
          ap (λ (l : List ℕ). arrived_on stand (l ++ rest)) next_is
          ∙ ap (arrived_on stand) (append_assoc came (39 ∷ []) rest)
          ∙ one_stop stand came s kept.state final_is ready.goes.opened ready.next.plain ready.next.unreleased within_all within_one refl ready.is turn took z bad rest

      pub bad_onward : (lent : List ℕ) (y : Progress) → y ≡ named_at x (moved_to (kept.offset + z.position) z) → Onward (drop kept.body s) x b lent y b lent × Faster x y
      bad_onward lent y e =
          subst (λ (y : Progress). Onward (drop kept.body s) x b lent y b lent × Faster x y) (sym e) (
            onward_named (drop kept.body s) x b lent (moved_to (kept.offset + z.position) z) ready.goes.sized bad_told,
            (λ e. absurd (false≢true (sym e)), λ _. refl, λ e. absurd (false≢true (sym e))),
          )

-- A segment whose first bytes are in the store

module _ (x : Progress) (b p : List ℕ) (ready : ReadyPiece x b p) where
  abbrev front : List ℕ
  front = (stand_of x.kept b).body

  length_front : length front ≡ x.kept.body
  length_front =
      let h = ready.goes.sized.body in
      let l = ready.goes.big in
      length_between b body_place (body_place + x.kept.body) (omega arith) ∙ omega arith

  pub cut_short : x.kept.body + length p ≤ 4096
  cut_short =
      let n = length-append ready.bytes (39 ∷ []) in
      let e = ap length ready.is in
      let h = ready.next.short in
      omega arith

  -- both pieces in a room of their own
  pub cut_room : (o q t : List ℕ) → o ≡ put_at (replicate 4096 0) 0 t → q ≡ put_at o x.kept.body p → length q ≡ 4096
  cut_room o q t e g = ap length g ∙ length_put o x.kept.body p ∙ ap length e ∙ length_put (replicate 4096 0) 0 t ∙ length-replicate {A = ℕ} 4096 0

  pub cut_is : (o q t : List ℕ) → o ≡ put_at (replicate 4096 0) 0 t → t ≡ front → q ≡ put_at o x.kept.body p → take (x.kept.body + length p) q ≡ front ++ p
  cut_is o q t e f g =
      let n = length_front in
      let h = cut_short in
      let z = length-replicate {A = ℕ} 4096 0 in
      let m = length-append front p in
      take_put (replicate 4096 0) (front ++ p) q (x.kept.body + length p)
      (put_behind (replicate 4096 0) 0 front p x.kept.body (e ∙ ap (put_at (replicate 4096 0) 0) f) g refl (omega arith) (omega arith)) (omega arith) (omega arith)

  pub cut_ready : (s : List ℕ) → s ≡ front ++ p → Ready x b s
  cut_ready s e = record { goes = ready.goes; bytes = ready.bytes; is = e ∙ ap (λ (l : List ℕ). front ++ l) ready.is; next = ready.next; room = ready.room }

  pub cut_rest : (s : List ℕ) → s ≡ front ++ p → drop x.kept.body s ≡ p
  cut_rest s e = ap (drop x.kept.body) e ∙ drop_at front p x.kept.body length_front
