-- A stretch of a message in a parcel: where the reading stands behind it, and what it brought.
-- Assumes nothing.
use Rattle.std.specs.Prelude.{◌≡◌, false, List, [], ◌++◌, map, ℕ, zero, suc, ◌+◌, ◌-◌, ◌*◌, ◌/◌, ◌≤◌, length, take, drop, Result, Ok, Err}
use Rattle.std.proofs.Math.Path.{refl}
use Rattle.std.proofs.Common.{sym, ap, subst, ◌∙◌, append-nil}
use native.Mathlib.Omega.{arith}
use Rattle.std.proofs.lemmas.List.{length-map}
use Rattle.laws.specs.Choice.{choose, false≢true}
use Rattle.laws.specs.Lists.{between_none}
use Rattle.laws.specs.Put.{put_at, length_put, take_put}
use Rattle.answers.specs.declared.Refusal.{Refusal}
use Rattle.answers.specs.Answers.{Answer, refused, moved_to}
use Rattle.syntax.specs.Segment.{segment_at}
use Rattle.placing.specs.Tables.{tables}
use Rattle.steps.specs.declared.state.State.{State}
use Rattle.steps.specs.declared.state.Row.{Row}
use Rattle.interchange.specs.declared.turn.Turn.{Turn}
use Rattle.interchange.specs.Reader.{accepted, numbers, turn_with}
use Rattle.interchange.specs.Laws.{length_numbers}
use Rattle.interchange.specs.Room.{room_size, room_rows}
use Rattle.interchange.specs.Runs.{counted_of}
use Rattle.interchange.specs.Stretch.{Stretched, same_phase, is_ended, stretch_turn, stretch_on}
use Rattle.arrival.specs.Arrived.{Stand, awaited, answered, bare, followed, arrived_on}
use Rattle.arrival.specs.Folded.{arrived_stays}
use Rattle.arrival.specs.Passing.{raise}
use Rattle.arrival.specs.Stretching.{reached, stopped, gone_on, gone_stop, gone_position, gone_within, gone_few, gone_near, gone_some}
use Rattle.parcel_store.specs.declared.Final.{Final}
use Rattle.parcel_store.specs.declared.Final.TheVariants.{Awaited}
use Rattle.parcel_store.specs.Store.{body_place, final_by, stand_of}
use Rattle.parcels.specs.declared.passing.Progress.{Progress}
use Rattle.parcels.specs.Rows.{raised, raised_numbers}
use Rattle.parcels.specs.Onward.{Onward, named_at, named_stand, unfold_referred}
use Rattle.parcels.specs.Passing.{ReadyStretch, Faster}

-- no more rows than segments
turn_most : (n : ℕ) (more : State → ℕ → Stretched) → ((st : State) (at : ℕ) → length (more st at).rows ≤ n) → (st : State) (at : ℕ) (t : Result Turn Refusal) → length (stretch_turn more st at t).rows ≤ suc n
turn_most n more h st at (Ok t) =
    choose (same_phase st.phase t.state.phase) (λ q. let m = h t.state t.then in rw q (omega arith)) (λ q. rw q (omega arith))
turn_most n more h st at (Err z) = omega arith

stretch_most : (n : ℕ) (w reference : List ℕ) (st : State) (at : ℕ) → length (stretch_on n w reference st at).rows ≤ n
unfolding stretch_on
stretch_most zero w reference st at = omega arith
stretch_most (suc n) w reference st at =
    choose (is_ended w at)
    (λ q. rw q (turn_most n (stretch_on n w reference) (stretch_most n w reference) st at (turn_with tables w reference reference st at (segment_at w at))))
    (λ q. rw q (omega arith))

-- behind some segments, whose rows are so many numbers
abbrev pub beyond_at : Progress → State → ℕ → ℕ → ℕ → Progress
beyond_at x st at n count =
    record {
      kept =
          record {
            state = st;
            offset = x.kept.offset + at;
            body = 0;
            released = false;
            dialogue = x.kept.dialogue;
            reference = x.kept.reference;
            count = count;
            answer = Awaited;
          };
      at = x.at + at;
      numbers = x.numbers + n;
      ended = false;
    }

-- A stretch y.
module _ (x : Progress) (b p : List ℕ) (w : ReadyStretch x b p) (y : Stretched) (e : y ≡ stretch_on room_rows p (stand_of x.kept b).reference x.kept.state 0) where
  abbrev here : Stand
  here = stand_of x.kept b

  waits : here.final ≡ awaited
  waits = ap (λ (a : Final). final_by a x.kept.count) w.goes.awaits

  bodiless : here.body ≡ []
  bodiless = let z = w.empty in between_none b body_place (body_place + x.kept.body) (omega arith)

  pub within : y.at ≤ length p
  within = gone_within here p x.kept.state waits bodiless w.unreleased refl w.inside w.short w.within room_rows y e

  few : 4 * length y.rows ≤ y.at
  few = gone_few here p x.kept.state waits bodiless w.unreleased refl w.inside w.short w.within room_rows y e

  pub most : length y.rows ≤ room_rows
  most = subst (λ (a : Stretched). length a.rows ≤ room_rows) (sym e) (stretch_most room_rows p here.reference x.kept.state 0)

  pub placed : (u : Refusal) → y.verdict ≡ refused u → u.position ≤ length p
  placed = gone_position here p x.kept.state waits bodiless w.unreleased refl w.inside w.short w.within room_rows y e

  abbrev behind : Progress
  behind = beyond_at x y.state y.at (3 * length y.rows) (counted_of x.kept.count (length y.rows))

  behind_stand : stand_of behind.kept b ≡ (reached here y).stand
  behind_stand =
      ap (λ (l : List ℕ).
      record {
        state = bare y.state;
        offset = x.kept.offset + y.at;
        body = l;
        released = false;
        dialogue = here.dialogue;
        reference = here.reference;
        count = counted_of x.kept.count (length y.rows);
        final = awaited;
      })
      (between_none b body_place (body_place + 0) (omega arith))

  -- the rows, put where those before it end
  module _ (lent zeros room out : List ℕ) (size : length zeros ≡ room_size) (filled : room ≡ put_at zeros 0 (numbers y.rows))
      (put : out ≡ put_at lent x.numbers (raised x.kept.offset (take (3 * length y.rows) room))) where
    rows_put : out ≡ put_at lent x.numbers (numbers (map (raise x.kept.offset) y.rows))
    rows_put =
        let m = most in
        let l = length_numbers y.rows in
        let h = w.within in
        put
        ∙ ap (λ (a : List ℕ). put_at lent x.numbers (raised x.kept.offset a)) (take_put zeros (numbers y.rows) room (3 * length y.rows) filled (sym l) (omega arith))
        ∙ ap (put_at lent x.numbers)
        (raised_numbers x.kept.offset y.rows
        (gone_near here p x.kept.state waits bodiless w.unreleased refl w.inside w.short w.within room_rows y e) (omega arith))

    rows_long : length out ≡ length lent
    rows_long = ap length put ∙ length_put lent x.numbers (raised x.kept.offset (take (3 * length y.rows) room))

    the_same : (n k : ℕ) → n + k - n ≡ k
    the_same n k = omega arith

    sound : y.verdict ≡ accepted → Onward p x b lent behind b out × Faster x behind
    sound v =
        let g = w.goes.sized in
        let i = within in
        let h = w.within in
        let f = few in
        let m = length-map y.rows (raise x.kept.offset) in
        let some = gone_some here p x.kept.state waits bodiless w.unreleased refl w.inside w.short w.within room_rows y e w.ended (omega arith) v in (
          record {
            brought = reached here y;
            told = λ rest.
                gone_on here p x.kept.state waits bodiless w.unreleased refl w.inside w.short w.within room_rows y e v rest
                ∙ ap (λ (s : Stand). followed (reached here y) (arrived_on s (drop y.at p ++ rest))) (sym behind_stand)
                ∙ ap (λ (n : ℕ). followed (reached here y) (arrived_on (stand_of behind.kept b) (drop n p ++ rest))) (sym (the_same x.at y.at));
            stands = sym behind_stand;
            store = unfold_referred (reached here y) b refl refl;
            unopened = λ _. refl;
            unheaded = λ _. refl;
            count = omega arith;
            put = λ _. rows_put;
            long = rows_long;
            sized = record { body = omega arith; dialogue = g.dialogue; reference = g.reference; offset = omega arith };
            from = omega arith;
            to = omega arith;
            paced = λ q. omega arith;
          },
          ((λ _. omega arith), (λ q. absurd (false≢true q)), (λ _. refl)),
        )

    faulted : (u : Refusal) → y.verdict ≡ refused u
        → Onward p x b lent (named_at behind (moved_to (x.kept.offset + u.position) u)) b out × Faster x (named_at behind (moved_to (x.kept.offset + u.position) u))
    faulted u v =
        let g = w.goes.sized in
        let i = within in
        let h = w.within in
        let f = few in
        let m = length-map y.rows (raise x.kept.offset) in
        let a : Answer ℕ = refused (moved_to (x.kept.offset + u.position) u) in
        let s = stopped (reached here y) a in
        let z = named_stand behind.kept b (moved_to (x.kept.offset + u.position) u) ∙ ap (λ (t : Stand). answered t a) behind_stand in (
          record {
            brought = s;
            told = λ rest.
                gone_stop here p x.kept.state waits bodiless w.unreleased refl w.inside w.short w.within room_rows y e u v rest
                ∙ ap (λ (l : List Row). record { stand = s.stand; rows = l; opened = false; headed = false }) (sym (append-nil s.rows))
                ∙ ap (followed s) (sym (arrived_stays s.stand a refl (drop (x.at + y.at - x.at) p ++ rest)))
                ∙ ap (λ (t : Stand). followed s (arrived_on t (drop (x.at + y.at - x.at) p ++ rest))) (sym z);
            stands = sym z;
            store = unfold_referred s b refl refl;
            unopened = λ _. refl;
            unheaded = λ _. refl;
            count = omega arith;
            put = λ _. rows_put;
            long = rows_long;
            sized = record { body = omega arith; dialogue = g.dialogue; reference = g.reference; offset = omega arith };
            from = omega arith;
            to = omega arith;
            paced = λ q. omega arith;
          },
          ((λ q. absurd (false≢true (sym q))), (λ _. refl), (λ q. absurd (false≢true (sym q)))),
        )

  -- the same of what is equal to its numbers
  module _ (st : State) (at n count : ℕ) (lent zeros room out : List ℕ) (same_state : st ≡ y.state) (same_at : at ≡ y.at) (same_numbers : n ≡ 3 * length y.rows)
      (same_count : count ≡ counted_of x.kept.count (n / 3)) (size : length zeros ≡ room_size) (filled : room ≡ put_at zeros 0 (numbers y.rows))
      (put : out ≡ put_at lent x.numbers (raised x.kept.offset (take n room))) where
    same_behind : beyond_at x st at n count ≡ behind
    same_behind =
        let k : n / 3 ≡ length y.rows = omega arith in
        ap (λ (a : State). beyond_at x a at n count) same_state
        ∙ ap (λ (a : ℕ). beyond_at x y.state a n count) same_at
        ∙ ap (λ (a : ℕ). beyond_at x y.state y.at a count) same_numbers
        ∙ ap (beyond_at x y.state y.at (3 * length y.rows)) (same_count ∙ ap (counted_of x.kept.count) k)

    same_put : out ≡ put_at lent x.numbers (raised x.kept.offset (take (3 * length y.rows) room))
    same_put = put ∙ ap (λ (a : ℕ). put_at lent x.numbers (raised x.kept.offset (take a room))) same_numbers

    pub stretch_sound : y.verdict ≡ accepted → Onward p x b lent (beyond_at x st at n count) b out × Faster x (beyond_at x st at n count)
    stretch_sound v = subst (λ (z : Progress). Onward p x b lent z b out × Faster x z) (sym same_behind) (sound lent zeros room out size filled same_put v)

    pub stretch_faulted : (u : Refusal) → y.verdict ≡ refused u
        → Onward p x b lent (named_at (beyond_at x st at n count) (moved_to (x.kept.offset + u.position) u)) b out × Faster x (named_at (beyond_at x st at n count) (moved_to (x.kept.offset + u.position) u))
    stretch_faulted u v =
        subst (λ (z : Progress). Onward p x b lent (named_at z (moved_to (x.kept.offset + u.position) u)) b out × Faster x (named_at z (moved_to (x.kept.offset + u.position) u))) (sym same_behind)
        (faulted lent zeros room out size filled same_put u v)
