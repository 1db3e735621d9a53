-- What the code of the three calls comes to is what they answer and leave.
-- Assumes nothing.
use Rattle.std.specs.Prelude.{◌≡◌, Bool, true, false, List, [], ◌∷◌, ℕ, suc, ◌+◌, ◌*◌, ◌/◌, ◌≤◌, ◌<◌, leb, get_or, drop}
use Rattle.std.proofs.Math.Path.{refl, sym}
use Rattle.std.proofs.Common.{ap, subst, ◌∙◌, append-nil, arith, drop_of_length-le}
use Rattle.std.proofs.Math.ListN.{length}
use borrow.Author.Tests.{eq-eqb, ne_eqb, le-leb, le-ltb, lt-ltb, leb-true, leb-false}
use Rattle.laws.specs.Choice.{pick, both, all, choose, false≢true}
use Rattle.laws.specs.Lists.{between, length_between, drop_here, drop_past}
use Rattle.laws.specs.Put.{put_at, put_front, put_none, put_no_room, put_put, length_put}
use Rattle.answers.specs.Answers.{Answer, done, refused, naming, output_too_short}
use Rattle.syntax.specs.Bytes.{permitted_of}
use Rattle.syntax.specs.Segment.{permitted_run, body_answer}
use Rattle.steps.specs.declared.state.State.{State}
use Rattle.steps.specs.State.{opening_state}
use Rattle.interchange.specs.Reader.{accepted, is_closed, numbers}
use Rattle.interchange.specs.Laws.{length_numbers}
use Rattle.arrival.specs.Arrived as arrival
use Rattle.arrival.specs.Arrived.{Stand, Brought, awaited, given, beginning, only, answered, arrived_on, awaited_end, end_by, end_of}
use Rattle.arrival.specs.Folded.{arrived_stays}
use Rattle.arrival.specs.Few.{rows_few}
use Rattle.parcel_store.specs.declared.Final.{Final}
use Rattle.parcel_store.specs.declared.Final.TheVariants.{Awaited, Accepted, Refused}
use Rattle.parcel_store.specs.declared.Kept.{Kept}
use Rattle.parcel_store.specs.Store.{store_size, body_place, kept_in, final_by, stand_of, held_in, state_head, other_with, head_of, referred, keep}
use Rattle.parcel_store.specs.Laws.{saved, kept_sizes}
use Rattle.parcels.specs.declared.passing.Progress.{Progress}
use Rattle.parcels.specs.Onward.{Sized, length_referred, answered_kept, answered_stand}
use Rattle.parcels.specs.Whole.{is_awaited, Advanced}
use Rattle.parcels.specs.Calls.{Told, telling, brought_by, verdict_by, is_open, take_told, take_store, take_rows, finish_answer, finish_store, begin_told, begin_store}

-- What is loaded

pub sized_loaded : (b : List ℕ) (k : Kept) → k ≡ kept_in b → ((i : ℕ) → get_or b i 0 < 256) → Sized k
sized_loaded b k e bytes =
    let s = kept_sizes b bytes in
    subst Sized (sym e) (record { body = s.body; dialogue = s.dialogue; reference = s.reference; offset = s.offset })

pub awaited_is : (f : Final) → is_awaited f ≡ true → f ≡ Awaited
awaited_is Awaited q = refl
awaited_is Accepted q = absurd (false≢true q)
awaited_is (Refused x) q = absurd (false≢true q)

-- an answer that is there
given_by : (f : Final) (count : ℕ) → is_awaited f ≡ false → (a : Answer ℕ) × (final_by f count ≡ given a)
given_by Awaited count q = absurd (false≢true (sym q))
given_by Accepted count q = (done count, refl)
given_by (Refused x) count q = (refused x, refl)

awaited≢given : (a : Answer ℕ) → awaited ≡ given a → ⊥
awaited≢given a e = let z : ◌≡◌ {A = ℕ} 0 1 = cc in omega arith

pub given_final : (f : Final) (count : ℕ) (a : Answer ℕ) → final_by f count ≡ given a → is_awaited f ≡ false
given_final Awaited count a e = absurd (awaited≢given a e)
given_final Accepted count a e = refl
given_final (Refused x) count a e = refl

same_given : (a e : Answer ℕ) → given a ≡ given e → a ≡ e
same_given a e q = cc

-- Permitted bytes

-- the run goes on where it stands
pub run_more : (s : List ℕ) (i : ℕ) (r : Bool) → i < length s → r ≡ permitted_of (get_or s i 0) → r ≡ true → i + permitted_run (drop i s) ≡ permitted_run s → i + 1 + permitted_run (drop (i + 1) s) ≡ permitted_run s
unfolding permitted_run
run_more s i r h e q v =
    let t = ap permitted_run (drop_here s i h) ∙ ap (λ (p : Bool). pick p (suc (permitted_run (drop (i + 1) s))) 0) (sym e ∙ q) in
    omega arith

pub run_stops : (s : List ℕ) (i : ℕ) (r : Bool) → i < length s → r ≡ permitted_of (get_or s i 0) → r ≡ false → i + permitted_run (drop i s) ≡ permitted_run s → i ≡ permitted_run s
unfolding permitted_run
run_stops s i r h e q v =
    let t = ap permitted_run (drop_here s i h) ∙ ap (λ (p : Bool). pick p (suc (permitted_run (drop (i + 1) s))) 0) (sym e ∙ q) in
    omega arith

pub run_whole : (s : List ℕ) (i : ℕ) → length s ≤ i → i + permitted_run (drop i s) ≡ permitted_run s → i ≡ permitted_run s
unfolding permitted_run
run_whole s i h v =
    let t = ap permitted_run (drop_past s i h) in
    omega arith

run_all : (g : List ℕ) → all permitted_of g ≡ true → permitted_run g ≡ length g
unfolding permitted_run
run_all [] q = refl
run_all (b ∷ g) q =
    choose (permitted_of b) (λ f. rw f (ap suc (run_all g (rw f at q)))) (λ f. absurd (false≢true (rw f at q)))

run_short : (g : List ℕ) → all permitted_of g ≡ false → permitted_run g < length g
unfolding permitted_run
run_short [] q = absurd (false≢true (sym q))
run_short (b ∷ g) q =
    choose (permitted_of b) (λ f. rw f (let h = run_short g (rw f at q) in omega arith)) (λ f. rw f (omega arith))

-- the input is over inside a segment
pub cut_bad : (g : List ℕ) (at run : ℕ) → run ≡ permitted_run g → run < length g → refused (naming 4 (at + run)) ≡ body_answer (at + length g) at g
unfolding body_answer
cut_bad g at run e h =
    choose (all permitted_of g) (λ f. let k = run_all g f in absurd (omega arith)) (λ f. rw f (ap (λ (n : ℕ). refused (naming 4 (at + n))) e))

pub cut_good : (g : List ℕ) (at run : ℕ) → run ≡ permitted_run g → length g ≤ run → refused (naming 5 at) ≡ body_answer (at + length g) at g
unfolding body_answer
cut_good g at run e h =
    choose (all permitted_of g) (λ f. rw (f, le-ltb (at + length g) (at + length g) (omega arith)) refl) (λ f. let k = run_short g f in absurd (omega arith))

-- The end of the input

module _ (k : Kept) (b : List ℕ) (size : length b ≡ store_size) (sized : Sized k) where
  pub length_body : length (between b body_place (body_place + k.body)) ≡ k.body
  length_body =
      let s = sized.body in
      length_between b body_place (body_place + k.body) (omega arith) ∙ omega arith

  pub end_none : k.offset + k.body ≡ 0 → given (refused (naming 3 0)) ≡ given (awaited_end (stand_of k b))
  unfolding awaited_end
  end_none h =
      let l = length_body in
      rw (eq-eqb (k.offset + length (between b body_place (body_place + k.body))) 0 (omega arith)) refl

  module _ (some : k.offset + k.body ≡ 0 → ⊥) where
    pub end_cut : (r : Answer ℕ) → 0 < k.body → r ≡ body_answer (k.offset + length (between b body_place (body_place + k.body))) k.offset (between b body_place (body_place + k.body))
        → given r ≡ given (awaited_end (stand_of k b))
    unfolding awaited_end
    end_cut r h e =
        let l = length_body in
        rw (ne_eqb (k.offset + length (between b body_place (body_place + k.body))) 0 (λ z. absurd (some (omega arith))), ne_eqb (length (between b body_place (body_place + k.body))) 0 (λ z. absurd (omega arith))) (ap given e)

    pub end_closed : (q : Bool) → k.body ≤ 0 → q ≡ is_closed k.state.phase → q ≡ true → given (done k.count) ≡ given (awaited_end (stand_of k b))
    unfolding awaited_end
    end_closed q h e t =
        let l = length_body in
        rw (ne_eqb (k.offset + length (between b body_place (body_place + k.body))) 0 (λ z. absurd (some (omega arith))), eq-eqb (length (between b body_place (body_place + k.body))) 0 (omega arith), sym e ∙ t) refl

    pub end_early : (q : Bool) → k.body ≤ 0 → q ≡ is_closed k.state.phase → q ≡ false → given (refused (naming 7 k.offset)) ≡ given (awaited_end (stand_of k b))
    unfolding awaited_end
    end_early q h e t =
        let l = length_body in
        rw (ne_eqb (k.offset + length (between b body_place (body_place + k.body))) 0 (λ z. absurd (some (omega arith))), eq-eqb (length (between b body_place (body_place + k.body))) 0 (omega arith), sym e ∙ t) refl

  -- a row has four bytes at least
  pub room_quick : (parcel : List ℕ) (room : ℕ) → (k.body + length parcel) / 4 * 3 ≤ room → true ≡ leb (3 * length (arrived_on (stand_of k b) parcel).rows) room
  room_quick parcel room h =
      let l = length_body in
      let f = rows_few (stand_of k b) parcel in
      sym (le-leb (3 * length (arrived_on (stand_of k b) parcel).rows) room (omega arith))

put_whole : (o s : List ℕ) → length s ≡ length o → put_at o 0 s ≡ s
put_whole o s e = put_front o s (omega arith) ∙ rw (drop_of_length-le o {i = length s} (omega arith)) (append-nil s)

-- in a copy of the store
pub room_read : (k : Kept) (b o parcel none : List ℕ) (room : ℕ) (c : List ℕ) (y : Progress) (d out : List ℕ) → c ≡ put_at o 0 b → length b ≡ length o → Advanced parcel k c none y d out
    → leb y.numbers room ≡ leb (3 * length (arrived_on (stand_of k b) parcel).rows) room
room_read k b o parcel none room c y d out e l adv =
    let s : c ≡ b = e ∙ put_whole o b l in
    ap (λ (n : ℕ). leb n room) (adv.count ∙ ap (λ (x : Brought). 3 * length x.rows) (sym adv.told) ∙ ap (λ (x : List ℕ). 3 * length (arrived_on (stand_of k x) parcel).rows) s)

-- A store of another length

pub begin_other : (wish : Bool) (b : List ℕ) (t : Told) → (length b ≡ store_size → ⊥) → t ≡ telling 0 output_too_short → (t ≡ begin_told b) × (b ≡ begin_store wish b)
unfolding begin_told begin_store
begin_other wish b t h e = rw (ne_eqb (length b) store_size h) (e, refl)

pub take_other : (b parcel lent : List ℕ) (t : Told) → (length b ≡ store_size → ⊥) → t ≡ telling 0 output_too_short
    → (t ≡ take_told b parcel (length lent)) × ((b ≡ take_store b parcel (length lent)) × (lent ≡ take_rows b parcel lent))
unfolding take_told take_store take_rows
take_other b parcel lent t h e = rw (ne_eqb (length b) store_size h) (e, (refl, refl))

pub finish_other : (b : List ℕ) → (length b ≡ store_size → ⊥) → (output_too_short ≡ finish_answer b) × (b ≡ finish_store b)
unfolding finish_answer finish_store
finish_other b h = rw (ne_eqb (length b) store_size h) (refl, refl)

-- Nothing but the numbers is kept

referred_none : (x : Stand) (b : List ℕ) → b ≡ referred (only x) b
unfolding referred
referred_none x b = refl

pub keep_head : (x : Stand) (b : List ℕ) → x.body ≡ [] → keep (only x) b ≡ put_at b 0 (head_of x)
unfolding keep
keep_head x b e =
    ap (λ (l : List ℕ). put_at (put_at l body_place x.body) 0 (head_of x)) (sym (referred_none x b))
    ∙ ap (λ (l : List ℕ). put_at l 0 (head_of x)) (ap (put_at b body_place) e ∙ put_none b body_place)

abbrev pub begun_kept : State → Kept
begun_kept st = record { state = st; offset = 0; body = 0; released = false; dialogue = 0; reference = 0; count = 0; answer = Awaited }

begun_head : (wish : Bool) (b : List ℕ) → length b ≡ store_size → put_at (put_at b 0 (state_head (opening_state wish))) 20 (other_with (begun_kept (opening_state wish))) ≡ put_at b 0 (head_of (beginning wish))
unfolding head_of
begun_head wish b size = put_put b 0 (state_head (opening_state wish)) 20 (other_with (begun_kept (opening_state wish))) refl (omega arith)

pub begun : (wish : Bool) (b : List ℕ) (st : State) (c : List ℕ) → length b ≡ store_size → st ≡ opening_state wish → c ≡ put_at (put_at b 0 (state_head st)) 20 (other_with (begun_kept st))
    → (telling 0 accepted ≡ begin_told b) × (c ≡ begin_store wish b)
unfolding begin_told begin_store
begun wish b st c size s e =
    rw (eq-eqb (length b) store_size size)
    (refl, e ∙ ap (λ (x : State). put_at (put_at b 0 (state_head x)) 20 (other_with (begun_kept x))) s ∙ begun_head wish b size ∙ sym (keep_head (beginning wish) b refl))

-- A parcel

-- what a reading with its final answer there comes to
stays_by : (b parcel : List ℕ) (a : Answer ℕ) → (held_in b).final ≡ given a → brought_by b parcel ≡ only (held_in b)
stays_by b parcel a e = arrived_stays (held_in b) a e parcel

pub take_given : (b parcel lent : List ℕ) (k : Kept) (t : Told) → length b ≡ store_size → k ≡ kept_in b → is_awaited k.answer ≡ false
    → t ≡ telling 0 (verdict_by (final_by k.answer k.count)) → (t ≡ take_told b parcel (length lent)) × ((b ≡ take_store b parcel (length lent)) × (lent ≡ take_rows b parcel lent))
unfolding take_told take_store take_rows numbers
take_given b parcel lent k t size e q told =
    let g = given_by (kept_in b).answer (kept_in b).count (ap (λ (x : Kept). is_awaited x.answer) (sym e) ∙ q) in
    let s = stays_by b parcel g.0 g.1 in
    let f = told ∙ ap (λ (x : Kept). telling 0 (verdict_by (final_by x.answer x.count))) e in
    let o = ap is_open g.1 in
    rw (eq-eqb (length b) store_size size, o, s, le-ltb (length lent) 0 (omega arith))
    (f, (refl, sym (put_none lent 0)))

-- 17: the rows do not fit
pub take_crowded : (b parcel lent : List ℕ) (k : Kept) (t : Told) (r : Bool) → length b ≡ store_size → k ≡ kept_in b
    → r ≡ leb (3 * length (arrived_on (stand_of k b) parcel).rows) (length lent) → r ≡ false
    → t ≡ telling 0 output_too_short → (t ≡ take_told b parcel (length lent)) × ((b ≡ take_store b parcel (length lent)) × (lent ≡ take_rows b parcel lent))
unfolding take_told take_store take_rows
take_crowded b parcel lent k t r size e w q told =
    let h = leb-false (3 * length (brought_by b parcel).rows) (length lent) (ap (λ (x : Kept). leb (3 * length (arrived_on (stand_of x b) parcel).rows) (length lent)) (sym e) ∙ sym w ∙ q) in
    let n = length_numbers (brought_by b parcel).rows in
    let z = no_both (is_open (held_in b).final) in
    rw (eq-eqb (length b) store_size size, lt-ltb (length lent) (3 * length (brought_by b parcel).rows) h, z)
    (told, (refl, sym (put_no_room lent 0 (numbers (brought_by b parcel).rows) (omega arith))))
  where
    no_both : (p : Bool) → both p false ≡ false
    no_both true = refl
    no_both false = refl

-- the parcel is taken
kept_advanced : (b parcel lent : List ℕ) (k : Kept) (y : Progress) (c out d : List ℕ) → length b ≡ store_size → (adv : Advanced parcel k b lent y c out)
    → d ≡ put_at (put_at c 0 (state_head y.kept.state)) 20 (other_with y.kept) → d ≡ keep adv.brought b
unfolding keep
kept_advanced b parcel lent k y c out d size adv e =
    let x = adv.brought in
    let w = adv.sized in
    let l = ap length adv.store ∙ length_put (referred x b) body_place x.stand.body ∙ length_referred x b ∙ size in
    e
    ∙ saved y.kept c l w.body w.dialogue w.reference
    ∙ ap (λ (s : Stand). put_at c 0 (head_of s)) (sym adv.stands)
    ∙ ap (λ (o : List ℕ). put_at o 0 (head_of x.stand)) adv.store

pub take_open : (b parcel lent : List ℕ) (k : Kept) (y : Progress) (c out d : List ℕ) (t : Told) (r : Bool) → length b ≡ store_size → k ≡ kept_in b → k.answer ≡ Awaited
    → r ≡ leb (3 * length (arrived_on (stand_of k b) parcel).rows) (length lent) → r ≡ true → Advanced parcel k b lent y c out
    → d ≡ put_at (put_at c 0 (state_head y.kept.state)) 20 (other_with y.kept)
    → t ≡ telling (y.numbers / 3) (verdict_by (final_by y.kept.answer y.kept.count))
    → (t ≡ take_told b parcel (length lent)) × ((d ≡ take_store b parcel (length lent)) × (out ≡ take_rows b parcel lent))
unfolding take_told take_store take_rows
take_open b parcel lent k y c out d t r size e awaits w q adv put told =
    let x = adv.brought in
    let s : brought_by b parcel ≡ x = ap (λ (z : Kept). arrived_on (stand_of z b) parcel) (sym e) ∙ adv.told in
    let n = adv.count in
    let h = leb-true (3 * length x.rows) (length lent) (ap (λ (z : Brought). leb (3 * length z.rows) (length lent)) (sym adv.told) ∙ sym w ∙ q) in
    let o : is_open (held_in b).final ≡ true = ap (λ (z : Kept). is_open (final_by z.answer z.count)) (sym e) ∙ ap (λ (f : Final). is_open (final_by f k.count)) awaits in
    let m : y.numbers / 3 ≡ length x.rows = omega arith in
    rw (eq-eqb (length b) store_size size, o, s, le-ltb (length lent) (3 * length x.rows) h) (
      told ∙ ap (λ (i : ℕ). telling i (verdict_by (final_by y.kept.answer y.kept.count))) m ∙ ap (λ (z : Stand). telling (length x.rows) (verdict_by z.final)) (sym adv.stands),
      (kept_advanced b parcel lent k y c out d size adv put, adv.put (omega arith)),
    )

-- The input is over

pub finish_given : (b : List ℕ) (k : Kept) (a : Answer ℕ) → length b ≡ store_size → k ≡ kept_in b → is_awaited k.answer ≡ false → given a ≡ final_by k.answer k.count
    → (a ≡ finish_answer b) × (b ≡ finish_store b)
unfolding finish_answer finish_store
finish_given b k a size e q told =
    let f : final_by (kept_in b).answer (kept_in b).count ≡ given a = ap (λ (x : Kept). final_by x.answer x.count) (sym e) ∙ sym told in
    let o = ap is_open f in
    let g = ap (λ (z : arrival.Final). end_by z (held_in b)) f in
    rw (eq-eqb (length b) store_size size, o)
    (sym g, refl)

pub finish_open : (b : List ℕ) (k : Kept) (last : Final) (s : Kept) (c : List ℕ) (a : Answer ℕ) → length b ≡ store_size → k ≡ kept_in b → k.answer ≡ Awaited → Sized k
    → final_by last k.count ≡ given (awaited_end (stand_of k b)) → s ≡ answered_kept k last → c ≡ put_at (put_at b 0 (state_head s.state)) 20 (other_with s)
    → given a ≡ final_by last k.count → (a ≡ finish_answer b) × (c ≡ finish_store b)
unfolding finish_answer finish_store
finish_open b k last s c a size e awaits sized end is put told =
    let x = answered_kept k last in
    let z = awaited_end (stand_of k b) in
    let f : (held_in b).final ≡ awaited = ap (λ (y : Kept). final_by y.answer y.count) (sym e) ∙ ap (λ (y : Final). final_by y k.count) awaits in
    let o = ap is_open f in
    let g : end_of (held_in b) ≡ z = ap (λ (y : arrival.Final). end_by y (held_in b)) f ∙ ap (λ (y : Kept). awaited_end (stand_of y b)) (sym e) in
    let kept : c ≡ keep (only (answered (held_in b) z)) b =
    put
    ∙ ap (λ (y : Kept). put_at (put_at b 0 (state_head y.state)) 20 (other_with y)) is
    ∙ saved x b size (omega arith) sized.dialogue sized.reference
    ∙ ap (λ (y : Stand). put_at b 0 (head_of y)) (answered_stand k b last z end ∙ ap (λ (y : Kept). answered (stand_of y b) z) e)
    ∙ sym (keep_head (answered (held_in b) z) b refl) in
    rw (eq-eqb (length b) store_size size, o)
    (same_given a z (told ∙ end) ∙ sym g, kept ∙ ap (λ (y : Answer ℕ). keep (only (answered (held_in b) y)) b) (sym g))
